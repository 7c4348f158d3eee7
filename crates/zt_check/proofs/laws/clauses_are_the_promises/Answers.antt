use Rattle.zt_model.specs.Fabric.{empty_fabric}
use Rattle.zt_check.proofs.ClauseLemmas.{enough, no_more}
use Rattle.zt_check.proofs.laws.clauses_are_the_promises.Goals as goal

pub returns : goal.returns
returns g c =
    let cmp = g.K.Ord.cmp in
    let matching = g.K.Key.matching in
    record {
      enough = λ lines entries whole h. enough cmp matching lines entries empty_fabric whole h;
      no_more = λ lines entries h. no_more cmp matching lines entries empty_fabric h;
    }
