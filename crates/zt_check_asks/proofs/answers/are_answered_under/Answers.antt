use Rattle.std.proofs.Common.{◌≡◌, subst, IfOk}
use Rattle.std.specs.List.{list_all}
use Rattle.zt_check_asks.specs.Answering.{is_answered_under}
use Rattle.zt_check_asks.proofs.answers.are_answered_under.Goals as goal

pub returns : goal.returns
returns g c =
    let x = c.args in
    subst (λ asks. IfOk c.all_answered_under.result (λ hold. hold ≡ list_all (is_answered_under g.K.Ord.cmp g.K.Key.matching x.fabric.now x.told.now x.pending x.rows.now x.face.now) asks))
    c.asks.ensures c.all_answered_under.ensures
