use Rattle.std.proofs.Common.{◌++◌, [], ◌∷◌, List, None}
use Rattle.std.proofs.lemmas.Result.{on_ok_weaker}
use Rattle.zt_indexes.specs.Ordered.{ordered_entries}
use Rattle.zt_interest_index.specs.Index.{Interest}
use Rattle.zt_interest_index.proofs.Changed.{changes-any}
use Rattle.zt_interest_index.proofs.index.InterestIndex.put.Goals as goal

pub returns-in-None : goal.returns-in-None
returns-in-None g c =
    let more : List (Interest g.row.K.Denot) → List (Interest g.row.K.Denot) = λ rows. rows ++ ((c.args.face, c.args.id), None) ∷ [] in
    rw (← c.self.view_is, c.in-None.is)
    (on_ok_weaker c.push.result
    (λ is. changes-any g.K.Ord.cmp g.met.K.Ord.total more c.self.inside.any c.push.new.self (ordered_entries g.K.Ord.cmp c.self.inside.keyed.entries) is)
    c.push.ensures.ok)
