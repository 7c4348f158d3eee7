use Rattle.std.proofs.Common.{List, filter, not}
use Rattle.zt_indexes.specs.Ordered.{ordered_entries}
use Rattle.zt_interest_index.specs.Holdings.{is_of}
use Rattle.zt_interest_index.specs.Index.{Interest}
use Rattle.zt_interest_index.proofs.Changed.{changes-any}
use Rattle.zt_interest_index.proofs.index.InterestIndex.remove.Goals as goal

pub returns-in-None : goal.returns-in-None
returns-in-None g c =
    let less : List (Interest g.row.K.Denot) → List (Interest g.row.K.Denot) = filter (λ row. not (is_of c.args.face c.args.id row)) in
    rw (← c.self.view_is, c.in-None.is)
    (changes-any g.K.Ord.cmp g.met.K.Ord.total less c.self.inside.any c.remove.new.self (ordered_entries g.K.Ord.cmp c.self.inside.keyed.entries) c.remove.ensures)
