use Rattle.std.proofs.Common.{Some, None, subst, sym, ◌∙◌}
use Rattle.zt_indexes.specs.Ordered.{ordered_entries}
use Rattle.zt_interest_index.specs.Holders.{HasAllIn}
use Rattle.zt_interest_index.specs.Index.{Interests}
use Rattle.zt_interest_index.proofs.Changed.{rows-ordered}
use Rattle.zt_interest_index.proofs.InBucket.{bucket_has_all}
use Rattle.zt_interest_index.proofs.index.InterestIndex.interests_in.Goals as goal

pub returns-in-None : goal.returns-in-None
returns-in-None g c held indexed =
    let index : Interests g.row.K.Denot = (c.self.inside.any, ordered_entries g.K.Ord.cmp c.self.inside.keyed.entries) in
    let there = rw (← c.self.view_is) at indexed in
    rw c.in-None.is
    (subst (HasAllIn None held) (sym c.as_slice.ensures) (bucket_has_all g.K.Ord.cmp g.met.K.Ord.total None held index there))

pub returns-in-Some : goal.returns-in-Some
returns-in-Some g c held indexed =
    let cmp = g.K.Ord.cmp in
    let total = g.met.K.Ord.total in
    let key = c.in-Some.key in
    let index : Interests g.row.K.Denot = (c.self.inside.any, ordered_entries cmp c.self.inside.keyed.entries) in
    let there = rw (← c.self.view_is) at indexed in
    rw c.in-Some.is
    (subst (HasAllIn (Some key) held) (rows-ordered cmp total key c.self.inside.keyed.entries ∙ sym c.rows_in.ensures) (bucket_has_all cmp total (Some key) held index there))
