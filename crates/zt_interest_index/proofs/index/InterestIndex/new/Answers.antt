use Rattle.std.proofs.Common.{ap, ◌∙◌}
use Rattle.zt_indexes.specs.Ordered.{ordered_entries}
use Rattle.zt_indexes.proofs.Ordered.{ordered-none}
use Rattle.zt_interest_index.proofs.index.InterestIndex.new.Goals as goal

pub returns : goal.returns
returns g c =
    let cmp = g.K.Ord.cmp in
    λ i. (c.new.ensures i, (ap (ordered_entries cmp) c.new-2.ensures.empty ∙ ordered-none cmp) i)
