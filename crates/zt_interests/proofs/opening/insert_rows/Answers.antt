use Rattle.std.proofs.Common.{◌∙◌}
use Rattle.zt_interests.specs.Held.{in_both}
use Rattle.zt_model.specs.Routing.{interest_order}
use Rattle.zt_tokens.proofs.Gathering.{with_keys-last}
use Rattle.zt_interests.proofs.opening.insert_rows.Goals as goal

pub loop-interest-preserved : goal.loop-interest-preserved
loop-interest-preserved g c =
    rw c.in_ok-insert.ensures
    (with_keys-last (interest_order g.K.Ord.cmp g.K.Key.matching) (λ row. in_both row.1) c.loop-interest.interest-iterator.iter c.next.new.self.iter (c.in-Some.field-0-0.now, c.in-Some.interest.now) c.loop-interest.interests c.in-Some.ensures.steps ∙ c.loop-interest.invariant)
