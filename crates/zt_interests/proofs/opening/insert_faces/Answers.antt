use Rattle.std.proofs.Common.{◌∙◌}
use Rattle.zt_interests.specs.Held.{held_by}
use Rattle.zt_model.specs.Routing.{interest_order}
use Rattle.zt_tokens.proofs.Gathering.{with_keys-last_of}
use Rattle.zt_interests.proofs.opening.insert_faces.Goals as goal

pub loop-f-preserved : goal.loop-f-preserved
loop-f-preserved g c =
    rw c.in_ok-insert_held_by.ensures
    (with_keys-last_of (interest_order g.K.Ord.cmp g.K.Key.matching) held_by c.loop-f.f-iterator.iter c.next.new.self.iter c.in-Some.f.now c.loop-f.interests c.in-Some.ensures.steps ∙ c.loop-f.invariant)
