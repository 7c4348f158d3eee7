use Rattle.std.proofs.Common.{◌≡◌, flat_map}
use Rattle.zt_model.specs.Routing.{interest_order}
use Rattle.zt_interests.specs.Held.{held_by}
use Rattle.zt_tokens.specs.Gathered.{with_keys}
use Rattle.zt_interests.proofs.opening.insert_faces.Given as goal

-- with what the faces left hold, from the last on, all is in its places
abbrev pub invariant-loop-f : goal.invariant-loop-f
invariant-loop-f g l =
    with_keys (interest_order g.K.Ord.cmp g.K.Key.matching) (flat_map held_by l.f-iterator.iter) l.interests
    ≡ with_keys (interest_order g.K.Ord.cmp g.K.Key.matching) (flat_map held_by l.fn.faces) l.fn.interests
