use Rattle.std.proofs.Common.{sym, ◌∙◌}
use Rattle.std.specs.HashMap.{get}
use Rattle.zt_face.specs.Locals.{asked_eq}
use Rattle.zt_face.proofs.Found.{found_absent, found_dropped}
use Rattle.zt_face.proofs.local_interests.LocalInterests.remove.Goals as goal

pub invariant_of-self : goal.invariant_of-self
invariant_of-self g c =
    rw c.take.ensures.rest
    (found_dropped g.K.Ord.cmp g.K.Key.matching (get (asked_eq g.K.PartialEq.eq) c.self.inside.ids) c.self.inside.rows c.self.invariant g.met.K.Ord.total g.met.K.Ord.matches_eq
    _ c.args.id c.in-Some.interest (sym c.take.ensures.row ∙ c.in-Some.is) (rw c.asked.ensures at c.drop_id.ensures))

pub invariant_of-self-in-Some-2 : goal.invariant_of-self-in-Some-2
invariant_of-self-in-Some-2 g c =
    rw c.take.ensures.rest
    (found_dropped g.K.Ord.cmp g.K.Key.matching (get (asked_eq g.K.PartialEq.eq) c.self.inside.ids) c.self.inside.rows c.self.invariant g.met.K.Ord.total g.met.K.Ord.matches_eq
    _ c.args.id c.in-Some.interest (sym c.take.ensures.row ∙ c.in-Some.is) (rw c.asked.ensures at c.drop_id.ensures))

pub invariant_of-self-in-None : goal.invariant_of-self-in-None
invariant_of-self-in-None g c =
    rw c.take.ensures.rest
    (found_absent g.K.Ord.cmp g.K.Key.matching (get (asked_eq g.K.PartialEq.eq) c.self.inside.ids) c.self.inside.rows c.self.invariant c.args.id (sym c.take.ensures.row ∙ c.in-None.is))
