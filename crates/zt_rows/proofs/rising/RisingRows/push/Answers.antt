use Rattle.std.proofs.Common.{refl}
use Rattle.zt_rows.proofs.Places.{pushed-in}
use Rattle.zt_rows.proofs.rising.RisingRows.push.Goals as goal

pub invariant_of-self-2 : goal.invariant_of-self-2
invariant_of-self-2 g c = rw (c.in_ok-push.ensures.items, c.taken.ensures, ← c.deref.ensures.value) (c.if-not-are_below.ensures refl c.args.row)

pub returns-clause-ok : goal.returns-clause-ok
returns-clause-ok g c = rw (← c.self.view_is, c.in_ok-push.ensures.items, c.taken.ensures) (pushed-in c.args.id c.args.row c.self.inside.places.items)
