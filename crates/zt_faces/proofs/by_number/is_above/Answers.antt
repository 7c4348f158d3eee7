use Rattle.std.proofs.Common.{ℕ, ◌<◌, subst, sym}
use Rattle.std.proofs.lemmas.Bool.{ltb-true}
use Rattle.zt_faces.specs.Slots.{number_of}
use Rattle.zt_faces.proofs.Gaps.{below-last}
use Rattle.zt_faces.proofs.by_number.is_above.Goals as goal

pub returns-in-Some : goal.returns-in-Some
returns-in-Some g c = λ above.
    below-last number_of c.args.number c.args.slots.now c.in-Some.slot.now c.requires (sym c.in-Some.ensures.value) (subst (λ (n : ℕ). n < c.args.number) c.number.ensures (ltb-true _ _ above))
