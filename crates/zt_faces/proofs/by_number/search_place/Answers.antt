use Rattle.std.proofs.Common.{rules}
use Rattle.std.proofs.lemmas.Fn.{always_returns_same}
use Rattle.std.specs.Ordering.{nat_cmp}
use Rattle.zt_faces.specs.declared.slots.Slot.{Slot}
use Rattle.zt_faces.specs.Slots.{number_of}
use Rattle.zt_faces.proofs.Rising.{searched-none, searched-place}
use Rattle.zt_faces.proofs.by_number.search_place.Goals as goal

pub returns-in-Ok-clause-found : goal.returns-in-Ok-clause-found
returns-in-Ok-clause-found g c =
    let facts = c.in-Ok.ensures in
    searched-place number_of c.args.number c.args.slots.now c.in-Ok.place facts.bound
    (facts.position (λ (s : Slot g.row.K.Denot). nat_cmp (number_of s) c.args.number) (always_returns_same _ _ _ (λ a r h called. (search rules, search rules))))

pub returns-in-Err-clause-none : goal.returns-in-Err-clause-none
returns-in-Err-clause-none g c =
    let facts = c.in-Err.ensures in
    searched-none number_of c.args.number c.args.slots.now c.in-Err.field-0 c.requires
    (facts.position (λ (s : Slot g.row.K.Denot). nat_cmp (number_of s) c.args.number) (always_returns_same _ _ _ (λ a r h called. (search rules, search rules))))
