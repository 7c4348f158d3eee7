use Rattle.std.proofs.Common.{is_some, rules, tests}
use Rattle.std.proofs.lemmas.Fn.{filter_same}
use Rattle.zt_faces.specs.declared.slots.Slot.{Slot}
use Rattle.zt_faces.specs.Slots.{face_of, number_of}
use Rattle.zt_faces.proofs.Rising.{filtered-rising}
use Rattle.zt_faces.proofs.Gaps.{kept-in}
use Rattle.zt_faces.proofs.slots.close_gaps.Goals as goal

pub returns-then-gaps-open-clause-faces : goal.returns-then-gaps-open-clause-faces
returns-then-gaps-open-clause-faces g c =
    rw (filter_same _ (λ (s : Slot g.row.K.Denot). is_some (face_of s)) _ (λ x b f h. (search (rules, tests), search (rules, tests))) _ _ c.retain.ensures.filtered)
    (kept-in c.args.slots.now.items)

pub returns-then-gaps-open-clause-rising : goal.returns-then-gaps-open-clause-rising
returns-then-gaps-open-clause-rising g c =
    rw (filter_same _ (λ (s : Slot g.row.K.Denot). is_some (face_of s)) _ (λ x b f h. (search (rules, tests), search (rules, tests))) _ _ c.retain.ensures.filtered)
    (filtered-rising number_of (λ s. is_some (face_of s)) c.args.slots.now.items c.requires)
