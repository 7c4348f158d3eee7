use Rattle.std.proofs.Common.{◌≡◌, None, ap, subst, sym, ◌∙◌}
use Rattle.zt_protocol.specs.Plain.{plain_call}
use Rattle.zt_gateway.proofs.Accepted.{face_of_accepted, numbers_are_left, outcome_of_accepted, rows_of_accepted}
use Rattle.zt_theorem_soundness.proofs.Calls.{sound_after_any}
use Rattle.zt_theorem_soundness.specs.Sound.{IsSound}
use Rattle.zt_laws.specs.Sound.{rows_after_call}
use Rattle.zt_model.specs.Journal.{cause_of, face_of_call}
use Rattle.zt_gateway.proofs.carrying.carried.Goals as goal

pub face_of-made-requires : goal.face_of-made-requires
face_of-made-requires g c =
    let accepted : cause_of g.K.Ord.cmp g.K.Key.matching (plain_call c.args.call.now) c.args.kept.now ≡ None =
    ap (cause_of g.K.Ord.cmp g.K.Key.matching (plain_call c.args.call.now)) (sym (c.in-Some.ensures ∙ c.restore.ensures)) ∙ sym (rw c.in-Ok-None.field-0-is at c.in-Ok-None.ensures) in
    λ opens. rw (c.in-Some.ensures ∙ c.restore.ensures) (numbers_are_left _ _ (plain_call c.args.call.now) c.args.kept.now accepted opens)

pub returns-in-Ok-clause-rows : goal.returns-in-Ok-clause-rows
returns-in-Ok-clause-rows g c =
    let accepted : cause_of g.K.Ord.cmp g.K.Key.matching (plain_call c.args.call.now) c.args.kept.now ≡ None =
    ap (cause_of g.K.Ord.cmp g.K.Key.matching (plain_call c.args.call.now)) (sym (c.in-Some.ensures ∙ c.restore.ensures)) ∙ sym (rw c.in-Ok-None.field-0-is at c.in-Ok-None.ensures) in
    c.in-Ok.ensures.state ∙ ap (rows_after_call g.K.Ord.cmp g.K.Key.matching (plain_call c.args.call.now)) c.restore.ensures ∙ rows_of_accepted _ _ (plain_call c.args.call.now) c.args.kept.now accepted

pub returns-in-Ok-clause-made : goal.returns-in-Ok-clause-made
returns-in-Ok-clause-made g c =
    let accepted : cause_of g.K.Ord.cmp g.K.Key.matching (plain_call c.args.call.now) c.args.kept.now ≡ None =
    ap (cause_of g.K.Ord.cmp g.K.Key.matching (plain_call c.args.call.now)) (sym (c.in-Some.ensures ∙ c.restore.ensures)) ∙ sym (rw c.in-Ok-None.field-0-is at c.in-Ok-None.ensures) in
    c.face_of-made.ensures ∙ ap (face_of_call (plain_call c.args.call.now)) (c.in-Some.ensures ∙ c.restore.ensures) ∙ face_of_accepted _ _ (plain_call c.args.call.now) c.args.kept.now accepted

pub returns-in-Ok-clause-sound : goal.returns-in-Ok-clause-sound
returns-in-Ok-clause-sound g c =
    subst (IsSound g.K.Ord.cmp g.K.Key.matching) (sym (returns-in-Ok-clause-rows g c))
    (sound_after_any g.K.Ord.cmp g.K.Key.matching g.met.K.Ord.total g.met.K.Key.laws.equal_is_same (plain_call c.args.call.now) c.args.kept.now c.requires.first c.requires.sound)

pub returns-in-Ok-clause-outcome : goal.returns-in-Ok-clause-outcome
returns-in-Ok-clause-outcome g c =
    let accepted : cause_of g.K.Ord.cmp g.K.Key.matching (plain_call c.args.call.now) c.args.kept.now ≡ None =
    ap (cause_of g.K.Ord.cmp g.K.Key.matching (plain_call c.args.call.now)) (sym (c.in-Some.ensures ∙ c.restore.ensures)) ∙ sym (rw c.in-Ok-None.field-0-is at c.in-Ok-None.ensures) in
    outcome_of_accepted _ _ (plain_call c.args.call.now) c.args.kept.now accepted
