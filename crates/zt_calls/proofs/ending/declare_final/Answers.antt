use Rattle.std.proofs.Common.{◌∷◌, [], Bool, if◌then◌else◌, OnOk, sym, subst}
use Rattle.std.proofs.lemmas.Result.{on_ok_weaker}
use Rattle.zt_calls.proofs.Doing.{does-alter, does-both}
use Rattle.zt_calls.specs.Does.{Does}
use Rattle.zt_model.specs.Parts.{Alter, with_face}
use Rattle.zt_model.specs.Routing.{ending, initial_finalised}
use Rattle.zt_calls.proofs.ending.declare_final.Goals as goal

pub returns-then-is_pending : goal.returns-then-is_pending
returns-then-is_pending g c =
    let change = with_face c.args.face (initial_finalised c.args.id) in
    subst (λ (b : Bool). OnOk c.end_pending.result (Does g.K.Ord.cmp g.K.Key.matching (Alter change ∷ (if b then ending c.args.face c.args.id else [])) c.args.g.now c.end_pending.new.g c.args.speech.now c.end_pending.new.speech)) (sym c.if-is_pending.true)
    (on_ok_weaker c.end_pending.result (λ done. does-both (does-alter change c.finalise_initial.ensures) done) c.end_pending.ensures)

pub returns-else-is_pending : goal.returns-else-is_pending
returns-else-is_pending g c =
    let change = with_face c.args.face (initial_finalised c.args.id) in
    subst (λ (b : Bool). Does g.K.Ord.cmp g.K.Key.matching (Alter change ∷ (if b then ending c.args.face c.args.id else [])) c.args.g.now c.finalise_initial.new.self c.args.speech.now c.args.speech.now) (sym c.if-is_pending.false)
    (does-alter change c.finalise_initial.ensures)
