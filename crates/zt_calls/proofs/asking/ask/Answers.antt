use Rattle.std.proofs.Common.{◌≡◌, ℕ, List, OnOk, ap, refl, subst, sym, ◌∙◌}
use Rattle.std.proofs.lemmas.Result.{on_ok_weaker}
use Rattle.std.specs.declared.cmp.Ordering.{Ordering}
use Rattle.zt_calls.proofs.Doing.{does-alter, does-both}
use Rattle.zt_calls.specs.Does.{Does}
use Rattle.zt_model.specs.Entities.{entities_for, numbered_by, with_numbers}
use Rattle.zt_model.specs.Parts.{to_face}
use Rattle.zt_model.specs.Routing.{is_target, route, sent_as}
use Rattle.zt_model.specs.Rows.{Rows}
use Rattle.zt_model.specs.Says.{interesting_above}
use Rattle.zt_protocol.specs.declared.interests.InterestMode.{InterestMode}
use Rattle.zt_region.specs.declared.region.Region.{Region}
use Rattle.zt_calls.proofs.asking.ask.Goals as goal

-- the dictionary changes no target
same-targets : {K : Type 0} (cmp : K → K → Ordering) (es : List K) (g : Rows K) (asker : Region) (mode : InterestMode) → sent_as (with_numbers cmp es g) asker mode ≡ sent_as g asker mode
unfolding sent_as is_target
same-targets cmp es g asker mode = refl

pub returns : goal.returns
returns g c =
    let cmp = g.K.Ord.cmp in
    let matching = g.K.Key.matching in
    let n = c.args.face in
    let id = c.args.id in
    let interest = c.args.interest.now in
    let asker = c.args.asker in
    let asked = c.in_ok-pendings.ensures ∙ ap (sent_as c.args.g.now asker) c.mode.ensures in
    let still =
    ap (λ (h : Rows g.row.K.Denot). sent_as h asker interest.mode) c.in_ok-number_interest.ensures
    ∙ same-targets cmp (numbered_by cmp interest) c.args.g.now asker interest.mode in
    let routed = c.in_ok-say.ensures (route asker interest) (c.in_ok-routed.ensures.routed asker c.number_interest.new.g (c.deref.ensures.value ∙ asked ∙ sym still)) in
    let listed = c.in_ok-say-2.ensures (λ h. to_face n (entities_for cmp matching h id interest) h) c.in_ok-entities.ensures in
    on_ok_weaker c.ask_at_face.result (λ done. does-both (does-both (does-both (does-alter (with_numbers cmp (numbered_by cmp interest)) c.in_ok-number_interest.ensures) routed) listed) done) (subst (λ (ps : List (ℕ × ℕ)). OnOk c.ask_at_face.result (Does cmp matching (interesting_above cmp matching ps n id interest) c.say-2.new.g c.ask_at_face.new.g c.say-2.new.speech c.ask_at_face.new.speech))
    (c.deref-2.ensures.value ∙ asked)
    c.ask_at_face.ensures)
