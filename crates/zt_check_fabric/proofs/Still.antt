-- Calls that open no face, and what they keep of a gateway's faces.
use Rattle.std.proofs.Common.{◌≡◌, ℕ, Bool, true, false, ◌==◌, not, List, Option, None, Some, refl, ◌∙◌}
use Rattle.std.specs.declared.cmp.Ordering.{Ordering}
use Rattle.zt_region.specs.declared.region.Zid.{Zid}
use Rattle.zt_protocol.specs.Plain.{PlainCall, NewSession, NewTransport, DeclareToken, UndeclareToken, Interest, InterestFinal, DeclareFinal, CloseFace, Expire, SetTrees, SetEntities}
use Rattle.zt_protocol.specs.declared.messages.Message.{Message}
use Rattle.zt_protocol.specs.declared.messages.Message.TheVariants as message
use Rattle.zt_model.specs.Entities.{entity_expressions, numbered_by, with_numbers}
use Rattle.zt_model.specs.Fabric.{CallAt, Fabric, Link, Node, Place, call_at, call_at_place, call_face, call_of_face, closing_call, with_call_face}
use Rattle.zt_model.specs.Linking.{call_of_message, waiting_of}
use Rattle.zt_model.specs.Lists.{nth}
use Rattle.zt_model.specs.Parts.{find_face, is_routed, with_face}
use Rattle.zt_model.specs.Rows.{Face, InterestRow, Rows}
use Rattle.zt_model.specs.Shown.{by_face, counts_as_declared, interest_kept, router_meant, rows_shown, with_declared, with_held, with_initial_final, with_interest, with_question, with_source, with_token, without_declared, without_expired, without_held, without_pending, without_source, without_token}
use Rattle.zt_model.specs.Transcript.{call_stepped, oldest_of, printed_end, speaking_face}
use Rattle.zt_model.specs.Trees.{with_routed, without_routed}
use Rattle.zt_check_fabric.proofs.Kept.{Keeps, each_changed, each_filtered, keeps_face, keeps_if, keeps_same, keeps_then}

-- whether a call opens a face
abbrev pub opens : {K : Type 0} → PlainCall K → Bool
opens (NewSession first) = true
opens (NewTransport zid whatami region bound first) = true
opens _ = false

module _ {K : Type 0} (cmp : K → K → Ordering) where
  face_keeps : (n : ℕ) (g : Rows K) (change : Face K → Rows K) → ((f : Face K) → Keeps g (change f)) → Keeps g (by_face cmp n g change)
  face_keeps n g change keeps = go (find_face n g)
    where
      go : (found : Option (Face K)) → Keeps g (elim found [ None ↦ g | Some f ↦ change f ])
      go None = keeps_same g
      go (Some f) = keeps f

  source_keeps : (f : Face K) (source : Option Zid) (e : K) (g : Rows K) → Keeps g (with_source cmp f source e g)
  unfolding with_routed
  source_keeps f None e g = keeps_same g
  source_keeps f (Some source) e g = record { numbers = λ p each. each; made = refl }

  sourceless_keeps : (f : Face K) (source : Option Zid) (e : Option K) (g : Rows K) → Keeps g (without_source cmp f source e g)
  unfolding without_routed
  sourceless_keeps f None e g = keeps_same g
  sourceless_keeps f (Some source) None g = keeps_same g
  sourceless_keeps f (Some source) (Some e) g = record { numbers = λ p each. each; made = refl }

  declared_keeps : (n id : ℕ) (e : K) (node : ℕ) (interest : Option ℕ) (g : Rows K) (f : Face K) → Keeps g (with_declared cmp n id e node interest g f)
  declared_keeps n id e node interest g f =
      keeps_if (is_routed g f) g _ _ (source_keeps f (router_meant g f node) e g)
      (keeps_if (counts_as_declared f interest) g _ _ (keeps_face n (with_token id e) (λ x. refl) g) (keeps_same g))

  undeclared_keeps : (n id : ℕ) (e : Option K) (node : ℕ) (g : Rows K) (f : Face K) → Keeps g (without_declared cmp n id e node g f)
  undeclared_keeps n id e node g f =
      keeps_if (is_routed g f) g _ _ (sourceless_keeps f (router_meant g f node) e g) (keeps_face n (without_token id) (λ x. refl) g)

  interest_keeps : (n id : ℕ) (pendings : List (ℕ × ℕ)) (interest : InterestRow K) (g : Rows K) → Keeps g (with_interest cmp n id pendings interest g)
  interest_keeps n id pendings interest g =
      let h = with_numbers cmp (numbered_by cmp interest) g in
      let numbered : Keeps g h = record { numbers = λ p each. each; made = refl } in
      keeps_then g h (with_face n (λ f. with_question pendings id interest (with_held id interest f)) h) numbered
      (keeps_face n (λ f. with_question pendings id interest (with_held id interest f)) (λ f. refl) h)

  pub shown_keeps : (pendings : List (ℕ × ℕ)) (call : PlainCall K) (g : Rows K) → opens call ≡ false → Keeps g (rows_shown cmp pendings call g)
  unfolding rows_shown
  shown_keeps pendings (NewSession first) g still = cc
  shown_keeps pendings (NewTransport zid whatami region bound first) g still = cc
  shown_keeps pendings (DeclareToken n id e node interest) g still = face_keeps n g (with_declared cmp n id e node interest g) (declared_keeps n id e node interest g)
  shown_keeps pendings (UndeclareToken n id e node) g still = face_keeps n g (without_declared cmp n id e node g) (undeclared_keeps n id e node g)
  shown_keeps pendings (Interest n id mode options e) g still =
      face_keeps n g (λ f. with_interest cmp n id pendings (interest_kept f mode options e) g) (λ f. interest_keeps n id pendings (interest_kept f mode options e) g)
  shown_keeps pendings (InterestFinal n id) g still = keeps_face n (without_held id) (λ f. refl) g
  shown_keeps pendings (DeclareFinal n id) g still =
      let h = with_face n (with_initial_final id) g in
      keeps_then g h (with_face n (without_pending id) h) (keeps_face n (with_initial_final id) (λ f. refl) g) (keeps_face n (without_pending id) (λ f. refl) h)
  shown_keeps pendings (CloseFace n) g still = record { numbers = λ p each. each_filtered (λ f. not (n == f.number)) p g.faces each; made = refl }
  shown_keeps pendings (Expire now) g still = record { numbers = λ p each. each_changed (without_expired now g.timeout) (λ f. refl) p g.faces each; made = refl }
  shown_keeps pendings (SetTrees region table) g still = record { numbers = λ p each. each; made = refl }
  shown_keeps pendings (SetEntities n subscribers queryables) g still =
      let h = with_numbers cmp (entity_expressions cmp subscribers queryables) g in
      let numbered : Keeps g h = record { numbers = λ p each. each; made = refl } in
      keeps_then g h (with_face n (λ f. record f { subscribers = subscribers; queryables = queryables }) h) numbered
      (keeps_face n (λ f. record f { subscribers = subscribers; queryables = queryables }) (λ f. refl) h)

-- ---- which calls open none

module _ {K : Type 0} where
  -- a call, if there is one, opens no face
  abbrev pub IsStill : Option (CallAt K) → Type 0
  IsStill None = Unit {0}
  IsStill (Some at) = opens at.call ≡ false

  pub still_at : (s : Fabric K) (n : ℕ) (call : PlainCall K) → opens call ≡ false → IsStill (call_at s n call)
  still_at s n call still = go (nth n s.gateways)
    where
      go : (found : Option (Node K)) → IsStill (elim found [ None ↦ None | Some node ↦ Some (record { gateway = n; rows = node.rows; call = call }) ])
      go None = tt
      go (Some node) = still

  face_still : (n : ℕ) (call : PlainCall K) → opens (with_call_face n call) ≡ opens call
  face_still n (NewSession first) = refl
  face_still n (NewTransport zid whatami region bound first) = refl
  face_still n (DeclareToken face id e node interest) = refl
  face_still n (UndeclareToken face id e node) = refl
  face_still n (Interest face id mode options e) = refl
  face_still n (InterestFinal face id) = refl
  face_still n (DeclareFinal face id) = refl
  face_still n (CloseFace face) = refl
  face_still n (Expire now) = refl
  face_still n (SetTrees region table) = refl
  face_still n (SetEntities face subscribers queryables) = refl

  still_place : (s : Fabric K) (call : PlainCall K) (place : Option Place) → opens call ≡ false → IsStill (call_at_place s call place)
  still_place s call None still = tt
  still_place s call (Some p) still = still_at s p.gateway (with_call_face p.face call) (face_still p.face call ∙ still)

  pub still_closing : (s : Fabric K) (face : ℕ) → IsStill (closing_call s face)
  still_closing s face = still_place s (CloseFace face) (nth face s.faces) refl

  pub still_face : (s : Fabric K) (call : PlainCall K) → IsStill (call_of_face s call (call_face call))
  still_face s (NewSession first) = tt
  still_face s (NewTransport zid whatami region bound first) = tt
  still_face s (DeclareToken face id e node interest) = still_place s (DeclareToken face id e node interest) (nth face s.faces) refl
  still_face s (UndeclareToken face id e node) = still_place s (UndeclareToken face id e node) (nth face s.faces) refl
  still_face s (Interest face id mode options e) = still_place s (Interest face id mode options e) (nth face s.faces) refl
  still_face s (InterestFinal face id) = still_place s (InterestFinal face id) (nth face s.faces) refl
  still_face s (DeclareFinal face id) = still_place s (DeclareFinal face id) (nth face s.faces) refl
  still_face s (CloseFace face) = still_place s (CloseFace face) (nth face s.faces) refl
  still_face s (Expire now) = tt
  still_face s (SetTrees region table) = tt
  still_face s (SetEntities face subscribers queryables) = still_place s (SetEntities face subscribers queryables) (nth face s.faces) refl

  still_said : (s : Fabric K) (place : Option Place) (m : Message K) → IsStill (elim (call_of_message 0 m) [ None ↦ None | Some call ↦ call_at_place s call place ])
  still_said s place (message.DeclareToken id e interest node) = still_place s (DeclareToken 0 id e node interest) place refl
  still_said s place (message.UndeclareToken id e node) = still_place s (UndeclareToken 0 id e node) place refl
  still_said s place (message.DeclareFinal interest) = still_place s (DeclareFinal 0 interest) place refl
  still_said s place (message.Interest id mode options e) = still_place s (Interest 0 id mode options e) place refl
  still_said s place (message.InterestFinal id) = still_place s (InterestFinal 0 id) place refl
  still_said s place (message.DeclareSubscriber id e interest) = tt
  still_said s place (message.DeclareQueryable id e info interest) = tt

  pub still_step : (s : Fabric K) (back : Bool) (link : Option Link) → IsStill (call_stepped s back link)
  still_step s back None = tt
  still_step s back (Some link) = go (oldest_of (waiting_of s (printed_end link back)))
    where
      go : (found : Option (Message K)) → IsStill (elim found [ None ↦ None | Some m ↦ elim (call_of_message 0 m) [ None ↦ None | Some call ↦ call_at_place s call (nth (speaking_face link back) s.faces) ] ])
      go None = tt
      go (Some m) = still_said s (nth (speaking_face link back) s.faces) m
