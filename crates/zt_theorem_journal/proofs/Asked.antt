-- What the entry of an ask says, wherever it stands in a replay.
use Rattle.std.proofs.Common.{◌≡◌, ℕ, suc, zero, ◌+◌, Bool, true, false, if◌then◌else◌, ◌==◌, List, [], ◌∷◌, map, filter, take, slice_get, Option, Some, None, is_none, Ok, refl, sym, ap, subst, ◌∙◌}
use Rattle.std.specs.Cmp.{IsTotalOrder}
use Rattle.std.specs.declared.cmp.Ordering.{Ordering}
use Rattle.zt_region.specs.Region.{whatami_eq}
use Rattle.zt_region.specs.declared.region.WhatAmI.{WhatAmI}
use Rattle.zt_region.specs.declared.region.WhatAmI.TheVariants.{Peer}
use Rattle.zt_protocol.specs.Interest.{has_tokens}
use Rattle.zt_protocol.specs.Plain.{Interest, NewSession, PlainCall}
use Rattle.zt_protocol.specs.declared.entries.Sent.{Sent}
use Rattle.zt_protocol.specs.declared.errors.Refusal.{Refusal}
use Rattle.zt_protocol.specs.declared.errors.Refusal.TheVariants as refusal
use Rattle.zt_protocol.specs.declared.interests.InterestMode.TheVariants.{Current}
use Rattle.zt_model.specs.Fabric.{entry_by, printed_for, sorted_by_face}
use Rattle.zt_model.specs.Hearing.{messages_for}
use Rattle.zt_model.specs.Journal.{IsReplay, Journalled, cause_of, face_of_call, made_by, outcome_of, rows_after, rows_replayed}
use Rattle.zt_model.specs.Promises.{answers_in}
use Rattle.zt_model.specs.Refusals.{call_causes, is_unknown_face}
use Rattle.zt_model.specs.Rows.{Face, Rows}
use Rattle.zt_model.specs.Says.{Sends, answered_expressions, find_face, said}
use Rattle.zt_model.specs.Visible.{visible_expressions}
use Rattle.zt_model.specs.Wants.{is_about, kept_options}
use Rattle.zt_laws.specs.Order.{InKeyOrder}
use Rattle.zt_laws.proofs.Calls.{no_cause}
use Rattle.zt_laws.proofs.Keys.{in_order_filter}
use Rattle.zt_laws.proofs.Lists.{by_test}
use Rattle.zt_laws.proofs.Sorting.{printed_sorted}
use Rattle.zt_laws.proofs.Visible.{visible_expressions_in_order}
use Rattle.zt_theorem_answers.proofs.AtOnce.{answered_at_once}
use Rattle.zt_theorem_journal.specs.Asked.{AreVisible, answers_to, tokens_alone}

-- an ask for tokens alone is kept as one for tokens
tokens_stay : (mode : WhatAmI) → has_tokens (kept_options mode tokens_alone) ≡ true
tokens_stay mode = by_test (whatami_eq mode Peer) (λ is. rw is refl) (λ is. rw is refl)

module _ {K : Type 0} (cmp : K → K → Ordering) (matching : K → K → Bool) where
  -- each entry of a replay is what its call comes to on the rows that the entries before it leave
  pub replayed_at : (place : ℕ) (es : List (Journalled K)) (g : Rows K) (entry : Journalled K) → IsReplay cmp matching es g → slice_get es place ≡ Some entry
      → (entry.made ≡ made_by cmp matching entry.call (rows_replayed cmp matching (take place es) g)) × (entry.outcome ≡ outcome_of cmp matching entry.call (rows_replayed cmp matching (take place es) g))
  unfolding rows_replayed
  replayed_at place [] g entry replay at = cc
  replayed_at zero (e ∷ es) g entry replay at =
      let is : e ≡ entry = cc in
      subst (λ (x : Journalled K). (x.made ≡ made_by cmp matching x.call g) × (x.outcome ≡ outcome_of cmp matching x.call g)) is (replay.0, replay.1)
  replayed_at (suc place) (e ∷ es) g entry replay at = replayed_at place es (rows_after cmp matching e.call g) entry replay.2 at

  -- messages of one gateway are printed for a face as they are said to it
  printed_alone : (n : ℕ) (ss : Sends K) → printed_for n (map (λ m. record { gateway = 1; face = m.0; message = m.1 }) ss) ≡ messages_for n ss
  unfolding printed_for messages_for
  printed_alone n [] = refl
  printed_alone n (s ∷ ss) =
      by_test (n == s.0)
      (λ own. rw own (ap (λ ms. s.1 ∷ ms) (printed_alone n ss)))
      (λ own. rw own (printed_alone n ss))

  -- an accepted outcome is what the call says
  said_where_accepted : (c : PlainCall K) (g : Rows K) (sent : List (Sent K)) → outcome_of cmp matching c g ≡ Ok sent
      → (cause_of cmp matching c g ≡ None) × (sent ≡ sorted_by_face (map (λ m. record { gateway = 1; face = m.0; message = m.1 }) (said cmp matching c g)))
  unfolding outcome_of
  said_where_accepted c g sent outcome = cases (cause_of cmp matching c g) refl outcome
    where
      all : List (Sent K)
      all = sorted_by_face (map (λ m. record { gateway = 1; face = m.0; message = m.1 }) (said cmp matching c g))

      cases : (o : Option Refusal) → cause_of cmp matching c g ≡ o → entry_by cmp matching o all ≡ Ok sent → (cause_of cmp matching c g ≡ None) × (sent ≡ all)
      cases None is ok = (is, cc)
      cases (Some r) is ok = cc

  -- an accepted session has the face that it made
  pub session_made : (first : ℕ) (g : Rows K) (sent : List (Sent K)) → outcome_of cmp matching (NewSession first) g ≡ Ok sent → made_by cmp matching (NewSession first) g ≡ Some (g.made + 1)
  unfolding made_by
  session_made first g sent outcome = ap (λ (o : Option Refusal). elim o [ None ↦ face_of_call (NewSession first) g | Some r ↦ None ]) (said_where_accepted (NewSession first) g sent outcome).0

  -- the face of an accepted ask is there
  asker_of : (n id : ℕ) (e : Option K) (g : Rows K) → cause_of cmp matching (Interest n id Current tokens_alone e) g ≡ None → (f : Face K) × (find_face n g ≡ Some f)
  unfolding cause_of call_causes
  asker_of n id e g accepted = cases (find_face n g) refl
    where
      cases : (o : Option (Face K)) → find_face n g ≡ o → (f : Face K) × (find_face n g ≡ Some f)
      cases (Some f) is = (f, is)
      cases None is =
          let known : is_none (find_face n g) ≡ false = (no_cause (is_unknown_face n g) refusal.UnknownFace _ accepted).0 in
          cc

  -- an accepted ask is answered what is visible
  pub visible_found : (n id : ℕ) (e : Option K) (g : Rows K) (sent : List (Sent K)) → outcome_of cmp matching (Interest n id Current tokens_alone e) g ≡ Ok sent → AreVisible cmp matching n e g (answers_to n id sent)
  unfolding answered_expressions
  visible_found n id e g sent outcome =
      let c = Interest n id Current tokens_alone e in
      let accepted = said_where_accepted c g sent outcome in
      let asker = asker_of n id e g accepted.0 in
      let f = asker.0 in
      let all = map (λ m. record { gateway = 1; face = m.0; message = m.1 }) (said cmp matching c g) in
      record {
        asker = f;
        found = asker.1;
        are =
            ap (answers_to n id) accepted.1
            ∙ ap (answers_in id) (printed_sorted n all ∙ printed_alone n (said cmp matching c g))
            ∙ answered_at_once cmp matching n id Current tokens_alone e f g asker.1
            ∙ ap (λ b. if b then filter (is_about matching e) (visible_expressions cmp g f.region) else []) (tokens_stay f.mode);
      }

  -- what is visible stands in key order
  pub visible_in_order : IsTotalOrder cmp → (n : ℕ) (e : Option K) (g : Rows K) (keys : List K) → AreVisible cmp matching n e g keys → InKeyOrder cmp keys
  visible_in_order total n e g keys are = subst (InKeyOrder cmp) (sym are.are) (in_order_filter cmp (is_about matching e) (visible_expressions cmp g are.asker.region) (visible_expressions_in_order cmp total g are.asker.region))
