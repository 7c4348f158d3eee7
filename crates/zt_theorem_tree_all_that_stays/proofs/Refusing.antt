-- An interest that is followed and an answer to its ask are refused only for want of ids.
use Rattle.std.proofs.Common.{◌≡◌, ℕ, ◌≤◌, max, Bool, true, false, if◌then◌else◌, ◌&&◌, ◌||◌, ◌==◌, not, nat_lt, [], ◌∷◌, length, Option, Some, None, is_none, refl, sym, ap, ◌∙◌, arith}
use Rattle.std.proofs.lemmas.Bool.{le-ltb}
use Rattle.std.specs.Option.{option_to_list}
use Rattle.std.proofs.lemmas.Nat.{and_assoc}
use Rattle.std.specs.Int.Bits.{and_zero_r}
use Rattle.std.specs.Cmp.{IsTotalOrder}
use Rattle.std.specs.declared.cmp.Ordering.{Ordering}
use Rattle.std.specs.declared.cmp.Ordering.TheVariants.{Equal}
use Rattle.zt_region.specs.declared.region.WhatAmI.TheVariants.{Router, Client}
use Rattle.zt_region.specs.Region.{is_north, whatami_eq}
use Rattle.zt_protocol.specs.Interest.{has_aggregate, has_tokens, is_current, is_future}
use Rattle.zt_protocol.specs.declared.errors.Refusal.{Refusal}
use Rattle.zt_protocol.specs.declared.errors.Refusal.TheVariants as refusal
use Rattle.zt_protocol.specs.declared.interests.InterestOptions.{InterestOptions}
use Rattle.zt_protocol.specs.Plain.{DeclareToken, Interest}
use Rattle.zt_protocol.specs.declared.messages.Message.TheVariants as message
use Rattle.zt_model.specs.Entities.{numbered_by, numbered_with}
use Rattle.zt_model.specs.Lists.{at_id, has_id, is_some_and, same}
use Rattle.zt_model.specs.Parts.{find_face, is_routed}
use Rattle.zt_model.specs.Refusals.{Causes, GREATEST_DICTIONARY, adds_row, asks_from_north, call_causes, fills_dictionary, first_cause, is_illegal_current, is_interest_id_in_use, is_token_id_in_use, is_unknown_ask, is_unknown_face, is_unknown_router, on_face}
use Rattle.zt_model.specs.Rows.{Face, InterestRow, Pending, Rows}
use Rattle.zt_model.specs.Says.{row_of}
use Rattle.zt_model.specs.Telling.{registers}
use Rattle.zt_model.specs.Wants.{kept_options}
use Rattle.zt_laws.specs.Sound.{RiseFrom}
use Rattle.zt_laws.proofs.Hearing.{find_each}
use Rattle.zt_laws.proofs.Keys.{same_itself}
use Rattle.zt_laws.proofs.Lists.{by_test, never}
use Rattle.zt_theorem_tree_invariant.specs.Facts.{IsClear, IsTreeFace, top_of}
use Rattle.zt_theorem_tree_invariant.proofs.Knowledge.{is_no_router}
use Rattle.zt_theorem_tree_invariant.proofs.Saying.{TreeRows}
use Rattle.zt_theorem_tree_invariant.proofs.Speaks.{not_in_use}
use Rattle.zt_theorem_tree_invariant.proofs.Steps.{found_at}
use Rattle.zt_theorem_tree_all_that_stays.proofs.Leading.{asks_free}

skip : (b : Bool) (cause : Refusal) (causes : Causes) (r : Refusal) → b ≡ false → first_cause ((b, cause) ∷ causes) ≡ Some r → first_cause causes ≡ Some r
unfolding first_cause
skip b cause causes r no_ h = rw no_ at h

last_cause : (b : Bool) (cause r : Refusal) → first_cause ((b, cause) ∷ []) ≡ Some r → r ≡ cause
unfolding first_cause
last_cause true cause r h = let is : cause ≡ r = cc in sym is
last_cause false cause r h = cc

face_test : {K : Type 0} (n : ℕ) (g : Rows K) (test : Face K → Bool) (f : Face K) → find_face n g ≡ Some f → test f ≡ false → on_face n g test ≡ false
face_test n g test f found fails = ap (λ o. is_some_and o test) found ∙ fails

known_face : {K : Type 0} (n : ℕ) (g : Rows K) (f : Face K) → find_face n g ≡ Some f → is_unknown_face n g ≡ false
known_face n g f found = ap is_none found

module _ {K : Type 0} (cmp : K → K → Ordering) (matching : K → K → Bool) (total : IsTotalOrder cmp) (equal_is_same : (a b : K) → cmp a b ≡ Equal → a ≡ b) (p : ℕ) (g : Rows K) (z : Face K) (rows : TreeRows cmp g) (found : find_face p g ≡ Some z) where
  face : IsTreeFace g.mode z
  face = find_each (IsTreeFace g.mode) (λ (h : Face K). p == h.number) g.faces z rows.faces found

  plain : is_routed g z ≡ false
  plain = is_no_router g z face

  none_free : (a b : Bool) → ((a && false) || (b && false)) ≡ false
  none_free true true = refl
  none_free true false = refl
  none_free false true = refl
  none_free false false = refl

  no_aggregate : (o : InterestOptions) → has_tokens o ≡ true → has_aggregate (kept_options Client o) ≡ false
  no_aggregate o tokens = rw tokens (ap (λ n. n == 16) (and_assoc 16 o.0 239 ∙ and_zero_r o.0))

  pub interest_only_spent : (spent : Bool) (id : ℕ) (i : InterestRow K) (r : Refusal) → is_north z.region ≡ false → length g.dictionary ≤ GREATEST_DICTIONARY → has_tokens i.options ≡ true → is_illegal_current i.mode i.options ≡ false → max (top_of z.held) (top_of z.asks) ≤ id
      → first_cause (call_causes cmp matching spent (Interest p id i.mode i.options i.expr) g) ≡ Some r → r ≡ refusal.IdsSpent
  unfolding call_causes numbered_with
  interest_only_spent spent id i r down room tokens legal low refused =
      let client : z.mode ≡ Client = (face.down down).mode in
      let free : (is_future i.mode && has_id id z.held || is_current i.mode && has_id id z.asks) ≡ false = rw (asks_free id id z.held (omega arith) (omega arith), asks_free id id z.asks (omega arith) (omega arith)) (none_free (is_future i.mode) (is_current i.mode)) in
      let none_ : has_aggregate (kept_options z.mode i.options) ≡ false = ap (λ m. has_aggregate (kept_options m i.options)) client ∙ no_aggregate i.options tokens in
      let fits : fills_dictionary cmp matching (numbered_by cmp (row_of cmp matching z i.mode i.options i.expr)) g ≡ false = ap (λ b. nat_lt GREATEST_DICTIONARY (length (numbered_with cmp (if b then option_to_list i.expr else []) g.dictionary))) none_ ∙ le-ltb GREATEST_DICTIONARY (length g.dictionary) room in
      let one = skip _ _ _ r (known_face p g z found) refused in
      let two = skip _ _ _ r (face_test p g (λ f. whatami_eq f.mode Router) z found (ap (λ m. whatami_eq m Router) client)) one in
      let three = skip _ _ _ r (face_test p g (asks_from_north g) z found (rw down refl)) two in
      let four = skip _ _ _ r legal three in
      let five = skip _ _ _ r (face_test p g (is_interest_id_in_use id i.mode) z found free) four in
      let six = skip _ _ _ r (face_test p g (λ f. fills_dictionary cmp matching (numbered_by cmp (row_of cmp matching f i.mode i.options i.expr)) g) z found fits) five in
      last_cause _ refusal.IdsSpent r six

  and_none : (b : Bool) → (b && false) ≡ false
  and_none true = refl
  and_none false = refl

  -- an answer to an ask whose pending stands
  pub answer_only_spent : (spent : Bool) (id node pending : ℕ) (e : K) (r : Refusal) → is_north z.region ≡ true → has_id pending z.pendings ≡ true → RiseFrom (λ row. row.0) 0 z.live → IsClear cmp (message.DeclareToken id e (Some pending) node) z.live
      → ((q : Pending) → at_id pending z.pendings ≡ Some q → (id == 0) ≡ not (is_future q.mode)) → first_cause (call_causes cmp matching spent (DeclareToken p id e node (Some pending)) g) ≡ Some r → r ≡ refusal.IdsSpent
  unfolding call_causes
  answer_only_spent spent id node pending e r up stands lives clear fits refused =
      let one = skip _ _ _ r (known_face p g z found) refused in
      let two = skip _ _ _ r (face_test p g (λ f. true && not (is_north f.region)) z found (ap not up)) one in
      let three = skip _ _ _ r (face_test p g (is_unknown_ask id (Some pending) g) z found (rw (plain, stands) (and_none (id == 0)))) two in
      let four = skip _ _ _ r (face_test p g (is_unknown_router node g) z found (rw plain refl)) three in
      let five = skip _ _ _ r (face_test p g (λ f. adds_row (Some pending) g f && id == 0) z found (no_zero (found_at pending z.pendings stands))) four in
      let six = skip _ _ _ r (face_test p g (λ f. adds_row (Some pending) g f && is_token_id_in_use cmp id e f) z found in_use) five in
      last_cause _ refusal.IdsSpent r six
    where
      no_zero : (q : Pending) × (at_id pending z.pendings ≡ Some q) → (adds_row (Some pending) g z && id == 0) ≡ false
      no_zero q =
          let is : registers z (Some pending) ≡ is_future q.0.mode = ap (λ o. (let b : Bool = elim o [ None ↦ true | Some h ↦ is_future h.mode ] in b)) q.1 in
          rw (plain, is, fits q.0 q.1) (both (is_future q.0.mode))
        where
          both : (b : Bool) → (b && not b) ≡ false
          both true = refl
          both false = refl

      in_use : (adds_row (Some pending) g z && is_token_id_in_use cmp id e z) ≡ false
      in_use = by_test (id == 0) (λ zero_. zero_case zero_ (found_at pending z.pendings stands)) (λ some. ap (λ b. adds_row (Some pending) g z && b) (free some (at_id id z.live) refl) ∙ and_none (adds_row (Some pending) g z))
        where
          zero_case : (id == 0) ≡ true → (q : Pending) × (at_id pending z.pendings ≡ Some q) → (adds_row (Some pending) g z && is_token_id_in_use cmp id e z) ≡ false
          zero_case zero_ q =
              let is : registers z (Some pending) ≡ is_future q.0.mode = ap (λ o. (let b : Bool = elim o [ None ↦ true | Some h ↦ is_future h.mode ] in b)) q.1 in
              let not_later : is_future q.0.mode ≡ false = by_test (is_future q.0.mode) (λ later. never zero_ (fits q.0 q.1 ∙ ap not later)) (λ h. h) in
              rw (plain, is, not_later) refl

          free : (id == 0) ≡ false → (o : Option K) → at_id id z.live ≡ o → is_some_and o (λ live. not (same cmp e live)) ≡ false
          free some None at_ = refl
          free some (Some x) at_ = let is = not_in_use cmp total equal_is_same id e x (Some pending) node z.live some lives clear at_ in ap (λ k. not (same cmp e k)) is ∙ ap not (same_itself cmp total e)
