-- A step: an end of a joint speaks the oldest message that waits for it to. Where the call is accepted its rows become
-- what the message makes of them; where it is refused the message makes nothing of them.
use Rattle.std.proofs.Common.{◌≡◌, ◌≢◌, ℕ, ◌≤◌, ◌<◌, max, Bool, true, false, cond, if◌then◌else◌, ◌&&◌, ◌||◌, ◌==◌, not, nat_lt, List, [], ◌∷◌, ◌++◌, length, Option, Some, None, is_none, is_some, refl, sym, ap, ◌∙◌, subst, eq-eqb, eqb-true, ne_eqb, arith}
use Rattle.std.proofs.lemmas.Bool.{and_parts, le-ltb}
use Rattle.std.specs.Option.{option_to_list}
use Rattle.std.proofs.lemmas.Nat.{and_assoc}
use Rattle.std.specs.Int.Bits.{and_zero_r}
use Rattle.std.specs.Cmp.{IsTotalOrder}
use Rattle.std.specs.FinMap.Entries.{put}
use Rattle.std.specs.List.{list_any}
use Rattle.std.specs.Ordering.{nat_cmp}
use Rattle.std.specs.declared.cmp.Ordering.{Ordering}
use Rattle.std.specs.declared.cmp.Ordering.TheVariants.{Equal}
use Rattle.zt_region.specs.declared.region.WhatAmI.TheVariants.{Router, Client}
use Rattle.zt_region.specs.Region.{is_north, whatami_eq}
use Rattle.zt_protocol.specs.Interest.{has_aggregate, has_tokens, is_current, is_future}
use Rattle.zt_protocol.specs.declared.errors.Refusal.{Refusal}
use Rattle.zt_protocol.specs.declared.errors.Refusal.TheVariants as refusal
use Rattle.zt_protocol.specs.declared.interests.InterestMode.{InterestMode}
use Rattle.zt_protocol.specs.declared.interests.InterestOptions.{InterestOptions}
use Rattle.zt_protocol.specs.Plain.{PlainCall, DeclareToken, UndeclareToken, Interest, InterestFinal, DeclareFinal}
use Rattle.zt_protocol.specs.declared.messages.Message.{Message}
use Rattle.zt_protocol.specs.declared.messages.Message.TheVariants as message
use Rattle.zt_model.specs.Entities.{numbered_by, numbered_with}
use Rattle.zt_model.specs.Hearing.{messages_for, told_pair}
use Rattle.zt_model.specs.Lists.{at_id, has_id, is_some_and, same, without_id}
use Rattle.zt_model.specs.Parts.{find_face, is_routed}
use Rattle.zt_model.specs.Refusals.{Causes, GREATEST_DICTIONARY, adds_row, asks_from_north, call_causes, fills_dictionary, first_cause, is_interest_id_in_use, is_token_id_in_use, is_unknown_ask, is_unknown_face, is_unknown_router, is_unknown_token, on_face}
use Rattle.zt_model.specs.Routing.{asked_as, sent_as, unheld}
use Rattle.zt_model.specs.Rows.{ById, Face, InterestRow, Pending, Rows}
use Rattle.zt_model.specs.Says.{altered, row_of, said}
use Rattle.zt_model.specs.Telling.{registered, registers, undeclared, unregistered}
use Rattle.zt_model.specs.Transcript.{Each}
use Rattle.zt_model.specs.Wants.{kept_options}
use Rattle.zt_laws.specs.Sound.{RiseFrom}
use Rattle.zt_laws.proofs.Calls.{no_cause, not_on_face}
use Rattle.zt_laws.proofs.Hearing.{find_each}
use Rattle.zt_laws.proofs.Keys.{same_itself}
use Rattle.zt_laws.proofs.Lists.{by_test, each_append, each_fails, each_filter, each_weaker, filter_all, never, of_cond}
use Rattle.zt_theorem_tree_invariant.specs.Facts.{FitsModes, IsClear, IsTreeFace, JointAgrees, tokens_by, top_of}
use Rattle.zt_theorem_tree_invariant.proofs.Effects.{Acts, own_declare, own_final, own_finish, own_interest, own_undeclare}
use Rattle.zt_theorem_tree_invariant.proofs.Knowledge.{is_no_router}
use Rattle.zt_theorem_tree_invariant.proofs.Saying.{SaidWell, TreeRows}
use Rattle.zt_theorem_tree_invariant.proofs.Speaks.{lower_like, lower_speaks, not_in_use, put_is_told, upper_asks, upper_ends, upper_is_refused, upper_speaks_token, without_none}
use Rattle.zt_theorem_tree_invariant.proofs.Tracking.{thin}
use Rattle.zt_theorem_tree_invariant.proofs.Waiting.{below_top}

-- ---- causes, one after another

skip : (b : Bool) (cause : Refusal) (causes : Causes) (r : Refusal) → b ≡ false → first_cause ((b, cause) ∷ causes) ≡ Some r → first_cause causes ≡ Some r
unfolding first_cause
skip b cause causes r fails h = rw fails at h

last_cause : (b : Bool) (cause r : Refusal) → first_cause ((b, cause) ∷ []) ≡ Some r → r ≡ cause
unfolding first_cause
last_cause true cause r h = let is : cause ≡ r = cc in sym is
last_cause false cause r h = cc

no_more_causes : {A : Type 0} (r : Refusal) → first_cause [] ≡ Some r → A
unfolding first_cause
no_more_causes r h = absurd (cc)

-- a test of an open face
face_test : {K : Type 0} (n : ℕ) (g : Rows K) (test : Face K → Bool) (f : Face K) → find_face n g ≡ Some f → test f ≡ false → on_face n g test ≡ false
face_test n g test f found fails = ap (λ o. is_some_and o test) found ∙ fails

known_face : {K : Type 0} (n : ℕ) (g : Rows K) (f : Face K) → find_face n g ≡ Some f → is_unknown_face n g ≡ false
known_face n g f found = ap is_none found

pub found_at : {A : Type 0} (id : ℕ) (rows : ById A) → has_id id rows ≡ true → (x : A) × (at_id id rows ≡ Some x)
found_at id [] h = cc
found_at id (row ∷ rows) h = by_test (id == row.0) (λ here. rw here (row.1, refl)) (λ here. rw here (found_at id rows (rw here at h)))

no_id_below : {A : Type 0} (id : ℕ) (rows : ById A) → Each (λ row. row.0 < id) rows → has_id id rows ≡ false
no_id_below id [] all = refl
no_id_below id (row ∷ rows) all = let less : row.0 < id = all.0 in let miss : (id == row.0) ≡ false = ne_eqb id row.0 (λ is. omega arith) in rw miss (no_id_below id rows all.1)

pub not_true : {b : Bool} → not b ≡ false → b ≡ true
not_true {b} h = by_test b (λ e. e) (λ e. let t : not b ≡ true = ap not e in never t h)

module _ {K : Type 0} (cmp : K → K → Ordering) (matching : K → K → Bool) (total : IsTotalOrder cmp) (equal_is_same : (a b : K) → cmp a b ≡ Equal → a ≡ b) (g : Rows K) (p : ℕ) (z : Face K) (rows : TreeRows cmp g) (found : find_face p g ≡ Some z) (lives : RiseFrom (λ row. row.0) 0 z.live) where
  -- the end that speaks, once its call was accepted
  pub record Speaks (c : PlainCall K) (P : Face K → Type 0) : Type 0 where
    pub after : Face K
    pub altered_is : find_face p (altered cmp matching c g) ≡ Some after
    pub region : after.region ≡ z.region
    pub well : SaidWell cmp (is_north z.region) (messages_for p (said cmp matching c g)) after.told after.asks
    pub agrees : P after

  face : IsTreeFace g.mode z
  face = find_each (IsTreeFace g.mode) (λ (h : Face K). p == h.number) g.faces z rows.faces found

  plain : is_routed g z ≡ false
  plain = is_no_router g z face

  acts_speak : (c : PlainCall K) (P : Face K → Type 0) (after : Face K) → Acts cmp matching c g p z after → after.region ≡ z.region → P after → Speaks c P
  acts_speak c P after acts region_ agrees = record { after = after; altered_is = acts.altered_is; region = region_; well = acts.well; agrees = agrees }

  -- a real id of a clear token is refused for want of ids alone
  token_refused : (spent : Bool) (id node : ℕ) (e : K) (interest : Option ℕ) (r : Refusal) → (is_some interest && not (is_north z.region)) ≡ false → IsClear cmp (message.DeclareToken id e interest node) z.live → first_cause (call_causes cmp matching spent (DeclareToken p id e node interest) g) ≡ Some r → r ≢ refusal.IdsSpent → id ≡ 0
  unfolding call_causes
  token_refused spent id node e interest r south clear refused other =
      by_test (id == 0) (λ zero_. eqb-true id 0 zero_)
      (λ some.
      let one = skip _ _ _ r (known_face p g z found) refused in
      let two = skip _ _ _ r (face_test p g (λ f. is_some interest && not (is_north f.region)) z found south) one in
      let three = skip _ _ _ r (face_test p g (is_unknown_ask id interest g) z found (asks some interest)) two in
      let four = skip _ _ _ r (face_test p g (is_unknown_router node g) z found (rw plain refl)) three in
      let five = skip _ _ _ r (face_test p g (λ f. adds_row interest g f && id == 0) z found (rw some (and_none (adds_row interest g z)))) four in
      let six = skip _ _ _ r (face_test p g (λ f. adds_row interest g f && is_token_id_in_use cmp id e f) z found (in_use some)) five in
      absurd (other (last_cause _ refusal.IdsSpent r six)))
    where
      and_none : (b : Bool) → (b && false) ≡ false
      and_none true = refl
      and_none false = refl

      asks : (id == 0) ≡ false → (i : Option ℕ) → is_unknown_ask id i g z ≡ false
      asks some None = rw plain refl
      asks some (Some i) = rw plain (rw some refl)

      in_use : (id == 0) ≡ false → (adds_row interest g z && is_token_id_in_use cmp id e z) ≡ false
      in_use some = ap (λ b. adds_row interest g z && b) (free (at_id id z.live) refl) ∙ and_none (adds_row interest g z)
        where
          free : (o : Option K) → at_id id z.live ≡ o → is_some_and o (λ live. not (same cmp e live)) ≡ false
          free None at_ = refl
          free (Some x) at_ = let is = not_in_use cmp total equal_is_same id e x interest node z.live some lives clear at_ in ap (λ k. not (same cmp e k)) is ∙ ap not (same_itself cmp total e)

  -- where a token registers its id is real
  token_real : (spent : Bool) (id node : ℕ) (e : K) (interest : Option ℕ) → first_cause (call_causes cmp matching spent (DeclareToken p id e node interest) g) ≡ None → registers z interest ≡ true → (id == 0) ≡ false
  unfolding call_causes
  token_real spent id node e interest accepted adds =
      let one = no_cause _ _ _ accepted in
      let two = no_cause _ _ _ one.1 in
      let three = no_cause _ _ _ two.1 in
      let four = no_cause _ _ _ three.1 in
      let five = no_cause _ _ _ four.1 in
      let test : (adds_row interest g z && id == 0) ≡ false = not_on_face p g (λ f. adds_row interest g f && id == 0) z found five.0 in
      rw (plain, adds) at test

  -- ---- the upper end

  pub upper_token : (spent : Bool) (id node : ℕ) (e : K) (lower : Face K) (rising falling : List (Message K)) → first_cause (call_causes cmp matching spent (DeclareToken p id e node None) g) ≡ None
      → JointAgrees cmp lower z (message.DeclareToken id e None node ∷ rising) falling → Speaks (DeclareToken p id e node None) (λ h. JointAgrees cmp lower h rising falling)
  upper_token spent id node e lower rising falling accepted j =
      let m : Message K = message.DeclareToken id e None node in
      acts_speak (DeclareToken p id e node None) (λ h. JointAgrees cmp lower h rising falling) (registered id e z) (own_declare cmp matching p id node e None g z rows found) refl
      (upper_speaks_token cmp m (put nat_cmp id e z.live) lower z rising falling (put_is_told cmp total equal_is_same id e None node z.live (token_real spent id node e None accepted refl) lives j.clear_above.0) (λ rows. refl) (λ low r. r) j)

  pub upper_token_refused : (spent : Bool) (id node : ℕ) (e : K) (r : Refusal) (lower : Face K) (rising falling : List (Message K)) → is_north z.region ≡ false → first_cause (call_causes cmp matching spent (DeclareToken p id e node None) g) ≡ Some r → r ≢ refusal.IdsSpent
      → JointAgrees cmp lower z (message.DeclareToken id e None node ∷ rising) falling → JointAgrees cmp lower z rising falling
  upper_token_refused spent id node e r lower rising falling down refused other j =
      let zero_ = token_refused spent id node e None r refl j.clear_above.0 refused other in
      upper_speaks_token cmp (message.DeclareToken id e None node) z.live lower z rising falling (rw zero_ refl) (λ rows. refl) (λ low r. r) j

  pub upper_untoken : (spent : Bool) (id node : ℕ) (lower : Face K) (rising falling : List (Message K)) → first_cause (call_causes cmp matching spent (UndeclareToken p id None node) g) ≡ None
      → JointAgrees cmp lower z (message.UndeclareToken id None node ∷ rising) falling → Speaks (UndeclareToken p id None node) (λ h. JointAgrees cmp lower h rising falling)
  unfolding call_causes
  upper_untoken spent id node lower rising falling accepted j =
      let one = no_cause _ _ _ accepted in
      let two = no_cause _ _ _ one.1 in
      let three = no_cause _ _ _ two.1 in
      let there = found_at id z.live (not_true (not_on_face p g (is_unknown_token id None) z found three.0)) in
      acts_speak (UndeclareToken p id None node) (λ h. JointAgrees cmp lower h rising falling) (unregistered id z)
      (own_undeclare cmp matching p id node None g z rows found there.0 (ap (λ o. (let r : Option K = elim o [ None ↦ None | Some e ↦ Some e ] in r)) there.1)) refl
      (upper_speaks_token cmp (message.UndeclareToken id None node) (without_id id z.live) lower z rising falling refl (λ rows. refl) (λ low r. r) j)

  -- an undeclaration that is refused names no row
  untoken_refused : (spent : Bool) (id node : ℕ) (r : Refusal) → first_cause (call_causes cmp matching spent (UndeclareToken p id None node) g) ≡ Some r → has_id id z.live ≡ false
  unfolding call_causes
  untoken_refused spent id node r refused =
      by_test (has_id id z.live)
      (λ there.
      let one = skip _ _ _ r (known_face p g z found) refused in
      let two = skip _ _ _ r (face_test p g (is_unknown_router node g) z found (rw plain refl)) one in
      let three = skip _ _ _ r (face_test p g (is_unknown_token id None) z found (ap not there)) two in
      no_more_causes r three)
      (λ h. h)

  pub upper_untoken_refused : (spent : Bool) (id node : ℕ) (r : Refusal) (lower : Face K) (rising falling : List (Message K)) → first_cause (call_causes cmp matching spent (UndeclareToken p id None node) g) ≡ Some r
      → JointAgrees cmp lower z (message.UndeclareToken id None node ∷ rising) falling → JointAgrees cmp lower z rising falling
  upper_untoken_refused spent id node r lower rising falling refused j =
      upper_speaks_token cmp (message.UndeclareToken id None node) z.live lower z rising falling (sym (without_none id z.live (untoken_refused spent id node r refused))) (λ rows. refl) (λ low r. r) j

  pub upper_interest : (id : ℕ) (mode : InterestMode) (options : InterestOptions) (e : Option K) (lower : Face K) (rising falling : List (Message K)) → is_north z.region ≡ false
      → JointAgrees cmp lower z (message.Interest id mode options e ∷ rising) falling → Speaks (Interest p id mode options e) (λ h. JointAgrees cmp lower h rising falling)
  upper_interest id mode options e lower rising falling down j =
      let kept : kept_options z.mode options ≡ options = ap (λ m. kept_options m options) (face.down down).mode ∙ j.for_above.0 in
      let row_is : row_of cmp matching z mode options e ≡ record { mode = mode; options = options; expr = e } = ap (λ (o : InterestOptions). (let r : InterestRow K = record { mode = mode; options = o; expr = e } in r)) kept in
      acts_speak (Interest p id mode options e) (λ h. JointAgrees cmp lower h rising falling) (asked_as (sent_as g z.region mode) id (row_of cmp matching z mode options e) z)
      (own_interest cmp matching p id mode options e g z rows found down) refl
      (subst (λ (i : InterestRow K). JointAgrees cmp lower (asked_as (sent_as g z.region mode) id i z) rising falling) (sym row_is) (upper_asks cmp (sent_as g z.region mode) id mode options e lower z rising falling j))

  pub upper_interest_refused : (spent : Bool) (id : ℕ) (mode : InterestMode) (options : InterestOptions) (e : Option K) (r : Refusal) (lower : Face K) (rising falling : List (Message K)) → is_north z.region ≡ false → length g.dictionary ≤ GREATEST_DICTIONARY
      → first_cause (call_causes cmp matching spent (Interest p id mode options e) g) ≡ Some r → r ≢ refusal.IdsSpent → JointAgrees cmp lower z (message.Interest id mode options e ∷ rising) falling → JointAgrees cmp lower z rising falling
  unfolding call_causes numbered_with
  upper_interest_refused spent id mode options e r lower rising falling down room refused other j = upper_is_refused cmp id mode options e lower z rising falling (by_test (is_future mode && has_tokens options) (λ both. absurd (other (spent_alone both))) (λ h. h)) j
    where
      client : z.mode ≡ Client
      client = (face.down down).mode

      low : max (top_of z.held) (top_of z.asks) ≤ id
      low = j.ids_rise.0

      free : (is_future mode && has_id id z.held || is_current mode && has_id id z.asks) ≡ false
      free = rw (no_id_below id z.held (below_top id z.held (omega arith)), no_id_below id z.asks (below_top id z.asks (omega arith))) (none_ (is_future mode) (is_current mode))
        where
          none_ : (a b : Bool) → ((a && false) || (b && false)) ≡ false
          none_ true true = refl
          none_ true false = refl
          none_ false true = refl
          none_ false false = refl

      no_aggregate : (o : InterestOptions) → has_tokens o ≡ true → has_aggregate (kept_options Client o) ≡ false
      no_aggregate o tokens = rw tokens (ap (λ n. n == 16) (and_assoc 16 o.0 239 ∙ and_zero_r o.0))

      fits : has_tokens options ≡ true → fills_dictionary cmp matching (numbered_by cmp (row_of cmp matching z mode options e)) g ≡ false
      fits tokens =
          let none_ : has_aggregate (kept_options z.mode options) ≡ false = ap (λ m. has_aggregate (kept_options m options)) client ∙ no_aggregate options tokens in
          ap (λ b. nat_lt GREATEST_DICTIONARY (length (numbered_with cmp (if b then option_to_list e else []) g.dictionary))) none_ ∙ le-ltb GREATEST_DICTIONARY (length g.dictionary) room

      spent_alone : (is_future mode && has_tokens options) ≡ true → r ≡ refusal.IdsSpent
      spent_alone both =
          let parts = and_parts (is_future mode) (has_tokens options) both in
          let one = skip _ _ _ r (known_face p g z found) refused in
          let two = skip _ _ _ r (face_test p g (λ f. whatami_eq f.mode Router) z found (ap (λ m. whatami_eq m Router) client)) one in
          let three = skip _ _ _ r (face_test p g (asks_from_north g) z found (rw down refl)) two in
          let four = skip _ _ _ r (rw (parts.0) refl) three in
          let five = skip _ _ _ r (face_test p g (is_interest_id_in_use id mode) z found free) four in
          let six = skip _ _ _ r (face_test p g (λ f. fills_dictionary cmp matching (numbered_by cmp (row_of cmp matching f mode options e)) g) z found (fits parts.1)) five in
          last_cause _ refusal.IdsSpent r six

  pub upper_final : (spent : Bool) (id : ℕ) (lower : Face K) (rising falling : List (Message K)) → first_cause (call_causes cmp matching spent (InterestFinal p id) g) ≡ None
      → JointAgrees cmp lower z (message.InterestFinal id ∷ rising) falling → Speaks (InterestFinal p id) (λ h. JointAgrees cmp lower h rising falling)
  unfolding call_causes
  upper_final spent id lower rising falling accepted j =
      let one = no_cause _ _ _ accepted in
      let two = no_cause _ _ _ one.1 in
      let there = found_at id z.held (not_true (not_on_face p g (λ f. not (has_id id f.held)) z found two.0)) in
      acts_speak (InterestFinal p id) (λ h. JointAgrees cmp lower h rising falling) (unheld id z) (own_final cmp matching p id g z there.0 rows found there.1) refl (upper_ends cmp id lower z rising falling j)

  pub upper_final_refused : (spent : Bool) (id : ℕ) (r : Refusal) (lower : Face K) (rising falling : List (Message K)) → first_cause (call_causes cmp matching spent (InterestFinal p id) g) ≡ Some r
      → JointAgrees cmp lower z (message.InterestFinal id ∷ rising) falling → JointAgrees cmp lower z rising falling
  unfolding call_causes
  upper_final_refused spent id r lower rising falling refused j =
      let absent : has_id id z.held ≡ false = by_test (has_id id z.held)
      (λ there.
      let one = skip _ _ _ r (known_face p g z found) refused in
      let two = skip _ _ _ r (face_test p g (λ f. not (has_id id f.held)) z found (ap not there)) one in
      no_more_causes r two)
      (λ h. h) in
      subst (λ (held : ById (InterestRow K)). JointAgrees cmp lower (record z { held = held }) rising falling) (without_none id z.held absent) (upper_ends cmp id lower z rising falling j)

  -- ---- the lower end

  -- what a message that makes nothing of live rows leaves
  pub lower_ignores : (m : Message K) (upper : Face K) (rising falling : List (Message K)) → tokens_by cmp m z.live ≡ z.live → JointAgrees cmp z upper rising (m ∷ falling) → JointAgrees cmp z upper rising falling
  lower_ignores m upper rising falling still j = lower_speaks cmp m z.live z upper rising falling (sym still) j.live_real j

  pub lower_token : (spent : Bool) (id node : ℕ) (e : K) (interest : Option ℕ) (upper : Face K) (rising falling : List (Message K)) → first_cause (call_causes cmp matching spent (DeclareToken p id e node interest) g) ≡ None
      → JointAgrees cmp z upper rising (message.DeclareToken id e interest node ∷ falling) → Speaks (DeclareToken p id e node interest) (λ h. JointAgrees cmp h upper rising falling)
  lower_token spent id node e interest upper rising falling accepted j =
      let m : Message K = message.DeclareToken id e interest node in
      let after : Face K = if registers z interest then registered id e z else z in
      acts_speak (DeclareToken p id e node interest) (λ h. JointAgrees cmp h upper rising falling) after (own_declare cmp matching p id node e interest g z rows found)
      (of_cond (λ (h : Face K). h.region ≡ z.region) (registers z interest) (registered id e z) z (λ _. refl) (λ _. refl))
      (of_cond (λ (h : Face K). JointAgrees cmp h upper rising falling) (registers z interest) (registered id e z) z
      (λ adds.
      let real = token_real spent id node e interest accepted adds in
      let is = put_is_told cmp total equal_is_same id e interest node z.live real lives j.clear_below.0 in
      lower_speaks cmp m (put nat_cmp id e z.live) z upper rising falling is (subst (Each (λ row. 1 ≤ row.0)) (sym is) (told_real real)) j)
      (λ passes. lower_ignores m upper rising falling (ap (λ b. cond (b || list_any (λ row. (id == row.0) && same cmp e row.1) z.live) z.live (z.live ++ (id, e) ∷ [])) (zero_id interest j.modes passes)) j))
    where
      one_at_least : (k : ℕ) → (k == 0) ≡ false → 1 ≤ k
      one_at_least k h = grind (arith, h, eq-eqb k 0)

      told_real : (id == 0) ≡ false → Each (λ row. 1 ≤ row.0) (told_pair cmp id e z.live)
      told_real real =
          rw real (of_cond (Each (λ row. 1 ≤ row.0)) (list_any (λ row. (id == row.0) && same cmp e row.1) z.live) z.live (z.live ++ (id, e) ∷ []) (λ _. j.live_real) (λ _. each_append (λ row. 1 ≤ row.0) z.live ((id, e) ∷ []) j.live_real (one_at_least id real, tt)))

      -- an answer that isn't registered is one under the id 0
      zero_id : (i : Option ℕ) → Each (FitsModes upper rising (message.DeclareToken id e i node ∷ falling)) z.pendings → registers z i ≡ false → (id == 0) ≡ true
      zero_id None modes passes = never refl passes
      zero_id (Some i) modes passes = by_pending z.pendings modes passes
        where
          by_pending : (pendings : ById Pending) → Each (FitsModes upper rising (message.DeclareToken id e (Some i) node ∷ falling)) pendings → (let b : Bool = elim (at_id i pendings) [ None ↦ true | Some pending ↦ is_future pending.mode ] in b) ≡ false → (id == 0) ≡ true
          by_pending [] all h = never refl h
          by_pending (row ∷ pendings) all h =
              by_test (i == row.0)
              (λ here.
              let now_ : is_future row.1.mode ≡ false = rw here at h in
              all.0.falls.0 (sym (eqb-true i row.0 here)) ∙ ap not now_)
              (λ here. by_pending pendings all.1 (rw here at h))

  pub lower_token_refused : (spent : Bool) (id node : ℕ) (e : K) (interest : Option ℕ) (r : Refusal) (upper : Face K) (rising falling : List (Message K)) → is_north z.region ≡ true → first_cause (call_causes cmp matching spent (DeclareToken p id e node interest) g) ≡ Some r → r ≢ refusal.IdsSpent
      → JointAgrees cmp z upper rising (message.DeclareToken id e interest node ∷ falling) → JointAgrees cmp z upper rising falling
  lower_token_refused spent id node e interest r upper rising falling up refused other j =
      let zero_ = token_refused spent id node e interest r (rw up (and_none (is_some interest))) j.clear_below.0 refused other in
      lower_ignores (message.DeclareToken id e interest node) upper rising falling (rw zero_ refl) j
    where
      and_none : (b : Bool) → (b && false) ≡ false
      and_none true = refl
      and_none false = refl

  pub lower_untoken : (spent : Bool) (id node : ℕ) (given : Option K) (upper : Face K) (rising falling : List (Message K)) → first_cause (call_causes cmp matching spent (UndeclareToken p id given node) g) ≡ None
      → JointAgrees cmp z upper rising (message.UndeclareToken id given node ∷ falling) → Speaks (UndeclareToken p id given node) (λ h. JointAgrees cmp h upper rising falling)
  unfolding call_causes
  lower_untoken spent id node None upper rising falling accepted j =
      let one = no_cause _ _ _ accepted in
      let two = no_cause _ _ _ one.1 in
      let three = no_cause _ _ _ two.1 in
      let there = found_at id z.live (not_true (not_on_face p g (is_unknown_token id None) z found three.0)) in
      acts_speak (UndeclareToken p id None node) (λ h. JointAgrees cmp h upper rising falling) (unregistered id z)
      (own_undeclare cmp matching p id node None g z rows found there.0 (ap (λ o. (let r : Option K = elim o [ None ↦ None | Some e ↦ Some e ] in r)) there.1)) refl
      (lower_speaks cmp (message.UndeclareToken id None node) (without_id id z.live) z upper rising falling refl (each_filter (λ (row : ℕ × K). 1 ≤ row.0) (λ row. not (id == row.0)) z.live j.live_real) j)
  lower_untoken spent id node (Some e) upper rising falling accepted j =
      let clear = j.clear_below.0 in
      let named = some_named (at_id id z.live) refl in
      let absent : has_id id z.live ≡ false = rw (clear.0) (no_zero z.live j.live_real) in
      acts_speak (UndeclareToken p id (Some e) node) (λ h. JointAgrees cmp h upper rising falling) (unregistered id z)
      (own_undeclare cmp matching p id node (Some e) g z rows found named.0 named.1) refl
      (lower_speaks cmp (message.UndeclareToken id (Some e) node) (without_id id z.live) z upper rising falling (without_none id z.live absent ∙ sym (filter_all (λ row. not (same cmp e row.1)) z.live (each_weaker (λ row. same cmp e row.1 ≡ false) (λ row. not (same cmp e row.1) ≡ true) (λ row h. ap not h) z.live (each_fails (λ row. same cmp e row.1) z.live clear.1))))
      (each_filter (λ (row : ℕ × K). 1 ≤ row.0) (λ row. not (id == row.0)) z.live j.live_real) j)
    where
      no_zero : (xs : ById K) → Each (λ row. 1 ≤ row.0) xs → has_id 0 xs ≡ false
      no_zero [] all = refl
      no_zero (row ∷ xs) all = let real : 1 ≤ row.0 = all.0 in let miss : (0 == row.0) ≡ false = ne_eqb 0 row.0 (λ is. omega arith) in rw miss (no_zero xs all.1)

      some_named : (o : Option K) → at_id id z.live ≡ o → (x : K) × (undeclared cmp matching id (Some e) z ≡ Some x)
      some_named None at_ = (e, ap (λ o. (let r : Option K = elim o [ None ↦ Some e | Some k ↦ Some k ] in r)) at_)
      some_named (Some x) at_ = (x, ap (λ o. (let r : Option K = elim o [ None ↦ Some e | Some k ↦ Some k ] in r)) at_)

  pub lower_untoken_refused : (spent : Bool) (id node : ℕ) (given : Option K) (r : Refusal) (upper : Face K) (rising falling : List (Message K)) → first_cause (call_causes cmp matching spent (UndeclareToken p id given node) g) ≡ Some r
      → JointAgrees cmp z upper rising (message.UndeclareToken id given node ∷ falling) → JointAgrees cmp z upper rising falling
  lower_untoken_refused spent id node None r upper rising falling refused j = lower_ignores (message.UndeclareToken id None node) upper rising falling (without_none id z.live (untoken_refused spent id node r refused)) j
  lower_untoken_refused spent id node (Some e) r upper rising falling refused j =
      lower_ignores (message.UndeclareToken id (Some e) node) upper rising falling (filter_all (λ row. not (same cmp e row.1)) z.live (each_weaker (λ row. same cmp e row.1 ≡ false) (λ row. not (same cmp e row.1) ≡ true) (λ row h. ap not h) z.live (each_fails (λ row. same cmp e row.1) z.live j.clear_below.0.1))) j

  pub lower_finish : (id : ℕ) (upper : Face K) (rising falling : List (Message K)) → JointAgrees cmp z upper rising (message.DeclareFinal id ∷ falling) → Speaks (DeclareFinal p id) (λ h. JointAgrees cmp h upper rising falling)
  lower_finish id upper rising falling j =
      let hears = own_finish cmp matching p id g z rows found in
      record {
        after = hears.after;
        altered_is = hears.altered_is;
        region = hears.unmoved.region;
        well = subst (λ asks. SaidWell cmp (is_north z.region) (messages_for p (said cmp matching (DeclareFinal p id) g)) hears.after.told asks) (sym hears.unmoved.asks) (subst (λ told. SaidWell cmp (is_north z.region) (messages_for p (said cmp matching (DeclareFinal p id) g)) told z.asks) (sym hears.unmoved.told) hears.well);
        agrees = lower_like cmp z hears.after upper rising falling hears.unmoved.live hears.unmoved.told hears.unmoved.next hears.unmoved.locals (λ P all. thin P z hears.after hears.unmoved all) (lower_ignores (message.DeclareFinal id) upper rising falling refl j);
      }

  pub lower_ignores_final : (id : ℕ) (upper : Face K) (rising falling : List (Message K)) → JointAgrees cmp z upper rising (message.DeclareFinal id ∷ falling) → JointAgrees cmp z upper rising falling
  lower_ignores_final id upper rising falling j = lower_ignores (message.DeclareFinal id) upper rising falling refl j
