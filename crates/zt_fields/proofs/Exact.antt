-- What values are read from is what the grammar says of their texts.
use Rattle.std.proofs.Common.{◌≡◌, ◌⊎◌, inl, inr, ℕ, zero, suc, ◌+◌, ◌*◌, ◌-◌, ◌<◌, ◌≤◌, ◌^◌, Bool, true, false, cond, eqb, leb, List, [], ◌∷◌, length, get_or, Option, Some, None, Result, Ok, refl, sym, ap, subst, ◌∙◌, arith}
use Rattle.std.proofs.lemmas.Bool.{cond-true, cond-false, and_from, and_parts}
use Rattle.std.proofs.lemmas.Bool.Decides.{nat_tests}
use Rattle.std.proofs.lemmas.Slice.Eq.{bytes_eq-Decides}
use Rattle.std.proofs.lemmas.Fmt.{decimal-digits_value, digits_decimal, digits_value-decimal, decimal_digit, decimal_nonempty, first_decimal}
use Rattle.std.proofs.lemmas.Str.Parse.{IsNumeralModel, numerals_by_fold, tells_all_ascii_digits}
use Rattle.std.specs.Prelude.{codes, decimal}
use Rattle.std.specs.Char.{is_ascii_digit}
use Rattle.std.specs.Str.{bytes_eq, all_ascii_digits}
use Rattle.zt_protocol.specs.declared.errors.LineError.{LineError}
use Rattle.zt_region.specs.declared.region.WhatAmI.{WhatAmI}
use Rattle.zt_region.specs.declared.region.WhatAmI.TheVariants.{Router, Peer, Client}
use Rattle.zt_region.specs.declared.region.Bound.{Bound}
use Rattle.zt_region.specs.declared.region.Bound.TheVariants as bound
use Rattle.zt_protocol.specs.declared.interests.InterestMode.{InterestMode}
use Rattle.zt_protocol.specs.declared.interests.InterestMode.TheVariants.{Current, Future, CurrentFuture}
use Rattle.zt_fields.specs.Numbers.{digits_after, decimal_value, is_unwritten, up_to, number_up_to, u16_of, u32_of, u64_of}
use Rattle.zt_fields.specs.Fields.{or_bad, spelled_by}
use Rattle.zt_fields.specs.Values.{mode_of, bound_of, direction_of, interest_mode_of, flag_of}
use Rattle.zt_fields.specs.Spellings.{interest_mode_text, flag_text, IsNumber, IsU16, IsU32, IsU64, mode_text, IsMode, bound_text, IsBound, direction_text, IsDirection, IsInterestMode, IsFlag}

-- reading answers exactly where the grammar has the value
pub record Exact {A : Type 0} (read : List ℕ → Result A LineError) (Is : List ℕ → A → Type 0) : Type 0 where
  pub sound : (text : List ℕ) (x : A) → read text ≡ Ok x → Is text x
  pub complete : (text : List ℕ) (x : A) → Is text x → read text ≡ Ok x

abbrev pub some : {A : Type 0} → A → Option A
some x = Some x

pub some_is : {A : Type 0} (x y : A) → some x ≡ some y → x ≡ y
some_is x y h = cc

pub or_bad_ok : {A : Type 0} (o : Option A) (x : A) → or_bad o ≡ Ok x → o ≡ Some x
or_bad_ok None x h = absurd cc
or_bad_ok (Some y) x h = cc

-- the same of readers that answer options
pub by_option : {A : Type 0} (of_text : List ℕ → Option A) (Is : List ℕ → A → Type 0)
    → ((text : List ℕ) (x : A) → of_text text ≡ Some x → Is text x) → ((text : List ℕ) (x : A) → Is text x → of_text text ≡ Some x) → Exact (spelled_by of_text) Is
by_option of_text Is sound complete = record {
  sound = λ text x h. sound text x (or_bad_ok (of_text text) x h);
  complete = λ text x h. ap or_bad (complete text x h);
}

pub chosen : {A : Type 0} (b : Bool) (x y z : A) → cond b x y ≡ z → ((b ≡ true) × (x ≡ z)) ⊎ ((b ≡ false) × (y ≡ z))
chosen true x y z h = inl (refl, h)
chosen false x y z h = inr (refl, h)

pub same_bytes : (a b : List ℕ) → bytes_eq a b ≡ true → a ≡ b
same_bytes a b h = (bytes_eq-Decides a b).0 h

pub bytes_same : (a b : List ℕ) → a ≡ b → bytes_eq a b ≡ true
bytes_same a b h = (bytes_eq-Decides a b).1 h

-- ---- words

-- one row of a table of words
pub row : {A : Type 0} (P : A → Type 0) (text word : List ℕ) (value : A) (others : Option A) (x : A) → (text ≡ word → P value) → (others ≡ Some x → P x)
    → cond (bytes_eq text word) (Some value) others ≡ Some x → P x
row P text word value others x here there h =
    elim (chosen (bytes_eq text word) (Some value) others (Some x) h) [
      | inl g ↦ subst P (some_is value x g.1) (here (same_bytes text word g.0))
      | inr g ↦ there g.1
    ]

pub no_row : {A : Type 0} (P : A → Type 0) (x : A) → None ≡ some x → P x
no_row P x h = absurd cc

pub exact_mode : Exact (spelled_by mode_of) IsMode
exact_mode = by_option mode_of IsMode
    (λ text x. row (IsMode text) text (codes "router") Router _ x (λ e. e) (row (IsMode text) text (codes "peer") Peer _ x (λ e. e) (row (IsMode text) text (codes "client") Client _ x (λ e. e) (no_row (IsMode text) x))))
    (λ text x h. rw h (mode_complete x))
  where
    mode_complete : (x : WhatAmI) → mode_of (mode_text x) ≡ Some x
    mode_complete Router = refl
    mode_complete Peer = refl
    mode_complete Client = refl

bound_complete : (x : Bound) → bound_of (bound_text x) ≡ Some x
bound_complete bound.North = refl
bound_complete bound.South = refl

pub exact_bound : Exact (spelled_by bound_of) IsBound
exact_bound = by_option bound_of IsBound
    (λ text x. row (IsBound text) text (codes "north") bound.North _ x (λ e. e) (row (IsBound text) text (codes "south") bound.South _ x (λ e. e) (no_row (IsBound text) x)))
    (λ text x h. rw h (bound_complete x))

direction_complete : (x : Bool) → direction_of (direction_text x) ≡ Some x
direction_complete false = refl
direction_complete true = refl

pub exact_direction : Exact (spelled_by direction_of) IsDirection
exact_direction = by_option direction_of IsDirection
    (λ text x. row (IsDirection text) text (codes "fwd") false _ x (λ e. e) (row (IsDirection text) text (codes "back") true _ x (λ e. e) (no_row (IsDirection text) x)))
    (λ text x h. rw h (direction_complete x))

flag_complete : (x : Bool) → flag_of (flag_text x) ≡ Some x
flag_complete false = refl
flag_complete true = refl

pub exact_flag : Exact (spelled_by flag_of) IsFlag
exact_flag = by_option flag_of IsFlag
    (λ text x. row (IsFlag text) text (codes "0") false _ x (λ e. e) (row (IsFlag text) text (codes "1") true _ x (λ e. e) (no_row (IsFlag text) x)))
    (λ text x h. rw h (flag_complete x))

interest_mode_complete : (x : InterestMode) → interest_mode_of (interest_mode_text x) ≡ Some x
interest_mode_complete Current = refl
interest_mode_complete Future = refl
interest_mode_complete CurrentFuture = refl

pub exact_interest_mode : Exact (spelled_by interest_mode_of) IsInterestMode
exact_interest_mode = by_option interest_mode_of IsInterestMode
    (λ text x. row (IsInterestMode text) text (codes "current") Current _ x (λ e. e) (row (IsInterestMode text) text (codes "future") Future _ x (λ e. e) (row (IsInterestMode text) text (codes "current-future") CurrentFuture _ x (λ e. e) (no_row (IsInterestMode text) x))))
    (λ text x h. rw h (interest_mode_complete x))

-- ---- numbers

abbrev read_on : ℕ → List ℕ → ℕ
read_on n [] = n
read_on n (c ∷ cs) = read_on (n * 10 + (c - 48)) cs

own : IsNumeralModel (λ ds. all_ascii_digits ds ≡ true) (read_on 0)
own = numerals_by_fold _ tells_all_ascii_digits read_on (record { empty = λ n. refl; more = λ n c cs h. refl })

digits_are : (n m : ℕ) (text : List ℕ) → digits_after is_ascii_digit decimal_value 10 n text ≡ Some m → (all_ascii_digits text ≡ true) × (read_on n text ≡ m)
digits_are n m [] h = (refl, some_is n m h)
digits_are n m (b ∷ bs) h =
    elim (chosen (is_ascii_digit b) (digits_after is_ascii_digit decimal_value 10 (n * 10 + (b - 48)) bs) None (Some m) h) [
      | inl g ↦ let r = digits_are (n * 10 + (b - 48)) m bs g.1 in (and_from _ _ g.0 r.0, r.1)
      | inr g ↦ absurd cc
    ]

digits_give : (n : ℕ) (text : List ℕ) → all_ascii_digits text ≡ true → digits_after is_ascii_digit decimal_value 10 n text ≡ Some (read_on n text)
digits_give n [] h = refl
digits_give n (b ∷ bs) h =
    let p = and_parts (is_ascii_digit b) (all_ascii_digits bs) h in
    cond-true _ _ _ p.0 ∙ digits_give (n * 10 + (b - 48)) bs p.1

pub up_to_ok : (most n : ℕ) (o : Option ℕ) → up_to most o ≡ Some n → (o ≡ Some n) × (n ≤ most)
up_to_ok most n None h = absurd cc
up_to_ok most n (Some m) h =
    elim (chosen (leb m most) (Some m) None (Some n) h) [
      | inl g ↦ let e = some_is m n g.1 in (g.1, grind (arith, nat_tests))
      | inr g ↦ absurd cc
    ]

written_some : (text : List ℕ) → is_unwritten text ≡ false → 0 < length text
written_some [] h = absurd cc
written_some (b ∷ bs) h = omega arith

written_zero : (text : List ℕ) → is_unwritten text ≡ false → get_or text 0 0 ≡ 48 → length text ≡ 1
written_zero [] h z = absurd cc
written_zero (b ∷ []) h z = refl
written_zero (b ∷ c ∷ bs) h z = absurd (subst (λ v. eqb v 48 ≡ false → ⊥) (sym z) (λ g. cc) h)

written : (text : List ℕ) → 0 < length text → (48 < get_or text 0 0) ⊎ (length text ≡ 1) → is_unwritten text ≡ false
written [] some h = absurd (omega (arith, some))
written (b ∷ []) some h = refl
written (b ∷ c ∷ bs) some (inl h) = grind (arith, nat_tests)
written (b ∷ c ∷ bs) some (inr h) = absurd (omega (arith, h))

decimal_written : (n : ℕ) → n < 2 ^ 64 → is_unwritten (decimal n) ≡ false
decimal_written n small =
    written (decimal n) (decimal_nonempty n small) (first_or_one n small)
  where
    first_or_one : (n : ℕ) → n < 2 ^ 64 → (48 < get_or (decimal n) 0 0) ⊎ (length (decimal n) ≡ 1)
    first_or_one zero small = inr (ap length (decimal_digit 0 (omega arith)))
    first_or_one (suc n) small = inl (first_decimal (suc n) (omega arith) small)

number_sound : (most : ℕ) → most < 2 ^ 64 → (text : List ℕ) (n : ℕ) → number_up_to most text ≡ Some n → IsNumber most text n
unfolding number_up_to
number_sound most small text n h =
    elim (chosen (is_unwritten text) None (up_to most (digits_after is_ascii_digit decimal_value 10 0 text)) (Some n) h) [
      | inl g ↦ absurd cc
      | inr g ↦
          let u = up_to_ok most n (digits_after is_ascii_digit decimal_value 10 0 text) g.1 in
          let d = digits_are 0 n text u.0 in
          let back : decimal (read_on 0 text) ≡ text = decimal-digits_value own text d.0 (written_some text g.0) (written_zero text g.0) (omega (arith, d.1, u.1, small)) in
          record { spelled = sym (sym (ap decimal d.1) ∙ back); within = u.1 }
    ]

number_complete : (most : ℕ) → most < 2 ^ 64 → (text : List ℕ) (n : ℕ) → IsNumber most text n → number_up_to most text ≡ Some n
unfolding number_up_to
number_complete most small text n h =
    let fits : n < 2 ^ 64 = omega (arith, h.within, small) in
    let digits = digits_give 0 (decimal n) (digits_decimal own n fits) ∙ ap (λ (m : ℕ). some m) (digits_value-decimal own n fits) in
    let within : leb n most ≡ true = grind (arith, nat_tests, h.within) in
    ap (number_up_to most) h.spelled ∙ (cond-false _ _ _ (decimal_written n fits) ∙ (ap (up_to most) digits ∙ cond-true _ _ _ within))

pub exact_number : (most : ℕ) → most < 2 ^ 64 → Exact (spelled_by (number_up_to most)) (IsNumber most)
exact_number most small = by_option (number_up_to most) (IsNumber most) (number_sound most small) (number_complete most small)

pub exact_u16 : Exact (spelled_by u16_of) IsU16
exact_u16 = exact_number 65535 (omega arith)

pub exact_u32 : Exact (spelled_by u32_of) IsU32
exact_u32 = exact_number 4294967295 (omega arith)

pub exact_u64 : Exact (spelled_by u64_of) IsU64
exact_u64 = exact_number 18446744073709551615 (omega arith)
