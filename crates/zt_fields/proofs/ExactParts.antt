-- The same of zids, options, keys and regions.
use Rattle.std.proofs.Common.{◌≡◌, ◌≢◌, ◌⊎◌, inl, inr, ℕ, zero, suc, ◌+◌, ◌*◌, ◌<◌, ◌≤◌, ◌^◌, Bool, true, false, cond, not, eqb, List, [], ◌∷◌, ◌++◌, length, Option, Some, None, Result, Ok, Err, refl, sym, ap, subst, ◌∙◌, arith, append_assoc}
use Rattle.std.proofs.Math.Nat.{pow-le-pow_right, pow-succ', add-mul, mul_assoc, mul-le-mul_right, one-mul}
use Rattle.std.proofs.lemmas.Bool.{cond-true, cond-false, cases_lt, eqb-true, and_from, and_parts}
use Rattle.std.proofs.lemmas.Bool.Decides.{nat_tests}
use Rattle.std.proofs.lemmas.Int.Digits.{digits_value-lt}
use Rattle.std.proofs.lemmas.List.{append-nil}
use Rattle.std.proofs.lemmas.List.Folds.{list_any_none}
use Rattle.std.proofs.lemmas.List.Elements.{All-nil, All-cons}
use Rattle.std.specs.Prelude.{◌&&◌, ◌||◌, ◌==◌, nat_le, nat_lt, codes, option_and_then, option_map, All}
use Rattle.std.specs.Char.{is_ascii_digit, digit_value}
use Rattle.std.specs.Int.{IsInRange, is_in_range}
use Rattle.std.specs.Int.RustNames.{bit_and}
use Rattle.std.specs.List.{list_any, AllByRecursion}
use Rattle.std.specs.Str.{bytes_eq}
use Rattle.std.specs.Str.Parse.{digits_value, digits_value_after, AllDigits}
use Rattle.zt_keys.specs.Key.{is_blank}
use Rattle.zt_keys.specs.declared.error.KeyError.{KeyError}
use Rattle.zt_region.specs.declared.region.WhatAmI.{WhatAmI}
use Rattle.zt_region.specs.declared.region.Zid.{Zid}
use Rattle.zt_region.specs.declared.region.Region.{Region}
use Rattle.zt_region.specs.declared.region.Region.TheVariants.{North, Local, South}
use Rattle.zt_protocol.specs.declared.errors.LineError.TheVariants as errors
use Rattle.zt_protocol.specs.declared.interests.InterestOptions.{InterestOptions}
use Rattle.zt_fields.specs.Numbers.{digits_after, is_hex_digit, hex_value, begins_with_zero, up_to, hex_number, u128_max, u32_of}
use Rattle.zt_fields.specs.Fields.{or_bad, spelled_by, parts_of, two_of, behind}
use Rattle.zt_fields.specs.Values.{mode_of, zid_of, letter_bit, letters_after, options_of, first_of, is_key_text, key_or_bad, key_read, region_of, south_of, south_parts}
use Rattle.zt_fields.specs.Spellings.{letters_of, options_text, IsFirst, IsHexDigit, IsZid, IsOptions, IsRegion, IsKey}
use Rattle.zt_fields.proofs.FieldLemmas.{behind_is}
use Rattle.zt_fields.proofs.NumberLemmas.{some_up_to}
use Rattle.zt_fields.proofs.ResultLemmas.{ok_is}
use Rattle.zt_fields.proofs.Exact.{Exact, some, some_is, or_bad_ok, by_option, chosen, same_bytes, row, up_to_ok, exact_u32, exact_mode}

-- ---- tests of all small numbers

abbrev pub below : (ℕ → Bool) → ℕ → Bool
below test zero = true
below test (suc n) = test n && below test n

pub below_at : (test : ℕ → Bool) (n k : ℕ) → below test n ≡ true → k < n → test k ≡ true
below_at test zero k h lt = absurd (omega (arith, lt))
below_at test (suc n) k h lt =
    let p = and_parts (test n) (below test n) h in
    elim (eqb k n) as (λ v. eqb k n ≡ v → test k ≡ true) [
      | true ↦ λ is. rw (eqb-true k n is) p.0
      | false ↦ λ is. below_at test n k p.1 (grind (arith, nat_tests))
    ] refl

or_none : {A : Type 0} (o : Option A) → o ≢ None → (x : A) × (o ≡ Some x)
or_none None h = absurd (h refl)
or_none (Some x) h = (x, refl)

-- ---- zids

pub in_range_is : (lo hi b : ℕ) → is_in_range lo hi b ≡ true → IsInRange lo hi b
in_range_is lo hi b h = let p = and_parts (nat_le lo b) (nat_le b hi) h in (grind (arith, nat_tests, p), grind (arith, nat_tests, p))

pub in_range : (lo hi b : ℕ) → IsInRange lo hi b → is_in_range lo hi b ≡ true
in_range lo hi b h = and_from (nat_le lo b) (nat_le b hi) (grind (arith, nat_tests, h)) (grind (arith, nat_tests, h))

pub or_split : (a b : Bool) → (a || b) ≡ true → (a ≡ true) ⊎ (b ≡ true)
or_split true b h = inl refl
or_split false b h = inr h

pub or_left : (a b : Bool) → a ≡ true → (a || b) ≡ true
or_left a b h = rw h refl

pub or_right : (a b : Bool) → b ≡ true → (a || b) ≡ true
or_right true b h = refl
or_right false b h = h

hex_digit_is : (b : ℕ) → is_hex_digit b ≡ true → IsHexDigit b
hex_digit_is b h =
    elim (or_split (is_ascii_digit b) (is_in_range 97 102 b) h) [
      | inl g ↦ inl (in_range_is 48 57 b g)
      | inr g ↦ inr (in_range_is 97 102 b g)
    ]

hex_digit : (b : ℕ) → IsHexDigit b → is_hex_digit b ≡ true
hex_digit b (inl h) = or_left (is_ascii_digit b) (is_in_range 97 102 b) (in_range 48 57 b h)
hex_digit b (inr h) = or_right (is_ascii_digit b) (is_in_range 97 102 b) (in_range 97 102 b h)

abbrev agrees : ℕ → Bool
agrees b = not (is_hex_digit b) || (digit_value b == hex_value b && nat_lt (hex_value b) 16)

all_agree : below agrees 103 ≡ true
all_agree = refl

hex_below : (b : ℕ) → IsHexDigit b → b < 103
hex_below b (inl h) = omega (arith, h.1)
hex_below b (inr h) = omega (arith, h.1)

hex_values : (b : ℕ) → IsHexDigit b → (digit_value b ≡ hex_value b) × (hex_value b < 16)
hex_values b h =
    let a = below_at agrees 103 b all_agree (hex_below b h) in
    let both : (digit_value b == hex_value b && nat_lt (hex_value b) 16) ≡ true = subst (λ (v : Bool). (not v || (digit_value b == hex_value b && nat_lt (hex_value b) 16)) ≡ true) (hex_digit b h) a in
    let p = and_parts (digit_value b == hex_value b) (nat_lt (hex_value b) 16) both in
    (eqb-true (digit_value b) (hex_value b) p.0, grind (arith, nat_tests, p.1))

hex_is : (n m : ℕ) (text : List ℕ) → digits_after is_hex_digit hex_value 16 n text ≡ Some m → AllByRecursion IsHexDigit text × (digits_value_after 16 n text ≡ m)
hex_is n m [] h = (tt, some_is n m h)
hex_is n m (b ∷ bs) h =
    elim (chosen (is_hex_digit b) (digits_after is_hex_digit hex_value 16 (n * 16 + hex_value b) bs) None (Some m) h) [
      | inl g ↦
          let d = hex_digit_is b g.0 in
          let r = hex_is (n * 16 + hex_value b) m bs g.1 in
          ((d, r.0), ap (λ (v : ℕ). digits_value_after 16 (n * 16 + v) bs) (hex_values b d).0 ∙ r.1)
      | inr g ↦ absurd cc
    ]

hex_give : (n : ℕ) (text : List ℕ) → AllByRecursion IsHexDigit text → digits_after is_hex_digit hex_value 16 n text ≡ Some (digits_value_after 16 n text)
hex_give n [] h = refl
hex_give n (b ∷ bs) h =
    cond-true _ _ _ (hex_digit b h.0) ∙ (hex_give (n * 16 + hex_value b) bs h.1 ∙ ap (λ (v : ℕ). some (digits_value_after 16 (n * 16 + v) bs)) (sym (hex_values b h.0).0))

hex_digits : (text : List ℕ) → AllByRecursion IsHexDigit text → AllDigits 16 text
hex_digits [] h = tt
hex_digits (b ∷ bs) h = let v = hex_values b h.0 in (omega (arith, v), hex_digits bs h.1)

-- a number with more digits is larger
value_least : (n : ℕ) (text : List ℕ) → n * 16 ^ length text ≤ digits_value_after 16 n text
value_least n [] = omega arith
value_least n (b ∷ bs) =
    let more = value_least (n * 16 + digit_value b) bs in
    let step = pow-succ' 16 (length bs) in
    least_step n (digit_value b) (16 ^ length bs) (16 ^ suc (length bs)) (digits_value_after 16 (n * 16 + digit_value b) bs) step more
  where
    least_step : (n d p q v : ℕ) → q ≡ 16 * p → (n * 16 + d) * p ≤ v → n * q ≤ v
    least_step n d p q v e h =
        let spread = add-mul (n * 16) d p in
        let regrouped = mul_assoc n 16 p in
        let same : n * q ≡ n * (16 * p) = ap (λ (x : ℕ). n * x) e in
        omega (arith, spread, regrouped, same, h)

no_zero : (text : List ℕ) → begins_with_zero text ≡ false → (first : ℕ) × (others : List ℕ) × (text ≡ first ∷ others) × (first ≢ 48)
no_zero [] h = absurd cc
no_zero (b ∷ bs) h = (b, bs, refl, λ e. absurd (subst (λ v. eqb v 48 ≡ false → ⊥) (sym e) (λ g. cc) h))

not_zero : (first : ℕ) (others : List ℕ) → first ≢ 48 → begins_with_zero (first ∷ others) ≡ false
not_zero first others h = grind (arith, nat_tests)

abbrev positive : ℕ → Bool
positive b = (not (is_hex_digit b) || b == 48) || nat_lt 0 (hex_value b)

all_positive : below positive 103 ≡ true
all_positive = refl

hex_positive : (b : ℕ) → IsHexDigit b → b ≢ 48 → 0 < digit_value b
hex_positive b h other =
    let a = below_at positive 103 b all_positive (hex_below b h) in
    let one : (b == 48 || nat_lt 0 (hex_value b)) ≡ true = subst (λ (v : Bool). ((not v || b == 48) || nat_lt 0 (hex_value b)) ≡ true) (hex_digit b h) a in
    elim (or_split (b == 48) (nat_lt 0 (hex_value b)) one) [
      | inl g ↦ absurd (other (eqb-true b 48 g))
      | inr g ↦ let v = hex_values b h in omega (arith, v.0, positive_is (hex_value b) g)
    ]
  where
    positive_is : (n : ℕ) → nat_lt 0 n ≡ true → 0 < n
    positive_is n h = grind (arith, nat_tests)

long_is_large : (first : ℕ) (others : List ℕ) → 0 < digit_value first → 32 ≤ length others → 16 ^ 32 ≤ digits_value 16 (first ∷ others)
long_is_large first others some long =
    let least = value_least (0 * 16 + digit_value first) others in
    let power = pow-le-pow_right {n = 16} (omega arith) long in
    let one = mul-le-mul_right (16 ^ length others) (omega (arith, some)) in
    let plain : 1 * 16 ^ length others ≡ 16 ^ length others = one-mul (16 ^ length others) in
    let at_least : 1 * 16 ^ length others ≤ (0 * 16 + digit_value first) * 16 ^ length others = one in
    omega (arith, least, power, plain, at_least)

zid_is_short : (text : List ℕ) → AllByRecursion IsHexDigit text → begins_with_zero text ≡ false → digits_value 16 text ≤ u128_max → length text ≤ 32
zid_is_short [] digits some small = omega arith
zid_is_short (first ∷ others) digits some small =
    elim (cases_lt (length others) 32) [
      | inl lt ↦ omega (arith, lt)
      | inr le ↦
          let f = no_zero (first ∷ others) some in
          let other : first ≢ 48 = λ e. absurd (subst (λ v. eqb v 48 ≡ false → ⊥) (sym e) (λ g. cc) some) in
          absurd (omega (arith, small, long_is_large first others (hex_positive first digits.0 other) le))
    ]

hex_sound : (text : List ℕ) (n : ℕ) → hex_number text ≡ Some n → IsZid text (record { 0 = n })
unfolding hex_number
hex_sound text n h =
    elim (chosen (begins_with_zero text) None (up_to u128_max (digits_after is_hex_digit hex_value 16 0 text)) (Some n) h) [
      | inl g ↦ absurd cc
      | inr g ↦
          let u = up_to_ok u128_max n (digits_after is_hex_digit hex_value 16 0 text) g.1 in
          let d = hex_is 0 n text u.0 in
          record { digits = d.0; first = no_zero text g.0; short = zid_is_short text d.0 g.0 (omega (arith, d.1, u.1)); value = sym d.1 }
    ]

pub mapped : {A B : Type 0} (f : A → B) (o : Option A) (y : B) → option_map f o ≡ Some y → (x : A) × (o ≡ Some x) × (f x ≡ y)
mapped f None y h = absurd cc
mapped f (Some x) y h = (x, refl, some_is (f x) y h)

zid_sound : (text : List ℕ) (zid : Zid) → zid_of text ≡ Some zid → IsZid text zid
zid_sound text zid h =
    let m = mapped (λ (n : ℕ). record { 0 = n }) (hex_number text) zid h in
    subst (IsZid text) m.2 (hex_sound text m.0 m.1)

hex_complete : (text : List ℕ) (zid : Zid) → IsZid text zid → hex_number text ≡ Some zid.0
unfolding hex_number
hex_complete text zid h =
    let some_first : begins_with_zero text ≡ false = rw h.first.2 (not_zero h.first.0 h.first.1 h.first.3) in
    let power = pow-le-pow_right {n = 16} (omega arith) h.short in
    let small = digits_value-lt 16 text (hex_digits text h.digits) in
    let fits : digits_value 16 text ≤ u128_max = omega (arith, power, small) in
    cond-false _ _ _ some_first ∙ (ap (up_to u128_max) (hex_give 0 text h.digits) ∙ (some_up_to u128_max (digits_value 16 text) fits ∙ ap (λ (n : ℕ). some n) (sym h.value)))

zid_complete : (text : List ℕ) (zid : Zid) → IsZid text zid → zid_of text ≡ Some zid
zid_complete text zid h = ap (option_map (λ (n : ℕ). record { 0 = n })) (hex_complete text zid h)

pub exact_zid : Exact (spelled_by zid_of) IsZid
exact_zid = by_option zid_of IsZid zid_sound zid_complete

-- ---- first ids

pub then_some : {A B : Type 0} (f : A → Option B) (o : Option A) (y : B) → option_and_then f o ≡ Some y → (x : A) × (o ≡ Some x) × (f x ≡ Some y)
then_some f None y h = absurd cc
then_some f (Some x) y h = (x, refl, h)

first_sound : (text : List ℕ) (n : ℕ) → first_of text ≡ Some n → IsFirst text n
first_sound text n h =
    let t = then_some (λ m. cond (nat_lt 0 m) (Some m) None) (u32_of text) n h in
    elim (chosen (nat_lt 0 t.0) (Some t.0) None (Some n) t.2) [
      | inl g ↦
          let e = some_is t.0 n g.1 in
          let u = exact_u32.sound text t.0 (ap or_bad t.1) in
          subst (IsFirst text) e (u, grind (arith, nat_tests, g.0))
      | inr g ↦ absurd cc
    ]

first_complete : (text : List ℕ) (n : ℕ) → IsFirst text n → first_of text ≡ Some n
first_complete text n h =
    let u = or_bad_ok (u32_of text) n (exact_u32.complete text n h.0) in
    let large : nat_lt 0 n ≡ true = grind (arith, nat_tests, h.1) in
    ap (option_and_then (λ m. cond (nat_lt 0 m) (Some m) None)) u ∙ cond-true _ _ _ large

pub exact_first : Exact (spelled_by first_of) IsFirst
exact_first = by_option first_of IsFirst first_sound first_complete

-- ---- keys

none_any : {X : Type 0} (p : X → Bool) (xs : List X) → list_any p xs ≡ false → All (λ x. p x ≡ false) xs
none_any p [] h = All-nil (λ x. p x ≡ false)
none_any p (x ∷ xs) h =
    elim (p x) as (λ v. p x ≡ v → (v || list_any p xs) ≡ false → All (λ x. p x ≡ false) (x ∷ xs)) [
      | true ↦ λ is g. absurd cc
      | false ↦ λ is g. All-cons (λ x. p x ≡ false) x xs is (none_any p xs g)
    ] refl h

not_true : (b : Bool) → not b ≡ true → b ≡ false
not_true true h = absurd cc
not_true false h = refl

key_text_is : (text : List ℕ) → is_key_text text ≡ true → (text ≢ []) × All (λ b. is_blank b ≡ false) text
key_text_is [] h = absurd cc
key_text_is (b ∷ bs) h = (λ e. absurd cc, none_any is_blank (b ∷ bs) (not_true (list_any is_blank (b ∷ bs)) h))

key_text : (text : List ℕ) → text ≢ [] → All (λ b. is_blank b ≡ false) text → is_key_text text ≡ true
key_text [] some unblanked = absurd (some refl)
key_text (b ∷ bs) some unblanked = ap not (list_any_none is_blank (b ∷ bs) unblanked)

key_ok : {K : Type 0} (r : Result K KeyError) (key : K) → key_or_bad r ≡ Ok key → r ≡ Ok key
key_ok (Ok k) key h = let same = ok_is k key h in ap (λ x. Ok x) same
key_ok (Err e) key h = absurd cc

pub exact_key : {K : Type 0} (reading : List ℕ → Result K KeyError) → Exact (key_read reading) (IsKey reading)
exact_key reading = record {
  sound = λ text key h. key_sound reading text key h;
  complete = λ text key h. cond-true _ _ _ (key_text text h.nonempty h.unblanked) ∙ ap key_or_bad h.accepted;
}
  where
    key_sound : {K : Type 0} (reading : List ℕ → Result K KeyError) (text : List ℕ) (key : K) → key_read reading text ≡ Ok key → IsKey reading text key
    key_sound reading text key h =
        elim (chosen (is_key_text text) (key_or_bad (reading text)) (Err errors.NotInGrammar) (Ok key) h) [
          | inl g ↦ let t = key_text_is text g.0 in record { nonempty = t.0; unblanked = t.1; accepted = key_ok (reading text) key g.1 }
          | inr g ↦ absurd cc
        ]

-- ---- regions

pub two_is : (parts : List (List ℕ)) (x : List ℕ × List ℕ) → two_of parts ≡ Some x → parts ≡ x.0 ∷ x.1 ∷ []
two_is [] x h = absurd cc
two_is (a ∷ []) x h = absurd cc
two_is (a ∷ b ∷ []) x h = let e = some_is (a, b) x h in ap (λ (p : List ℕ × List ℕ). p.0 ∷ p.1 ∷ []) e
two_is (a ∷ b ∷ c ∷ parts) x h = absurd cc

south_parts_are : (o : Option (List ℕ × List ℕ)) (region : Region) → south_parts o ≡ Some region
    → (number word : List ℕ) × (id : ℕ) × (mode : WhatAmI) × (o ≡ Some (number, word)) × (u32_of number ≡ Some id) × (mode_of word ≡ Some mode) × (South id mode ≡ region)
south_parts_are None region h = absurd cc
south_parts_are (Some (number, word)) region h =
    let a = then_some (λ id. option_map (λ m. South id m) (mode_of word)) (u32_of number) region h in
    let b = mapped (λ m. South a.0 m) (mode_of word) region a.2 in
    (number, word, a.0, b.0, refl, a.1, b.1, b.2)

south_sound : (text : List ℕ) (region : Region) → south_of (behind (codes "south") text) ≡ Some region → IsRegion text region
south_sound text region h =
    elim (behind (codes "south") text) as (λ v. behind (codes "south") text ≡ v → south_of v ≡ Some region → IsRegion text region) [
      | None ↦ λ is g. absurd cc
      | Some rest ↦ λ is g.
          let p = south_parts_are (two_of (parts_of 45 rest)) region g in
          let found : IsRegion text (South p.2 p.3) = (rest, p.0, p.1, behind_is (codes "south") text rest is, two_is (parts_of 45 rest) (p.0, p.1) p.4, exact_u32.sound p.0 p.2 (ap or_bad p.5), exact_mode.sound p.1 p.3 (ap or_bad p.6)) in
          subst (IsRegion text) p.7 found
    ] refl h

region_sound : (text : List ℕ) (region : Region) → region_of text ≡ Some region → IsRegion text region
unfolding region_of
region_sound text region =
    row (IsRegion text) text (codes "north") North _ region (λ e. e)
    (row (IsRegion text) text (codes "local") Local _ region (λ e. e) (south_sound text region))

region_complete : (text : List ℕ) (region : Region) → IsRegion text region → region_of text ≡ Some region
unfolding region_of
region_complete text North h = rw h refl
region_complete text Local h = rw h refl
region_complete text (South id mode) h =
    let number = or_bad_ok (u32_of h.1) id (exact_u32.complete h.1 id h.5) in
    let word = or_bad_ok (mode_of h.2) mode (exact_mode.complete h.2 mode h.6) in
    let read : option_and_then (λ i. option_map (λ m. South i m) (mode_of h.2)) (u32_of h.1) ≡ Some (South id mode) = rw (number, word) refl in
    ap region_of h.3 ∙ (ap (λ (parts : List (List ℕ)). south_parts (two_of parts)) h.4 ∙ read)

pub exact_region : Exact (spelled_by region_of) IsRegion
exact_region = by_option region_of IsRegion region_sound region_complete

-- ---- options

abbrev letters : ℕ → List ℕ
letters n = letters_of (record { 0 = n })

nat_row : {A : Type 0} (P : A → Type 0) (b k : ℕ) (value : A) (others : Option A) (x : A) → (b ≡ k → P value) → (others ≡ Some x → P x) → cond (eqb b k) (Some value) others ≡ Some x → P x
nat_row P b k value others x here there h =
    elim (chosen (eqb b k) (Some value) others (Some x) h) [
      | inl g ↦ subst P (some_is value x g.1) (here (eqb-true b k g.0))
      | inr g ↦ there g.1
    ]

-- a letter behind those of bits
abbrev Adds : ℕ → ℕ → Type 0
Adds b bit = (bits : ℕ) → bits < bit → (letters (bits + bit) ≡ letters bits ++ b ∷ []) × (bits + bit < 32)

abbrev adds : ℕ → ℕ → ℕ → Bool
adds b bit bits = bytes_eq (letters (bits + bit)) (letters bits ++ b ∷ [])

added : (b k bit : ℕ) → bit ≤ 16 → below (adds k bit) bit ≡ true → b ≡ k → Adds b bit
added b k bit small table same bits lt =
    (same_bytes (letters (bits + bit)) (letters bits ++ k ∷ []) (below_at (adds k bit) bit bits table lt) ∙ ap (λ (c : ℕ). letters bits ++ c ∷ []) (sym same), omega (arith, lt, small))

letter_adds : (b bit : ℕ) → letter_bit b ≡ Some bit → Adds b bit
letter_adds b bit =
    nat_row (Adds b) b 107 1 _ bit (added b 107 1 (omega arith) refl)
    (nat_row (Adds b) b 115 2 _ bit (added b 115 2 (omega arith) refl)
    (nat_row (Adds b) b 113 4 _ bit (added b 113 4 (omega arith) refl)
    (nat_row (Adds b) b 116 8 _ bit (added b 116 8 (omega arith) refl)
    (nat_row (Adds b) b 97 16 _ bit (added b 97 16 (omega arith) refl) (λ h. absurd cc)))))

letters_are : (bits out : ℕ) (text : List ℕ) → bits < 32 → letters_after bits text ≡ Some out → (letters bits ++ text ≡ letters out) × (out < 32)
letters_are bits out [] small h = let e = some_is bits out h in (append-nil (letters bits) ∙ ap letters e, omega (arith, e, small))
letters_are bits out (b ∷ bs) small h =
    let t = then_some (λ bit. cond (nat_lt bits bit) (letters_after (bits + bit) bs) None) (letter_bit b) out h in
    elim (chosen (nat_lt bits t.0) (letters_after (bits + t.0) bs) None (Some out) t.2) [
      | inl g ↦
          let lt : bits < t.0 = nat_lt_is bits t.0 g.0 in
          let a = letter_adds b t.0 t.1 bits lt in
          let r = letters_are (bits + t.0) out bs a.1 g.1 in
          (sym (append_assoc (letters bits) (b ∷ []) bs) ∙ (ap (λ (x : List ℕ). x ++ bs) (sym a.0) ∙ r.0), r.1)
      | inr g ↦ absurd cc
    ]
  where
    nat_lt_is : (m n : ℕ) → nat_lt m n ≡ true → m < n
    nat_lt_is m n h = grind (arith, nat_tests)

abbrev shows : ℕ → Bool
shows n = n == 0 || not (bit_and n 31 == 0)

shown : (n : ℕ) → n < 32 → n ≢ 0 → (bit_and n 31 == 0) ≡ false
shown n small other =
    elim (or_split (n == 0) (not (bit_and n 31 == 0)) (below_at shows 32 n refl small)) [
      | inl g ↦ absurd (other (eqb-true n 0 g))
      | inr g ↦ not_true (bit_and n 31 == 0) g
    ]

options_sound : (text : List ℕ) (options : InterestOptions) → options_of text ≡ Some options → IsOptions text options
options_sound [] options h = absurd cc
options_sound (b ∷ bs) options h =
    elim (chosen (bytes_eq (b ∷ bs) (codes "-")) (Some (record { 0 = 0 })) (option_map (λ (n : ℕ). record { 0 = n }) (letters_after 0 (b ∷ bs))) (Some options) h) [
      | inl g ↦ subst (IsOptions (b ∷ bs)) (some_is (record { 0 = 0 }) options g.1) (record { spelled = same_bytes (b ∷ bs) (codes "-") g.0; known = omega arith })
      | inr g ↦
          let m = mapped (λ (n : ℕ). record { 0 = n }) (letters_after 0 (b ∷ bs)) options g.1 in
          let l = letters_are 0 m.0 (b ∷ bs) (omega arith) m.1 in
          let other : m.0 ≢ 0 = λ e. nothing b bs (l.0 ∙ ap letters e) in
          subst (IsOptions (b ∷ bs)) m.2 (record { spelled = l.0 ∙ sym (cond-false _ _ _ (shown m.0 l.1 other)); known = l.1 })
    ]
  where
    nothing : (b : ℕ) (bs : List ℕ) → b ∷ bs ≡ [] → ⊥
    nothing b bs h = cc

abbrev has_value : ℕ → Option InterestOptions → Bool
has_value n None = false
has_value n (Some options) = options.0 == n

abbrev reads_back : ℕ → Bool
reads_back n = has_value n (options_of (options_text (record { 0 = n })))

value_is : (n : ℕ) (o : Option InterestOptions) → has_value n o ≡ true → o ≡ Some (record { 0 = n })
value_is n None h = absurd cc
value_is n (Some options) h = ap (λ (m : ℕ). Some (record { 0 = m })) (eqb-true options.0 n h)

options_complete : (text : List ℕ) (options : InterestOptions) → IsOptions text options → options_of text ≡ Some options
options_complete text options h =
    ap options_of h.spelled ∙ value_is options.0 (options_of (options_text options)) (below_at reads_back 32 options.0 refl h.known)

pub exact_options : Exact (spelled_by options_of) IsOptions
exact_options = by_option options_of IsOptions options_sound options_complete
