-- Fields without spaces that are text, and the line that they make.
use Rattle.std.proofs.Common.{◌≡◌, ℕ, suc, zero, ◌<◌, ◌≤◌, ◌^◌, Bool, true, false, List, [], ◌∷◌, ◌++◌, refl, sym, ap, ◌∙◌, arith}
use Rattle.std.proofs.lemmas.Bool.{and_parts, and_from}
use Rattle.std.proofs.lemmas.Bool.Decides.{nat_tests}
use Rattle.std.proofs.lemmas.Fmt.{digits_decimal}
use Rattle.std.proofs.lemmas.List.{append-nil}
use Rattle.std.proofs.lemmas.List.Splits.{slice_split_at, slice_split_none, join_with_byte-slice_split}
use Rattle.std.proofs.lemmas.List.Elements.{All-nil, All-cons, All-from_recursion, recursion_from_All}
use Rattle.std.proofs.lemmas.Str.{IsUtf8-append, IsUtf8-from_ascii, IsUtf8-nil}
use Rattle.std.proofs.lemmas.Str.Parse.{numerals_by_value, tells_all_ascii_digits}
use Rattle.std.specs.Prelude.{◌&&◌, ◌||◌, ◌==◌, nat_lt, nat_le, All, decimal, IsUtf8, IsAscii}
use Rattle.std.specs.Char.{is_ascii_digit}
use Rattle.std.specs.List.{list_all, AllByRecursion, join_with_byte}
use Rattle.std.specs.Str.{all_ascii_digits}
use Rattle.zt_keys.specs.Key.{is_blank}
use Rattle.zt_fields.specs.Fields.{Fields, is_byte, fields_of}
use Rattle.zt_text.specs.Text.{spaced}

-- text of one field of one line
pub record Clean (field : List ℕ) : Type 0 where
  pub no_space : All (λ b. is_byte 32 b ≡ false) field
  pub no_feed : All (λ b. is_byte 10 b ≡ false) field
  pub utf8 : IsUtf8 field

abbrev plain_byte : ℕ → Bool
plain_byte b = nat_lt 32 b && nat_lt b 128

abbrev pub is_plain : List ℕ → Bool
is_plain field = list_all plain_byte field

plain_is : (b : ℕ) → plain_byte b ≡ true → (b < 128) × (is_byte 32 b ≡ false) × (is_byte 10 b ≡ false)
plain_is b h =
    let p = and_parts (nat_lt 32 b) (nat_lt b 128) h in
    let low : 32 < b = grind (arith, nat_tests, p.0) in
    (grind (arith, nat_tests, p.1), grind (arith, nat_tests, low), grind (arith, nat_tests, low))

plain_ascii : (field : List ℕ) → is_plain field ≡ true → IsAscii field
plain_ascii [] h i = omega arith
plain_ascii (b ∷ bs) h zero = (plain_is b (and_parts (plain_byte b) (is_plain bs) h).0).0
plain_ascii (b ∷ bs) h (suc i) = plain_ascii bs (and_parts (plain_byte b) (is_plain bs) h).1 i

plain_spaceless : (field : List ℕ) → is_plain field ≡ true → All (λ b. is_byte 32 b ≡ false) field
plain_spaceless [] h = All-nil (λ b. is_byte 32 b ≡ false)
plain_spaceless (b ∷ bs) h =
    let p = and_parts (plain_byte b) (is_plain bs) h in
    All-cons (λ b. is_byte 32 b ≡ false) b bs (plain_is b p.0).1 (plain_spaceless bs p.1)

plain_feedless : (field : List ℕ) → is_plain field ≡ true → All (λ b. is_byte 10 b ≡ false) field
plain_feedless [] h = All-nil (λ b. is_byte 10 b ≡ false)
plain_feedless (b ∷ bs) h =
    let p = and_parts (plain_byte b) (is_plain bs) h in
    All-cons (λ b. is_byte 10 b ≡ false) b bs (plain_is b p.0).2 (plain_feedless bs p.1)

pub clean_plain : (field : List ℕ) → is_plain field ≡ true → Clean field
clean_plain field h = record { no_space = plain_spaceless field h; no_feed = plain_feedless field h; utf8 = IsUtf8-from_ascii field (plain_ascii field h) }

digit_plain : (b : ℕ) → is_ascii_digit b ≡ true → plain_byte b ≡ true
digit_plain b h =
    let p = and_parts (nat_le 48 b) (nat_le b 57) h in
    let low : 48 ≤ b = grind (arith, nat_tests, p.0) in
    let high : b ≤ 57 = grind (arith, nat_tests, p.1) in
    and_from (nat_lt 32 b) (nat_lt b 128) (grind (arith, nat_tests, low)) (grind (arith, nat_tests, high))

digits_plain : (ds : List ℕ) → all_ascii_digits ds ≡ true → is_plain ds ≡ true
digits_plain [] h = refl
digits_plain (b ∷ bs) h =
    let p = and_parts (is_ascii_digit b) (all_ascii_digits bs) h in
    and_from (plain_byte b) (is_plain bs) (digit_plain b p.0) (digits_plain bs p.1)

pub clean_decimal : (n : ℕ) → n < 2 ^ 64 → Clean (decimal n)
clean_decimal n small = clean_plain (decimal n) (digits_plain (decimal n) (digits_decimal (numerals_by_value (λ ds. all_ascii_digits ds ≡ true) tells_all_ascii_digits) n small))

unblanked : (b : ℕ) → is_blank b ≡ false → (is_byte 32 b ≡ false) × (is_byte 10 b ≡ false)
unblanked b h =
    elim (b == 32) as (λ v. (v || b == 9 || b == 10 || b == 13) ≡ false → (v ≡ false) × (is_byte 10 b ≡ false)) [
      | true ↦ λ g. absurd cc
      | false ↦ λ g. (refl, no_ten (b == 9) (b == 10) (b == 13) g)
    ] h
  where
    no_ten : (tab feed back : Bool) → (tab || feed || back) ≡ false → feed ≡ false
    no_ten true feed back g = absurd cc
    no_ten false true back g = absurd cc
    no_ten false false back g = refl

-- ---- lines

abbrev pub AllClean : Fields → Type 0
AllClean fields = AllByRecursion Clean fields

pub fields_of_line : (first : List ℕ) (fields : Fields) → Clean first → AllClean fields → fields_of (first ++ spaced fields) ≡ first ∷ fields
fields_of_line first [] clean h = ap fields_of (append-nil first) ∙ slice_split_none (is_byte 32) first clean.no_space
fields_of_line first (field ∷ fields) clean h =
    slice_split_at (is_byte 32) first 32 (field ++ spaced fields) clean.no_space refl ∙ ap (λ (t : Fields). first ∷ t) (fields_of_line field fields h.0 h.1)

joined : (first : List ℕ) (fields : Fields) → join_with_byte 32 (first ∷ fields) ≡ first ++ spaced fields
joined first [] = sym (append-nil first)
joined first (field ∷ fields) = ap (λ (t : List ℕ). first ++ 32 ∷ t) (joined field fields)

pub line_from_fields : (bytes first : List ℕ) (fields : Fields) → fields_of bytes ≡ first ∷ fields → bytes ≡ first ++ spaced fields
line_from_fields bytes first fields h = sym (join_with_byte-slice_split 32 bytes) ∙ (ap (join_with_byte 32) h ∙ joined first fields)

space_ascii : IsAscii (32 ∷ [])
space_ascii zero = omega arith
space_ascii (suc i) = omega arith

pub text_of_line : (first : List ℕ) (fields : Fields) → Clean first → AllClean fields → IsUtf8 (first ++ spaced fields)
text_of_line first fields clean h = IsUtf8-append first (spaced fields) clean.utf8 (spaced_text fields h)
  where
    spaced_text : (fields : Fields) → AllClean fields → IsUtf8 (spaced fields)
    spaced_text [] h = IsUtf8-nil
    spaced_text (field ∷ fields) h = IsUtf8-append (32 ∷ field) (spaced fields) (IsUtf8-append (32 ∷ []) field (IsUtf8-from_ascii (32 ∷ []) space_ascii) h.0.utf8) (spaced_text fields h.1)

pub clean_key_bytes : (bytes : List ℕ) → IsUtf8 bytes → All (λ b. is_blank b ≡ false) bytes → Clean bytes
clean_key_bytes bytes utf8 blanks =
    let unblank = recursion_from_All (λ b. is_blank b ≡ false) bytes blanks in
    record {
      no_space = All-from_recursion (λ b. is_byte 32 b ≡ false) bytes (spaceless bytes unblank);
      no_feed = All-from_recursion (λ b. is_byte 10 b ≡ false) bytes (feedless bytes unblank);
      utf8 = utf8;
    }
  where
    spaceless : (bytes : List ℕ) → AllByRecursion (λ b. is_blank b ≡ false) bytes → AllByRecursion (λ b. is_byte 32 b ≡ false) bytes
    spaceless [] h = tt
    spaceless (b ∷ bs) h = ((unblanked b h.0).0, spaceless bs h.1)

    feedless : (bytes : List ℕ) → AllByRecursion (λ b. is_blank b ≡ false) bytes → AllByRecursion (λ b. is_byte 10 b ≡ false) bytes
    feedless [] h = tt
    feedless (b ∷ bs) h = ((unblanked b h.0).1, feedless bs h.1)

-- ---- lines behind one another

-- no byte of a line ends it
pub feedless_line : (first : List ℕ) (fields : Fields) → Clean first → AllClean fields → AllByRecursion (λ b. is_byte 10 b ≡ false) (first ++ spaced fields)
feedless_line first fields clean h = joined_feedless first (spaced fields) (recursion_from_All (λ b. is_byte 10 b ≡ false) first clean.no_feed) (spaced_feedless fields h)
  where
    joined_feedless : (a b : List ℕ) → AllByRecursion (λ b. is_byte 10 b ≡ false) a → AllByRecursion (λ b. is_byte 10 b ≡ false) b → AllByRecursion (λ b. is_byte 10 b ≡ false) (a ++ b)
    joined_feedless [] b p q = q
    joined_feedless (x ∷ a) b p q = (p.0, joined_feedless a b p.1 q)

    spaced_feedless : (fields : Fields) → AllClean fields → AllByRecursion (λ b. is_byte 10 b ≡ false) (spaced fields)
    spaced_feedless [] h = tt
    spaced_feedless (field ∷ fields) h = (refl, joined_feedless field (spaced fields) (recursion_from_All (λ b. is_byte 10 b ≡ false) field h.0.no_feed) (spaced_feedless fields h.1))

-- texts that begin with a line have the same line, and the same behind it
pub first_lines : (a b more rest : List ℕ) → AllByRecursion (λ b. is_byte 10 b ≡ false) a → AllByRecursion (λ b. is_byte 10 b ≡ false) b → a ++ 10 ∷ more ≡ b ++ 10 ∷ rest → (a ≡ b) × (more ≡ rest)
first_lines [] [] more rest p q h = (refl, cc)
first_lines [] (y ∷ b) more rest p q h = let e : 10 ≡ y = cc in absurd (no_feed y (sym e) q.0)
  where
    no_feed : (y : ℕ) → y ≡ 10 → is_byte 10 y ≡ false → ⊥
    no_feed y e g = let f : is_byte 10 10 ≡ false = sym (ap (is_byte 10) e) ∙ g in cc
first_lines (x ∷ a) [] more rest p q h = let e : x ≡ 10 = cc in absurd (no_feed x e p.0)
  where
    no_feed : (y : ℕ) → y ≡ 10 → is_byte 10 y ≡ false → ⊥
    no_feed y e g = let f : is_byte 10 10 ≡ false = sym (ap (is_byte 10) e) ∙ g in cc
first_lines (x ∷ a) (y ∷ b) more rest p q h =
    let e : x ≡ y = cc in
    let t : a ++ 10 ∷ more ≡ b ++ 10 ∷ rest = cc in
    let r = first_lines a b more rest p.1 q.1 t in
    (rw (e, r.0) refl, r.1)

-- texts that begin with a field have the same field, and the same behind it
pub first_fields : (a b more rest : List ℕ) → AllByRecursion (λ b. is_byte 32 b ≡ false) a → AllByRecursion (λ b. is_byte 32 b ≡ false) b → a ++ 32 ∷ more ≡ b ++ 32 ∷ rest → (a ≡ b) × (more ≡ rest)
first_fields [] [] more rest p q h = (refl, cc)
first_fields [] (y ∷ b) more rest p q h = let e : 32 ≡ y = cc in absurd (no_space y (sym e) q.0)
  where
    no_space : (y : ℕ) → y ≡ 32 → is_byte 32 y ≡ false → ⊥
    no_space y e g = let f : is_byte 32 32 ≡ false = sym (ap (is_byte 32) e) ∙ g in cc
first_fields (x ∷ a) [] more rest p q h = let e : x ≡ 32 = cc in absurd (no_space x e p.0)
  where
    no_space : (y : ℕ) → y ≡ 32 → is_byte 32 y ≡ false → ⊥
    no_space y e g = let f : is_byte 32 32 ≡ false = sym (ap (is_byte 32) e) ∙ g in cc
first_fields (x ∷ a) (y ∷ b) more rest p q h =
    let e : x ≡ y = cc in
    let t : a ++ 32 ∷ more ≡ b ++ 32 ∷ rest = cc in
    let r = first_fields a b more rest p.1 q.1 t in
    (rw (e, r.0) refl, r.1)
