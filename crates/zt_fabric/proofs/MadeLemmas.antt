-- The script that `make` runs is complete: each of its lines is one of the grammar, and it isn't too long.
use Rattle.std.proofs.Common.{◌≡◌, ℕ, zero, suc, ◌+◌, ◌*◌, ◌<◌, ◌≤◌, ◌^◌, Bool, true, false, List, [], ◌∷◌, ◌++◌, length, map, codes, Result, Ok, Err, is_ok, None, refl, sym, ap, subst, ◌∙◌, arith, append_assoc, append-nil, length-append}
use Rattle.std.proofs.lemmas.Bool.{and_parts, and_from}
use Rattle.std.proofs.lemmas.Bool.Decides.{nat_tests}
use Rattle.std.proofs.lemmas.Fmt.{decimal_digit, digits_decimal, length-decimal-le, decimal_nonempty}
use Rattle.std.proofs.lemmas.Grind.{flat_map-append}
use Rattle.std.proofs.lemmas.List.Splits.{slice_split_none}
use Rattle.std.proofs.lemmas.List.Elements.{All-from_recursion}
use Rattle.std.proofs.lemmas.Str.{IsUtf8-append, is_utf8-from_IsUtf8}
use Rattle.std.proofs.lemmas.Str.Parse.{numerals_by_value, tells_all_ascii_digits}
use Rattle.std.specs.Prelude.{◌||◌, ◌==◌, nat_lt, nat_le, All, decimal, is_none, IsUtf8}
use Rattle.std.specs.Char.{is_ascii_digit}
use Rattle.std.specs.List.{AllByRecursion, list_all, list_any}
use Rattle.std.specs.Str.{all_ascii_digits, is_utf8}
use Rattle.zt_keys.specs.Chunks.{first_bad, first_loose, is_double, is_forbidden, is_star, refusal}
use Rattle.zt_keys.specs.Expression.{Expression, expression_if, is_expression, make, reading}
use Rattle.zt_keys.specs.Key.{is_blank}
use Rattle.zt_streams.specs.Lines.{HasNoFeed, is_feed, lines_of, with_feed}
use Rattle.zt_streams.proofs.LineLemmas.{lines_of-line}
use Rattle.zt_protocol.specs.Plain.{PlainLine, Speak, DeclareToken, CloseFace}
use Rattle.zt_protocol.specs.declared.errors.LineError.{LineError}
use Rattle.zt_fields.specs.Fields.{Fields, fields_of, optional_value_at, settled, value_at}
use Rattle.zt_fields.specs.Numbers.{hex_number, number_up_to}
use Rattle.zt_fields.specs.Values.{region_of}
use Rattle.zt_text.specs.Text.{spaced}
use Rattle.zt_text.proofs.Clean.{AllClean, Clean, clean_decimal, clean_key_bytes, clean_plain, feedless_line, fields_of_line, is_plain, text_of_line}
use Rattle.zt_lines.specs.Grammar.{IsLine}
use Rattle.zt_lines.specs.Words.{word_of}
use Rattle.zt_lines.specs.Lists.{list_read, south_regions_read}
use Rattle.zt_lines.specs.Reading.{gateway_at, interest_at, kind_at, line_at, line_read, link_at, session_at, step_at}
use Rattle.zt_lines.proofs.ReadingLaw.{read_exactly}
use Rattle.zt_model.specs.Transcript.{Each}
use Rattle.zt_laws.proofs.Lists.{each_append}
use Rattle.zt_fabric.specs.Making.{closing_line, coming_lines, declaring_line, first_lines, going_lines, lines_up_to, made_lines, made_script, text_of}
use Rattle.zt_fabric.specs.Transcripts.{IsComplete}

-- ---- digits

digits : (n : ℕ) → n < 2 ^ 64 → all_ascii_digits (decimal n) ≡ true
digits n small = digits_decimal (numerals_by_value (λ ds. all_ascii_digits ds ≡ true) tells_all_ascii_digits) n small

-- what holds of no digit holds of none of them
none_of : (p : ℕ → Bool) → ((b : ℕ) → 48 ≤ b → b ≤ 57 → p b ≡ false) → (ds : List ℕ) → all_ascii_digits ds ≡ true → list_any p ds ≡ false
none_of p none [] all = refl
none_of p none (b ∷ bs) all =
    let parts = and_parts (is_ascii_digit b) (all_ascii_digits bs) all in
    let range = and_parts (nat_le 48 b) (nat_le b 57) parts.0 in
    rw (none b (grind (arith, nat_tests, range.0)) (grind (arith, nat_tests, range.1))) (none_of p none bs parts.1)

or_none : (a b : Bool) → (a || b) ≡ false → (a ≡ false) × (b ≡ false)
or_none true b h = absurd (cc)
or_none false b h = (refl, h)

none_all : (p : ℕ → Bool) (ds : List ℕ) → list_any p ds ≡ false → AllByRecursion (λ b. p b ≡ false) ds
none_all p [] none = tt
none_all p (b ∷ bs) none = let parts = or_none (p b) (list_any p bs) none in (parts.0, none_all p bs parts.1)

all_none : (p : ℕ → Bool) (bytes : List ℕ) → AllByRecursion (λ b. p b ≡ false) bytes → list_any p bytes ≡ false
all_none p [] all = refl
all_none p (b ∷ bs) all = rw all.0 (all_none p bs all.1)

-- ---- keys

no_forbidden : (b : ℕ) → 48 ≤ b → b ≤ 57 → is_forbidden b ≡ false
unfolding is_forbidden
no_forbidden b low high =
    let a : nat_lt b 33 ≡ false = grind (arith, nat_tests, low) in
    let d : (b == 127) ≡ false = grind (arith, nat_tests, high) in
    let e : (b == 35) ≡ false = grind (arith, nat_tests, low) in
    let f : (b == 36) ≡ false = grind (arith, nat_tests, low) in
    let g : (b == 63) ≡ false = grind (arith, nat_tests, high) in
    rw (a, d, e, f, g) refl

no_blank : (b : ℕ) → 48 ≤ b → b ≤ 57 → is_blank b ≡ false
no_blank b low high =
    let a : (b == 32) ≡ false = grind (arith, nat_tests, low) in
    let d : (b == 9) ≡ false = grind (arith, nat_tests, low) in
    let e : (b == 10) ≡ false = grind (arith, nat_tests, low) in
    let f : (b == 13) ≡ false = grind (arith, nat_tests, low) in
    rw (a, d, e, f) refl

not_double : (ds : List ℕ) → list_any is_star ds ≡ false → is_double ds ≡ false
not_double [] none = refl
not_double (a ∷ []) none = refl
not_double (a ∷ b ∷ []) none = rw (none_all is_star (a ∷ b ∷ []) none).0 refl
not_double (a ∷ b ∷ d ∷ ds) none = refl

-- a key of two chunks, the second a number
not_refused : (ds : List ℕ) → 0 < length ds → all_ascii_digits ds ≡ true → refusal (codes "t/" ++ ds) ≡ None
unfolding refusal first_bad first_loose is_forbidden
not_refused [] some all = absurd (omega (arith, some))
not_refused (b ∷ bs) some all =
    let slash = none_of (λ b. b == 47) (λ b low high. grind (arith, nat_tests, low)) (b ∷ bs) all in
    let star = none_of is_star (λ b low high. grind (arith, nat_tests, low)) (b ∷ bs) all in
    let good = none_of is_forbidden no_forbidden (b ∷ bs) all in
    let whole = slice_split_none (λ b. b == 47) (b ∷ bs) (All-from_recursion (λ b. (b == 47) ≡ false) (b ∷ bs) (none_all (λ b. b == 47) (b ∷ bs) slash)) in
    rw whole (rw (good, star, not_double (b ∷ bs) star) refl)

read_if : (text : List ℕ) (b : Bool) (is : is_expression text ≡ b) → b ≡ true → (key : Expression) × (expression_if text b is ≡ Ok key)
read_if text true is so = (make text is, refl)
read_if text false is so = absurd (cc)

clean_key : (n : ℕ) → n < 2 ^ 64 → IsUtf8 (codes "t/" ++ decimal n)
clean_key n small = IsUtf8-append (codes "t/") (decimal n) (clean_plain (codes "t/") refl).utf8 (clean_decimal n small).utf8

unblanked_key : (n : ℕ) → n < 2 ^ 64 → All (λ b. is_blank b ≡ false) (codes "t/" ++ decimal n)
unblanked_key n small =
    All-from_recursion (λ b. is_blank b ≡ false) (codes "t/" ++ decimal n)
    (none_all is_blank (codes "t/" ++ decimal n) (none_of is_blank no_blank (decimal n) (digits n small)))

clean_key_text : (n : ℕ) → n < 2 ^ 64 → Clean (codes "t/" ++ decimal n)
clean_key_text n small = clean_key_bytes (codes "t/" ++ decimal n) (clean_key n small) (unblanked_key n small)

is_key : (n : ℕ) → n < 2 ^ 64 → is_expression (codes "t/" ++ decimal n) ≡ true
unfolding is_expression
is_key n small =
    let text = codes "t/" ++ decimal n in
    and_from (is_utf8 text) (is_none (refusal text)) (is_utf8-from_IsUtf8 text (clean_key n small)) (ap is_none (not_refused (decimal n) (decimal_nonempty n small) (digits n small)))

key_is_read : (n : ℕ) → n < 2 ^ 64 → (key : Expression) × (reading (codes "t/" ++ decimal n) ≡ Ok key)
unfolding reading
key_is_read n small = let text = codes "t/" ++ decimal n in read_if text (is_expression text) refl (is_key n small)

-- ---- lines

-- the text is a line of the grammar, and has no feed
abbrev IsGood : List ℕ → Type 0
IsGood text = (line : PlainLine Expression) × (line_read reading text ≡ Ok line) × HasNoFeed text

has_no_feed : (first : List ℕ) (fields : Fields) → Clean first → AllClean fields → HasNoFeed (first ++ spaced fields)
has_no_feed first fields clean all = all_none is_feed (first ++ spaced fields) (feedless_line first fields clean all)

-- by its fields
good_line : (first : List ℕ) (fields : Fields) (line : PlainLine Expression) → Clean first → AllClean fields → IsLine reading (first ∷ fields) line → IsGood (first ++ spaced fields)
good_line first fields line clean all is =
    let text = first ++ spaced fields in
    let there = subst (λ (fs : Fields). IsLine reading fs line) (sym (fields_of_line first fields clean all)) is in
    (line, (read_exactly reading text line).1 (text_of_line first fields clean all, there), has_no_feed first fields clean all)

-- by computing
all_clean : (fields : Fields) → list_all is_plain fields ≡ true → AllClean fields
all_clean [] h = tt
all_clean (field ∷ fields) h = let parts = and_parts (is_plain field) (list_all is_plain fields) h in (clean_plain field parts.0, all_clean fields parts.1)

line_of_result : (r : Result (PlainLine Expression) LineError) → is_ok r ≡ true → (line : PlainLine Expression) × (r ≡ Ok line)
line_of_result (Ok line) h = (line, refl)
line_of_result (Err e) h = absurd (cc)

read_by_fields : (text : List ℕ) (fields : Fields) (line : PlainLine Expression) → IsUtf8 text → fields_of text ≡ fields → line_at reading fields ≡ Ok line → line_read reading text ≡ Ok line
unfolding line_read
read_by_fields text fields line utf8 are is = rw (is_utf8-from_IsUtf8 text utf8) (ap (λ fs. settled (line_at reading fs)) are ∙ ap settled is)

good_fixed : (first : List ℕ) (fields : Fields) → is_plain first ≡ true → list_all is_plain fields ≡ true → is_ok (line_at reading (first ∷ fields)) ≡ true → IsGood (first ++ spaced fields)
good_fixed first fields plain all reads =
    let clean = clean_plain first plain in
    let cleans = all_clean fields all in
    let found = line_of_result (line_at reading (first ∷ fields)) reads in
    (found.0, read_by_fields (first ++ spaced fields) (first ∷ fields) found.0 (text_of_line first fields clean cleans) (fields_of_line first fields clean cleans) found.1, has_no_feed first fields clean cleans)

session_good : IsGood (codes "session 3")
unfolding line_at kind_at session_at value_at optional_value_at number_up_to word_of
session_good = good_fixed (codes "session") (codes "3" ∷ []) refl refl refl

steps_good : Each IsGood (codes "step 2 fwd" ∷ codes "step 1 back" ∷ [])
unfolding line_at kind_at step_at value_at optional_value_at number_up_to word_of
steps_good = (
  good_fixed (codes "step") (codes "2" ∷ codes "fwd" ∷ []) refl refl refl,
  (good_fixed (codes "step") (codes "1" ∷ codes "back" ∷ []) refl refl refl, tt),
)

first_good : Each IsGood first_lines
unfolding line_at kind_at step_at session_at link_at gateway_at interest_at value_at optional_value_at number_up_to hex_number word_of south_regions_read list_read region_of
first_good = (
  good_fixed (codes "gateway") (codes "router" ∷ codes "1" ∷ codes "regions=south0-client" ∷ []) refl refl refl,
  (
    good_fixed (codes "gateway") (codes "client" ∷ codes "2" ∷ []) refl refl refl,
    (
      good_fixed (codes "gateway") (codes "client" ∷ codes "3" ∷ []) refl refl refl,
      (
        good_fixed (codes "link") (codes "2" ∷ codes "1" ∷ []) refl refl refl,
        (
          good_fixed (codes "link") (codes "3" ∷ codes "1" ∷ []) refl refl refl,
          (
            good_fixed (codes "session") (codes "2" ∷ []) refl refl refl,
            (
              good_fixed (codes "interest") (codes "5" ∷ codes "1" ∷ codes "current-future" ∷ codes "t" ∷ []) refl refl refl,
              (
                good_fixed (codes "step") (codes "1" ∷ codes "fwd" ∷ []) refl refl refl,
                (
                  good_fixed (codes "step") (codes "1" ∷ codes "back" ∷ []) refl refl refl,
                  tt,
                ),
              ),
            ),
          ),
        ),
      ),
    ),
  ),
)

declaring_good : (n : ℕ) → n ≤ 2000 → IsGood (declaring_line n)
declaring_good n small =
    let face = decimal (5 + n) in
    let key = codes "t/" ++ decimal n in
    let fields : Fields = face ∷ codes "1" ∷ key ∷ [] in
    let found = key_is_read n (omega (arith, small)) in
    let clean_face : Clean face = clean_decimal (5 + n) (omega (arith, small)) in
    let clean : Clean key = clean_key_text n (omega (arith, small)) in
    let good = good_line (codes "declare") fields (Speak (DeclareToken (5 + n) 1 found.0 0 None)) (clean_plain (codes "declare") refl) (clean_face, (clean_plain (codes "1") refl, (clean, tt))) (
      face,
      codes "1",
      key,
      [],
      [],
      refl,
      record { spelled = refl; within = omega (arith, small) },
      record { spelled = sym (decimal_digit 1 (omega arith)); within = omega arith },
      record { nonempty = λ h. absurd (cc); unblanked = unblanked_key n (omega (arith, small)); accepted = found.1 },
      refl,
      (None, refl, refl),
    ) in
    subst IsGood (ap (λ t. codes "declare " ++ (face ++ (codes " 1 t/" ++ t))) (append-nil (decimal n))) good

closing_good : (n : ℕ) → n ≤ 2000 → IsGood (closing_line n)
closing_good n small =
    let face = decimal (5 + n) in
    let clean_face : Clean face = clean_decimal (5 + n) (omega (arith, small)) in
    let good = good_line (codes "close") (face ∷ []) (Speak (CloseFace (5 + n))) (clean_plain (codes "close") refl) (clean_face, tt)
    (face, refl, record { spelled = refl; within = omega (arith, small) }) in
    subst IsGood (ap (λ t. codes "close " ++ t) (append-nil face)) good

-- ---- the script

coming_good : (n : ℕ) → n ≤ 2000 → Each IsGood (coming_lines n)
coming_good n small = (session_good, (declaring_good n small, steps_good))

going_good : (n : ℕ) → n ≤ 2000 → Each IsGood (going_lines n)
going_good n small = (closing_good n small, steps_good)

all_good : (lines : ℕ → List (List ℕ)) → ((n : ℕ) → n ≤ 2000 → Each IsGood (lines n)) → (n : ℕ) → n ≤ 2000 → Each IsGood (lines_up_to lines n)
all_good lines good zero small = tt
all_good lines good (suc n) small = each_append IsGood (lines_up_to lines n) (lines (suc n)) (all_good lines good n (omega (arith, small))) (good (suc n) small)

made_good : (n : ℕ) → n ≤ 2000 → Each IsGood (made_lines n)
made_good n small =
    each_append IsGood first_lines (lines_up_to coming_lines n ++ lines_up_to going_lines n) first_good
    (each_append IsGood (lines_up_to coming_lines n) (lines_up_to going_lines n) (all_good coming_lines coming_good n small) (all_good going_lines going_good n small))

lines_back : (texts : List (List ℕ)) → Each IsGood texts → lines_of (text_of texts) ≡ texts
lines_back [] good = refl
lines_back (text ∷ texts) good =
    ap lines_of (append_assoc text (10 ∷ []) (text_of texts)) ∙ lines_of-line text (text_of texts) good.0.2 ∙ ap (λ ls. text ∷ ls) (lines_back texts good.1)

all_read : (texts : List (List ℕ)) → Each IsGood texts → (lines : List (PlainLine Expression)) × (map (line_read reading) texts ≡ map (λ line. Ok line) lines)
all_read [] good = ([], refl)
all_read (text ∷ texts) good =
    let others = all_read texts good.1 in
    (good.0.0 ∷ others.0, rw (good.0.1, others.1) refl)

-- ---- its length

size_of : (text : List ℕ) (texts : List (List ℕ)) → length (text_of (text ∷ texts)) ≡ length text + 1 + length (text_of texts)
size_of text texts = omega (arith, length-append (text ++ 10 ∷ []) (text_of texts), length-append text (10 ∷ []))

size_append : (xs ys : List (List ℕ)) → length (text_of (xs ++ ys)) ≡ length (text_of xs) + length (text_of ys)
size_append xs ys = ap length (flat_map-append with_feed xs ys) ∙ length-append (text_of xs) (text_of ys)

size_declaring : (n : ℕ) → n ≤ 2000 → length (declaring_line n) ≤ 21
size_declaring n small =
    let face = decimal (5 + n) in
    omega (
      arith,
      small,
      length-append (codes "declare ") (face ++ (codes " 1 t/" ++ decimal n)),
      length-append face (codes " 1 t/" ++ decimal n),
      length-append (codes " 1 t/") (decimal n),
      length-decimal-le 4 (5 + n) (omega arith) (omega (arith, small)) (omega (arith, small)),
      length-decimal-le 4 n (omega arith) (omega (arith, small)) (omega (arith, small)),
    )

size_closing : (n : ℕ) → n ≤ 2000 → length (closing_line n) ≤ 10
size_closing n small =
    omega (arith, small, length-append (codes "close ") (decimal (5 + n)), length-decimal-le 4 (5 + n) (omega arith) (omega (arith, small)) (omega (arith, small)))

size_coming : (n : ℕ) → n ≤ 2000 → length (text_of (coming_lines n)) ≤ 64
size_coming n small =
    let steps = codes "step 2 fwd" ∷ codes "step 1 back" ∷ [] in
    omega (arith, size_of (codes "session 3") (declaring_line n ∷ steps), size_of (declaring_line n) steps, size_declaring n small)

size_going : (n : ℕ) → n ≤ 2000 → length (text_of (going_lines n)) ≤ 64
size_going n small = omega (arith, size_of (closing_line n) (codes "step 2 fwd" ∷ codes "step 1 back" ∷ []), size_closing n small)

size_up_to : (lines : ℕ → List (List ℕ)) → ((n : ℕ) → n ≤ 2000 → length (text_of (lines n)) ≤ 64) → (n : ℕ) → n ≤ 2000 → length (text_of (lines_up_to lines n)) ≤ n * 64
size_up_to lines each zero small = omega arith
size_up_to lines each (suc n) small =
    omega (arith, small, size_append (lines_up_to lines n) (lines (suc n)), size_up_to lines each n (omega (arith, small)), each (suc n) small)

size_made : (n : ℕ) → n ≤ 2000 → length (text_of (made_lines n)) ≤ 1048576
size_made n small =
    omega (
      arith,
      small,
      size_append first_lines (lines_up_to coming_lines n ++ lines_up_to going_lines n),
      size_append (lines_up_to coming_lines n) (lines_up_to going_lines n),
      size_up_to coming_lines size_coming n small,
      size_up_to going_lines size_going n small,
    )

-- the script is complete
pub made_complete : (n : ℕ) → n ≤ 2000 → IsComplete reading (made_script n)
unfolding made_script
made_complete n small =
    let good = made_good n small in
    let read = all_read (made_lines n) good in
    record { fits = size_made n small; lines = read.0; are_read = ap (map (line_read reading)) (lines_back (made_lines n) good) ∙ read.1 }

pub made_back : (n : ℕ) → n ≤ 2000 → lines_of (made_script n) ≡ made_lines n
unfolding made_script
made_back n small = lines_back (made_lines n) (made_good n small)
