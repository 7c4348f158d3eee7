-- Entries that stand at the front of one text: the longer list begins with the shorter one.
use Rattle.std.proofs.Common.{◌≡◌, ◌⊎◌, inl, inr, ℕ, zero, suc, ◌+◌, ◌%◌, ◌/◌, ◌<◌, ◌≤◌, ◌^◌, Bool, true, false, cond, List, [], ◌∷◌, ◌++◌, length, Option, Result, Ok, Err, refl, sym, ap, subst, ◌∙◌, append_assoc, arith}
use Rattle.std.proofs.lemmas.Bool.Decides.{nat_tests}
use Rattle.std.specs.Prelude.{decimal, ◌==◌}
use Rattle.std.specs.Fmt.{digits, digits_onto, digit_glyph}
use Rattle.std.specs.List.{AllByRecursion}
use Rattle.std.specs.declared.cmp.Ordering.{Ordering}
use Rattle.zt_keys.specs.Key.{KeyLaws}
use Rattle.zt_keys.specs.declared.anchor.Anchor.{Anchor}
use Rattle.zt_keys.specs.declared.error.KeyError.{KeyError}
use Rattle.zt_protocol.specs.Plain.{PlainEntry}
use Rattle.zt_text.specs.Sent.{ArePrinted}
use Rattle.zt_text.specs.Text.{entries_text, entry_text}
use Rattle.zt_model.specs.Transcript.{IsEntry}
use Rattle.zt_check_trace.specs.Entries.{BeginsWithEntry}
use Rattle.zt_check_trace.specs.Parts.{begins_with_mark}
use Rattle.zt_check_trace.proofs.EntryLemmas.{one_entry}

-- ---- an entry begins with a digit

abbrev BeginsWithDigit : List ℕ → Type 0
BeginsWithDigit text = (d : ℕ) × (others : List ℕ) × (text ≡ d ∷ others) × (48 ≤ d) × (d < 58)

glyph_is : (d : ℕ) → d < 10 → digit_glyph false d ≡ 48 + d
glyph_is d h = grind (arith, nat_tests)

last_digit : (n : ℕ) (acc : List ℕ) → BeginsWithDigit (digit_glyph false (n % 10) ∷ acc)
last_digit n acc =
    let small : n % 10 < 10 = omega arith in
    let is = glyph_is (n % 10) small in
    (digit_glyph false (n % 10), acc, refl, omega (arith, is), omega (arith, is, small))

digits_begin : (most n : ℕ) (acc : List ℕ) → BeginsWithDigit acc → BeginsWithDigit (digits_onto most 10 false n acc)
digits_begin zero n acc h = h
digits_begin (suc most) n acc h =
    elim (n / 10 == 0) as (λ v. BeginsWithDigit (cond v (digit_glyph false (n % 10) ∷ acc) (digits_onto most 10 false (n / 10) (digit_glyph false (n % 10) ∷ acc)))) [
      | true ↦ last_digit n acc
      | false ↦ digits_begin most (n / 10) (digit_glyph false (n % 10) ∷ acc) (last_digit n acc)
    ]

digits_begin_some : (most n : ℕ) → BeginsWithDigit (digits_onto (suc most) 10 false n [])
digits_begin_some most n =
    elim (n / 10 == 0) as (λ v. BeginsWithDigit (cond v (digit_glyph false (n % 10) ∷ []) (digits_onto most 10 false (n / 10) (digit_glyph false (n % 10) ∷ [])))) [
      | true ↦ last_digit n []
      | false ↦ digits_begin most (n / 10) (digit_glyph false (n % 10) ∷ []) (last_digit n [])
    ]

decimal_begins : (n : ℕ) → BeginsWithDigit (decimal n)
unfolding digits
decimal_begins n = digits_begin_some 63 n

unmarked_digit : (d : ℕ) (text : List ℕ) → d < 58 → begins_with_mark (d ∷ text) ≡ false
unmarked_digit d text h = grind (arith, nat_tests)

unmarked_more : (text more : List ℕ) → BeginsWithDigit text → begins_with_mark (text ++ more) ≡ false
unmarked_more text more h = ap (λ (t : List ℕ). begins_with_mark (t ++ more)) h.2 ∙ unmarked_digit h.0 (h.1 ++ more) h.4

unmarked_number : (n : ℕ) (a b c : List ℕ) → begins_with_mark (((decimal n ++ a) ++ b) ++ c) ≡ false
unmarked_number n a b c = ap begins_with_mark (append_assoc (decimal n ++ a) b c ∙ append_assoc (decimal n) a (b ++ c)) ∙ unmarked_more (decimal n) (a ++ (b ++ c)) (decimal_begins n)

module _ {K : Type 0} (printed : K → List ℕ) where
  unmarked_entry : (n : ℕ) (entry : PlainEntry K) (more : List ℕ) → begins_with_mark (entry_text printed n entry ++ more) ≡ false
  unmarked_entry n (Ok sents) more = unmarked_number n _ _ more
  unmarked_entry n (Err refusal) more = ap begins_with_mark (append_assoc (decimal n) _ more) ∙ unmarked_more (decimal n) _ (decimal_begins n)

  unmarked : (n : ℕ) (entries : List (PlainEntry K)) (rest : List ℕ) → (entries ≡ [] → begins_with_mark rest ≡ false) → begins_with_mark (entries_text printed n entries ++ rest) ≡ false
  unfolding entries_text
  unmarked n [] rest h = h refl
  unmarked n (entry ∷ entries) rest h =
      ap begins_with_mark (append_assoc (entry_text printed n entry) (entries_text printed (n + 1) entries) rest) ∙ unmarked_entry n entry (entries_text printed (n + 1) entries ++ rest)

  -- entries stand at the front of a text, from this number on
  pub record Stand (n : ℕ) (text : List ℕ) (entries : List (PlainEntry K)) (rest : List ℕ) : Type 0 where
    pub are_entries : AllByRecursion IsEntry entries
    pub are_printed : ArePrinted entries
    pub stand : text ≡ entries_text printed n entries ++ rest
    pub are_all : (entries ≡ []) ⊎ (begins_with_mark rest ≡ false)

  last_unmarked : {A : Type 0} (x : A) (xs : List A) (rest : List ℕ) → (x ∷ xs ≡ []) ⊎ (begins_with_mark rest ≡ false) → begins_with_mark rest ≡ false
  last_unmarked x xs rest (inl e) = absurd cc
  last_unmarked x xs rest (inr h) = h

  first_stands : (n : ℕ) (text : List ℕ) (entry : PlainEntry K) (entries : List (PlainEntry K)) (rest : List ℕ) → Stand n text (entry ∷ entries) rest
      → BeginsWithEntry printed n text entry (entries_text printed (n + 1) entries ++ rest)
  unfolding entries_text
  first_stands n text entry entries rest h =
      let last = last_unmarked entry entries rest h.are_all in
      record {
        is_entry = h.are_entries.0;
        is_printed = h.are_printed.0;
        stands = h.stand ∙ append_assoc (entry_text printed n entry) (entries_text printed (n + 1) entries) rest;
        is_all = unmarked (n + 1) entries rest (λ e. last);
      }

  others_stand : (n : ℕ) (text : List ℕ) (entry : PlainEntry K) (entries : List (PlainEntry K)) (rest : List ℕ) → Stand n text (entry ∷ entries) rest → Stand (n + 1) (entries_text printed (n + 1) entries ++ rest) entries rest
  others_stand n text entry entries rest h =
      record { are_entries = h.are_entries.1; are_printed = h.are_printed.1; stand = refl; are_all = inr (last_unmarked entry entries rest h.are_all) }

  -- a list of entries goes on behind another, where the first of these stands
  pub record GoesOn (n : ℕ) (rest : List ℕ) (entries all : List (PlainEntry K)) : Type 0 where
    pub entry : PlainEntry K
    pub more : List (PlainEntry K)
    pub behind : List ℕ
    pub is_all : all ≡ entries ++ entry ∷ more
    pub stands : (k : ℕ) → k ≡ n + length entries → BeginsWithEntry printed k rest entry behind

  abbrev pub AreOnOneAnother : ℕ → List (PlainEntry K) → List ℕ → List (PlainEntry K) → List ℕ → Type 0
  AreOnOneAnother n es rest fs end = ((es ≡ fs) × (rest ≡ end)) ⊎ (GoesOn n rest es fs ⊎ GoesOn n end fs es)

  begins_on : (n : ℕ) (text : List ℕ) (entry : PlainEntry K) (entries : List (PlainEntry K)) (rest end : List ℕ) → Stand n text (entry ∷ entries) end → text ≡ rest → GoesOn n rest [] (entry ∷ entries)
  begins_on n text entry entries rest end h is = record {
    entry = entry;
    more = entries;
    behind = entries_text printed (n + 1) entries ++ end;
    is_all = refl;
    stands = λ k e. subst (λ (j : ℕ). BeginsWithEntry printed j rest entry (entries_text printed (n + 1) entries ++ end)) (number k e) (subst (λ (t : List ℕ). BeginsWithEntry printed n t entry (entries_text printed (n + 1) entries ++ end)) is (first_stands n text entry entries end h));
  }
    where
      number : (k : ℕ) → k ≡ n + length {A = PlainEntry K} [] → n ≡ k
      number k e = omega (arith, e)

  goes_on_more : (n : ℕ) (rest : List ℕ) (x y : PlainEntry K) (entries all : List (PlainEntry K)) → x ≡ y → GoesOn (n + 1) rest entries all → GoesOn n rest (x ∷ entries) (y ∷ all)
  goes_on_more n rest x y entries all e h = record {
    entry = h.entry;
    more = h.more;
    behind = h.behind;
    is_all = ap (λ (z : PlainEntry K). z ∷ all) (sym e) ∙ ap (λ (zs : List (PlainEntry K)). x ∷ zs) h.is_all;
    stands = λ k is. h.stands k (number k is);
  }
    where
      number : (k : ℕ) → k ≡ n + length (x ∷ entries) → k ≡ n + 1 + length entries
      number k is = omega (arith, is)

module _ {K : Type 0} (cmp : K → K → Ordering) (matching : K → K → Bool) (reading : List ℕ → Result K KeyError) (printed : K → List ℕ) (anchored : Anchor → K → Option ℕ) (laws : KeyLaws cmp matching reading printed anchored) where
  pub on_one_another : (n : ℕ) (text other : List ℕ) (es fs : List (PlainEntry K)) (rest end : List ℕ) → n + length es < 2 ^ 64 → text ≡ other → Stand printed n text es rest → Stand printed n other fs end
      → AreOnOneAnother printed n es rest fs end
  unfolding entries_text
  on_one_another n text other [] [] rest end small is one two = inl (refl, sym one.stand ∙ (is ∙ two.stand))
  on_one_another n text other [] (f ∷ fs) rest end small is one two = inr (inl (begins_on printed n other f fs rest end two (sym is ∙ one.stand)))
  on_one_another n text other (e ∷ es) [] rest end small is one two = inr (inr (begins_on printed n text e es end rest one (is ∙ two.stand)))
  on_one_another n text other (e ∷ es) (f ∷ fs) rest end small is one two =
      let first = one_entry cmp matching reading printed anchored laws n (omega (arith, small)) text e f (entries_text printed (n + 1) es ++ rest) (entries_text printed (n + 1) fs ++ end)
      (first_stands printed n text e es rest one) (subst (λ (t : List ℕ). BeginsWithEntry printed n t f (entries_text printed (n + 1) fs ++ end)) (sym is) (first_stands printed n other f fs end two)) in
      lift first.0 (on_one_another (n + 1) _ _ es fs rest end (omega (arith, small)) first.1 (others_stand printed n text e es rest one) (others_stand printed n other f fs end two))
    where
      lift : e ≡ f → AreOnOneAnother printed (n + 1) es rest fs end → AreOnOneAnother printed n (e ∷ es) rest (f ∷ fs) end
      lift is (inl h) = inl (ap (λ (x : PlainEntry K). x ∷ es) is ∙ ap (λ (xs : List (PlainEntry K)). f ∷ xs) h.0, h.1)
      lift is (inr (inl h)) = inr (inl (goes_on_more printed n rest e f es fs is h))
      lift is (inr (inr h)) = inr (inr (goes_on_more printed n end f e fs es (sym is) h))
