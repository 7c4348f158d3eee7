-- The same of names.
use Rattle.std.proofs.Common.{◌≡◌, inl, inr, ℕ, true, List, [], ◌∷◌, length, Some, None, refl, sym, ap, subst, ◌∙◌, arith}
use Rattle.std.proofs.lemmas.Bool.{cond-true, eqb-true, eq-eqb, and_from, and_parts}
use Rattle.std.proofs.lemmas.Bool.Decides.{nat_tests}
use Rattle.std.specs.Prelude.{◌||◌, ◌==◌, nat_le}
use Rattle.std.specs.Char.{is_ascii_digit}
use Rattle.std.specs.Int.{is_in_range}
use Rattle.std.specs.List.{list_all, AllByRecursion}
use Rattle.zt_fields.specs.Fields.{spelled_by}
use Rattle.zt_lines.specs.Lists.{is_word_byte, is_word, name_of}
use Rattle.zt_lines.specs.Grammar.{IsWordByte, IsName}
use Rattle.zt_fields.proofs.Exact.{Exact, some, some_is, by_option, chosen}
use Rattle.zt_fields.proofs.ExactParts.{in_range_is, in_range, or_split, or_left, or_right}

word_byte_is : (b : ℕ) → is_word_byte b ≡ true → IsWordByte b
word_byte_is b h =
    elim (or_split (is_in_range 97 122 b || is_ascii_digit b) (b == 95) h) [
      | inl g ↦ elim (or_split (is_in_range 97 122 b) (is_ascii_digit b) g) [ inl k ↦ inl (in_range_is 97 122 b k) | inr k ↦ inr (inl (in_range_is 48 57 b k)) ]
      | inr g ↦ inr (inr (eqb-true b 95 g))
    ]

word_byte : (b : ℕ) → IsWordByte b → is_word_byte b ≡ true
word_byte b (inl h) = or_left (is_in_range 97 122 b || is_ascii_digit b) (b == 95) (or_left (is_in_range 97 122 b) (is_ascii_digit b) (in_range 97 122 b h))
word_byte b (inr (inl h)) = or_left (is_in_range 97 122 b || is_ascii_digit b) (b == 95) (or_right (is_in_range 97 122 b) (is_ascii_digit b) (in_range 48 57 b h))
word_byte b (inr (inr h)) = or_right (is_in_range 97 122 b || is_ascii_digit b) (b == 95) (eq-eqb b 95 h)

word_bytes_are : (text : List ℕ) → list_all is_word_byte text ≡ true → AllByRecursion IsWordByte text
word_bytes_are [] h = tt
word_bytes_are (b ∷ bs) h = let p = and_parts (is_word_byte b) (list_all is_word_byte bs) h in (word_byte_is b p.0, word_bytes_are bs p.1)

word_bytes : (text : List ℕ) → AllByRecursion IsWordByte text → list_all is_word_byte text ≡ true
word_bytes [] h = refl
word_bytes (b ∷ bs) h = and_from (is_word_byte b) (list_all is_word_byte bs) (word_byte b h.0) (word_bytes bs h.1)

word_is : (text : List ℕ) → is_word text ≡ true → IsName text text
word_is [] h = absurd cc
word_is (b ∷ bs) h =
    let p = and_parts (nat_le (length (b ∷ bs)) 32) (list_all is_word_byte (b ∷ bs)) h in
    record { same = refl; nonempty = λ e. absurd cc; short = grind (arith, nat_tests, p.0); bytes = word_bytes_are (b ∷ bs) p.1 }

word : (text name : List ℕ) → IsName text name → is_word text ≡ true
word [] name h = absurd (h.nonempty refl)
word (b ∷ bs) name h = and_from (nat_le (length (b ∷ bs)) 32) (list_all is_word_byte (b ∷ bs)) (grind (arith, nat_tests, h.short)) (word_bytes (b ∷ bs) h.bytes)

name_sound : (text name : List ℕ) → name_of text ≡ Some name → IsName text name
unfolding name_of
name_sound text name h =
    elim (chosen (is_word text) (Some text) None (Some name) h) [
      | inl g ↦ subst (IsName text) (some_is text name g.1) (word_is text g.0)
      | inr g ↦ absurd cc
    ]

name_complete : (text name : List ℕ) → IsName text name → name_of text ≡ Some name
unfolding name_of
name_complete text name h = cond-true _ _ _ (word text name h) ∙ ap (λ (t : List ℕ). some t) (sym h.same)

pub exact_name : Exact (spelled_by name_of) IsName
exact_name = by_option name_of IsName name_sound name_complete
