-- Taking fields off the front of a line.
use Rattle.std.proofs.Common.{◌≡◌, ◌≢◌, ℕ, ◌+◌, not, ◌<◌, ◌≤◌, Bool, true, false, cond, eqb, List, [], ◌∷◌, ◌++◌, length, Option, Some, None, Result, Ok, Err, refl, sym, ap, subst, get_or, ◌∙◌, arith, Bor}
use Rattle.std.proofs.lemmas.Bool.{eqb-true, eq-eqb}
use Rattle.std.proofs.lemmas.Bool.Decides.{nat_tests}
use Rattle.std.proofs.lemmas.List.Splits.{slice_split_first}
use Rattle.std.proofs.lemmas.List.Sums.{passes_at_first, prefix_len-le-length}
use Rattle.std.specs.Prelude.{is_some, nat_lt}
use Rattle.std.specs.Option.{option_copied}
use Rattle.std.specs.List.{prefix_len, position, onto_first, position_or_len, before_first, after_first}
use Rattle.zt_protocol.specs.declared.errors.LineError.{LineError}
use Rattle.zt_protocol.specs.declared.errors.LineError.TheVariants as errors
use Rattle.zt_fields.specs.Fields.{Fields, parts_of, parts_left, is_byte, end_at, two_of, three_of, behind}

abbrev ended : Result (Unit {0}) LineError
ended = Ok tt

no_end : Err errors.NotInGrammar ≡ ended → ⊥
no_end h = cc

onto_some : (b : ℕ) (fields : Fields) → end_at (onto_first b fields) ≡ Err errors.NotInGrammar
onto_some b [] = refl
onto_some b (field ∷ fields) = refl

-- a text has a part
pub end_of_text : (c : ℕ) (text : List ℕ) → end_at (parts_of c text) ≡ Err errors.NotInGrammar
end_of_text c [] = refl
end_of_text c (b ∷ bs) =
    elim (is_byte c b) as (λ v. end_at (cond v ([] ∷ parts_of c bs) (onto_first b (parts_of c bs))) ≡ Err errors.NotInGrammar)
    [ true ↦ refl | false ↦ onto_some b (parts_of c bs) ]

pub part_at_separator : (c : ℕ) (text before after : List ℕ) → (before ≡ before_first (is_byte c) text) × (after ≡ after_first (is_byte c) text) × (position_or_len (is_byte c) text < length text)
    → parts_of c text ≡ before ∷ parts_of c after
part_at_separator c text before after h = rw (h.0, h.1) (slice_split_first (is_byte c) text 0 h.2)

abbrev prefix_is : ℕ → Bool → List ℕ → ℕ
prefix_is c v bs = cond (not v) (1 + prefix_len (λ x. not (is_byte c x)) bs) 0

pub one_part : (c : ℕ) (text : List ℕ) → position_or_len (is_byte c) text ≡ length text → parts_of c text ≡ text ∷ []
one_part c [] h = refl
one_part c (b ∷ bs) h =
    elim (is_byte c b) as (λ v. prefix_is c v bs ≡ length (b ∷ bs) → cond v ([] ∷ parts_of c bs) (onto_first b (parts_of c bs)) ≡ (b ∷ bs) ∷ []) [
      | true ↦ λ g. absurd (omega (arith, g))
      | false ↦ λ g. rw (one_part c bs (omega (arith, g))) refl
    ] h

-- the parts of a text, as one and others
pub parts_some : (c : ℕ) (text : List ℕ) → (first : List ℕ) × (others : Fields) × (parts_of c text ≡ first ∷ others)
parts_some c text =
    elim (parts_of c text) as (λ v. parts_of c text ≡ v → (first : List ℕ) × (others : Fields) × (parts_of c text ≡ first ∷ others)) [
      | [] ↦ λ is. absurd (no_end (sym (end_of_text c text) ∙ ap end_at is))
      | first ∷ others ↦ λ is. (first, others, is)
    ] refl

pub left_some : (c : ℕ) (o : Option (Bor (List ℕ))) → is_some o ≡ true → (first : List ℕ) × (others : Fields) × (parts_left c (option_copied o) ≡ first ∷ others)
left_some c None h = absurd cc
left_some c (Some text) h = parts_some c text.now

pub left_none : (c : ℕ) (o : Option (Bor (List ℕ))) → is_some o ≡ false → parts_left c (option_copied o) ≡ []
left_none c None h = refl
left_none c (Some text) h = absurd cc

pub two_of_more : (a b : List ℕ) (c : ℕ) (text : List ℕ) → two_of (a ∷ b ∷ parts_of c text) ≡ None
two_of_more a b c text = let p = parts_some c text in ap (λ (t : Fields). two_of (a ∷ b ∷ t)) p.2

pub three_of_more : (x y z : List ℕ) (c : ℕ) (text : List ℕ) → three_of (x ∷ y ∷ z ∷ parts_of c text) ≡ None
three_of_more x y z c text = let p = parts_some c text in ap (λ (t : Fields). three_of (x ∷ y ∷ z ∷ t)) p.2

-- ---- the first space

-- where a space is found, and that none stands before it
pub space_at : (text : List ℕ) (end : ℕ) → position (is_byte 32) text ≡ Some end → (end ≡ position_or_len (is_byte 32) text) × (end < length text) × (get_or text end 0 ≡ 32)
space_at text end h =
    elim (nat_lt (position_or_len (is_byte 32) text) (length text)) as (λ v. nat_lt (position_or_len (is_byte 32) text) (length text) ≡ v → cond v (Some (position_or_len (is_byte 32) text)) None ≡ Some end → (end ≡ position_or_len (is_byte 32) text) × (end < length text) × (get_or text end 0 ≡ 32)) [
      | true ↦ λ is g.
          let same : position_or_len (is_byte 32) text ≡ end = some_same (position_or_len (is_byte 32) text) end g in
          let less : position_or_len (is_byte 32) text < length text = grind (arith, nat_tests, is) in
          let found = eqb-true (get_or text (position_or_len (is_byte 32) text) 0) 32 (passes_at_first (is_byte 32) text 0 less) in
          (sym same, omega (arith, less, same), subst (λ (i : ℕ). get_or text i 0 ≡ 32) same found)
      | false ↦ λ is g. absurd cc
    ] refl h
  where
    some_same : (a b : ℕ) → Some a ≡ Some b → a ≡ b
    some_same a b e = cc

pub no_space : (text : List ℕ) → position (is_byte 32) text ≡ None → position_or_len (is_byte 32) text ≡ length text
no_space text h =
    elim (nat_lt (position_or_len (is_byte 32) text) (length text)) as (λ v. nat_lt (position_or_len (is_byte 32) text) (length text) ≡ v → cond v (Some (position_or_len (is_byte 32) text)) None ≡ None → position_or_len (is_byte 32) text ≡ length text) [
      | true ↦ λ is g. absurd cc
      | false ↦ λ is g. let most : length text ≤ position_or_len (is_byte 32) text = grind (arith, nat_tests, is) in omega (arith, most, prefix_len-le-length (λ b. not (is_byte 32 b)) text)
    ] refl h

-- ---- words in front

pub behind_of : (word text : List ℕ) → behind word (word ++ text) ≡ Some text
behind_of [] text = refl
behind_of (w ∷ ws) text = rw (eq-eqb w w refl) (behind_of ws text)

pub behind_is : (word text value : List ℕ) → behind word text ≡ Some value → text ≡ word ++ value
behind_is [] text value h = cc
behind_is (w ∷ ws) [] value h = absurd cc
behind_is (w ∷ ws) (b ∷ bs) value h =
    elim (eqb b w) as (λ v. eqb b w ≡ v → cond v (behind ws bs) None ≡ Some value → b ∷ bs ≡ w ∷ (ws ++ value)) [
      | true ↦ λ same g. let e : b ≡ w = eqb-true b w same in let f = behind_is ws bs value g in cc
      | false ↦ λ same g. absurd cc
    ] refl h

pub behind_none : (word text : List ℕ) → ((rest : List ℕ) → text ≢ word ++ rest) → behind word text ≡ None
behind_none word text h =
    elim (behind word text) as (λ v. behind word text ≡ v → v ≡ None) [
      | None ↦ λ is. refl
      | Some value ↦ λ is. absurd (h value (behind_is word text value is))
    ] refl
