-- `**` alone.
use Rattle.std.proofs.Common.{◌≡◌, ◌==◌, ◌&&◌, ℕ, Bool, suc, true, false, List, [], ◌∷◌, drop, length, ap, arith, ne_eqb, refl, sym, ◌∙◌}
use Rattle.std.proofs.lemmas.Bool.{eqb-true}
use Rattle.zt_keys.specs.Chunks.{is_double}
use Rattle.zt_keys.specs.Parts.{Part, many, one, marked, plain, part_of, parts_match}
use Rattle.zt_keys.specs.Meet.{parts_match-sym}
use Rattle.zt_keys.specs.Walking.{walked, width}
use Rattle.zt_keys.proofs.Pieces.{walked-some}
use Rattle.zt_keys.proofs.Turns.{behind-rest}

left_alone : (ys : List Part) → parts_match [] (drop (width ys) ys) ≡ (length (drop (width ys) ys) == 0)
unfolding parts_match
left_alone [] = refl
left_alone (many ∷ ys) = left_alone ys
left_alone (one ∷ ys) = left_alone ys
left_alone (marked chunk ∷ ys) = sym (ne_eqb (suc (length ys)) 0 (omega arith))
left_alone (plain chunk ∷ ys) = left_alone ys

pub alone : (ys vs : List Part) → vs ≡ drop (width ys) ys → parts_match (many ∷ []) ys ≡ (length vs == 0)
alone ys vs is = behind-rest [] ys vs refl is ∙ ap (parts_match []) is ∙ left_alone ys ∙ ap (λ zs. length zs == 0) (sym is)

and_left : (a b : Bool) → (a && b) ≡ true → a ≡ true
and_left true b h = refl
and_left false b h = cc

and_right : (a b : Bool) → (a && b) ≡ true → b ≡ true
and_right true b h = h
and_right false b h = cc

pub double_is : (text : List ℕ) → is_double text ≡ true → walked text ≡ many ∷ []
unfolding part_of
double_is [] h = cc
double_is (a ∷ []) h = cc
double_is (a ∷ b ∷ []) h =
    let first : a ≡ 42 = eqb-true a 42 (and_left (a == 42) (b == 42) h) in
    let second : b ≡ 42 = eqb-true b 42 (and_right (a == 42) (b == 42) h) in
    rw (first, second) refl
double_is (a ∷ b ∷ c ∷ rest) h = cc

pub first_alone : (first second : List ℕ) (result : Bool) → is_double first ≡ true → result ≡ parts_match (many ∷ []) (walked second) → result ≡ parts_match (walked first) (walked second)
first_alone first second result double is = is ∙ ap (λ xs. parts_match xs (walked second)) (sym (double_is first double))

pub second_alone : (first second : List ℕ) (result : Bool) → is_double second ≡ true → result ≡ parts_match (many ∷ []) (walked first) → result ≡ parts_match (walked first) (walked second)
second_alone first second result double is = is ∙ parts_match-sym (many ∷ []) (walked first) ∙ ap (parts_match (walked first)) (sym (double_is second double))

pub none_left : (bytes : List ℕ) → (length bytes == 0) ≡ (length (walked bytes) == 0)
none_left [] = refl
none_left (b ∷ bytes) =
    let some = walked-some (b ∷ bytes) (omega arith) in
    ne_eqb (suc (length bytes)) 0 (omega arith)
    ∙ sym (ap (λ (xs : List Part). length xs == 0) some.2 ∙ ne_eqb (suc (length some.1)) 0 (omega arith))
