-- Reading a number digit by digit.
use Rattle.std.proofs.Common.{◌≡◌, ℕ, ◌+◌, ◌*◌, ◌<◌, ◌≤◌, Bool, true, false, cond, leb, List, [], ◌∷◌, length, get_or, drop, Some, None, refl, sym, ap, ◌∙◌, arith, add-one}
use Rattle.std.proofs.Math.Seq.{drop-cons}
use Rattle.std.proofs.lemmas.Bool.{cond-true, cond-false}
use Rattle.std.proofs.lemmas.Bool.Decides.{nat_tests}
use Rattle.std.proofs.lemmas.List.{drop_all}
use Rattle.zt_fields.specs.Numbers.{digits_after, up_to}

no_more : (most n : ℕ) → most < n → leb n most ≡ false
no_more most n h = grind (arith, nat_tests)

le_then : (a b : ℕ) → a ≤ b → leb a b ≡ true
le_then a b h = grind (arith, nat_tests)

-- a number grows with each digit
abbrev pub Grows : ℕ → Type 0
Grows base = (n : ℕ) → n ≤ n * base

pub up_to_past : (d : ℕ → Bool) (v : ℕ → ℕ) (base most : ℕ) (grows : Grows base) (n : ℕ) (bs : List ℕ) → most < n → up_to most (digits_after d v base n bs) ≡ None
up_to_past d v base most grows n [] h = rw (no_more most n h) refl
up_to_past d v base most grows n (b ∷ bs) h =
    elim (d b) as (λ c. up_to most (cond c (digits_after d v base (n * base + v b) bs) None) ≡ None)
    [ true ↦ up_to_past d v base most grows (n * base + v b) bs (omega (arith, grows n)) | false ↦ refl ]

-- one byte more
pub digits_next : (d : ℕ → Bool) (v : ℕ → ℕ) (base n i : ℕ) (text : List ℕ) → i < length text
    → digits_after d v base n (drop i text) ≡ cond (d (get_or text i 0)) (digits_after d v base (n * base + v (get_or text i 0)) (drop (i + 1) text)) None
digits_next d v base n i text h = rw (drop-cons text i 0 h, add-one i) refl

pub no_digit : (d : ℕ → Bool) (v : ℕ → ℕ) (base n i : ℕ) (text : List ℕ) → i < length text → false ≡ d (get_or text i 0)
    → digits_after d v base 0 text ≡ digits_after d v base n (drop i text) → digits_after d v base 0 text ≡ None
no_digit d v base n i text h digit so_far = so_far ∙ digits_next d v base n i text h ∙ cond-false _ _ _ (sym digit)

pub one_more : (d : ℕ → Bool) (v : ℕ → ℕ) (base n i : ℕ) (text : List ℕ) → i < length text → true ≡ d (get_or text i 0)
    → digits_after d v base 0 text ≡ digits_after d v base n (drop i text)
    → digits_after d v base 0 text ≡ digits_after d v base (n * base + v (get_or text i 0)) (drop (i + 1) text)
one_more d v base n i text h digit so_far = so_far ∙ digits_next d v base n i text h ∙ cond-true _ _ _ (sym digit)

pub too_large : (d : ℕ → Bool) (v : ℕ → ℕ) (base most : ℕ) (grows : Grows base) (n i : ℕ) (text : List ℕ) → i < length text → true ≡ d (get_or text i 0)
    → digits_after d v base 0 text ≡ digits_after d v base n (drop i text) → most < n * base + v (get_or text i 0)
    → up_to most (digits_after d v base 0 text) ≡ None
too_large d v base most grows n i text h digit so_far large =
    ap (up_to most) (one_more d v base n i text h digit so_far) ∙ up_to_past d v base most grows (n * base + v (get_or text i 0)) (drop (i + 1) text) large

pub whole : (d : ℕ → Bool) (v : ℕ → ℕ) (base n i : ℕ) (text : List ℕ) → length text ≤ i
    → digits_after d v base 0 text ≡ digits_after d v base n (drop i text)
    → digits_after d v base 0 text ≡ Some n
whole d v base n i text h so_far = so_far ∙ ap (digits_after d v base n) (drop_all i text h)

pub some_up_to : (most n : ℕ) → n ≤ most → up_to most (Some n) ≡ Some n
some_up_to most n h = rw (le_then n most h) refl

pub none_up_to : (most n : ℕ) → most < n → up_to most (Some n) ≡ None
none_up_to most n h = rw (no_more most n h) refl
