-- An expression that matches one without wildcards has chunks of no kind that the other lacks.
use Rattle.std.proofs.Common.{◌≡◌, ℕ, Bool, true, false, ◌||◌, ◌==◌, List, [], ◌∷◌, Some, bit_and, nat_eq, refl, sym, ap, ◌∙◌, arith}
use Rattle.std.proofs.lemmas.Bool.{false≢true}
use Rattle.std.proofs.lemmas.Bool.Decides.{nat_tests}
use Rattle.std.proofs.lemmas.Nat.{and_assoc, and_comm}
use Rattle.std.specs.Int.Bits.{and_self}
use Rattle.std.specs.List.{list_any}
use Rattle.std.specs.Cmp.Lexicographic.{same_text}
use Rattle.zt_keys.specs.Chunks.{is_double, is_single, is_star}
use Rattle.zt_keys.specs.Parts.{Part, many, one, marked, plain, is_marked, meets, part_of}
use Rattle.zt_keys.specs.Meet.{Meet, ends, left_none, left_takes, right_none, right_takes, both, flip, match-to}
use Rattle.zt_keys.specs.Matching.{matching, parts}
use Rattle.zt_keys.specs.Expression.{Expression}
use Rattle.zt_keys.specs.Anchors.{hash_of, number_of}
use Rattle.zt_keys.specs.Numbers.{are_named, named-text, tail-named}
use Rattle.zt_keys.specs.Kinds.{kinds_after, kinds_from, kinds_of, other_kinds}
use Rattle.zt_keys.specs.Walking.{walked}
use Rattle.zt_keys.specs.Test.{by_test}
use Rattle.zt_keys.proofs.Texts.{walked-parts}

-- a kind more in the second alone, and one more in both
one-more : (a b p : ℕ) → bit_and a b ≡ b → bit_and a (bit_and b p) ≡ bit_and b p
one-more a b p h = sym (and_assoc p a b) ∙ ap (λ n. bit_and n p) h

again : (b p : ℕ) → bit_and p (bit_and b p) ≡ bit_and b p
again b p = and_comm p (bit_and b p) ∙ and_assoc p b p ∙ ap (bit_and b) (and_self p)

both-more : (a b p : ℕ) → bit_and a b ≡ b → bit_and (bit_and a p) (bit_and b p) ≡ bit_and b p
both-more a b p h = and_assoc (bit_and b p) a p ∙ ap (bit_and a) (again b p) ∙ one-more a b p h

after-one : (y : Part) (ys : List Part) (a b : ℕ) → are_named (y ∷ ys) ≡ true → bit_and a b ≡ b → bit_and a (kinds_after b y) ≡ kinds_after b y
after-one many ys a b n h = h
after-one one ys a b n h = h
after-one (marked c) ys a b n h = one-more a b (other_kinds c) h
after-one (plain c) ys a b n h = one-more a b (other_kinds c) h

after-both : (x y : Part) (ys : List Part) (a b : ℕ) → meets x y ≡ true → are_named (y ∷ ys) ≡ true → bit_and a b ≡ b → bit_and (kinds_after a x) (kinds_after b y) ≡ kinds_after b y
after-both many y ys a b g n h = absurd (false≢true g)
after-both one y ys a b g n h = after-one y ys a b n h
after-both (marked c) many ys a b g n h = absurd (false≢true g)
after-both (marked c) one ys a b g n h = absurd (false≢true g)
after-both (marked c) (marked d) ys a b g n h = let e : c ≡ d = same_text c d (sym g) in rw (← e) (both-more a b (other_kinds c) h)
after-both (marked c) (plain d) ys a b g n h = absurd (false≢true g)
after-both (plain c) many ys a b g n h = absurd (false≢true g)
after-both (plain c) one ys a b g n h = absurd (false≢true n)
after-both (plain c) (marked d) ys a b g n h = absurd (false≢true g)
after-both (plain c) (plain d) ys a b g n h = let e : c ≡ d = same_text c d (sym g) in rw (← e) (both-more a b (other_kinds c) h)

meet-kinds : {xs ys : List Part} → (a b : ℕ) → Meet xs ys → are_named ys ≡ true → bit_and a b ≡ b → bit_and (kinds_from a xs) (kinds_from b ys) ≡ kinds_from b ys
meet-kinds a b ends n h = h
meet-kinds a b (left_none t) n h = meet-kinds a b t n h
meet-kinds a b (left_takes {ys = ys} {y = y} g t) n h = meet-kinds a (kinds_after b y) t (tail-named y ys n) (after-one y ys a b n h)
meet-kinds a b (right_none t) n h = absurd (false≢true n)
meet-kinds a b (right_takes g t) n h = absurd (false≢true n)
meet-kinds a b (both {ys = ys} {x = x} {y = y} g t) n h = meet-kinds (kinds_after a x) (kinds_after b y) t (tail-named y ys n) (after-both x y ys a b g n h)

starless-number : (text : List ℕ) → list_any is_star text ≡ false → number_of text ≡ Some (hash_of text)
starless-number text e = rw e refl

kinds-agree : (a b : Expression) → Meet (parts a.bytes) (parts b.bytes) → list_any is_star b.bytes ≡ false → bit_and (kinds_of a.bytes) (kinds_of b.bytes) ≡ kinds_of b.bytes
unfolding kinds_of
kinds-agree a b meet e =
    rw (walked-parts a, walked-parts b)
    (meet-kinds 18446744073709551615 18446744073709551615 meet (named-text b.bytes (hash_of b.bytes) (starless-number b.bytes e)) (and_self 18446744073709551615))

same-number : (m n : ℕ) → m ≡ n → (m == n) ≡ true
same-number m n e = grind (arith, nat_tests)

-- the test that one of two which match passes, if it has no wildcards
passes : (a b : Expression) → Meet (parts a.bytes) (parts b.bytes) → (list_any is_star b.bytes || bit_and (kinds_of a.bytes) (kinds_of b.bytes) == kinds_of b.bytes) ≡ true
passes a b meet =
    by_test (list_any is_star b.bytes)
    (λ e. rw e refl)
    (λ e. rw e (same-number _ _ (kinds-agree a b meet e)))

-- the kinds after a chunk, as what it is
pub named-kinds : (chunk : List ℕ) (kinds : ℕ) → is_double chunk ≡ false → is_single chunk ≡ false → bit_and kinds (other_kinds chunk) ≡ kinds_after kinds (part_of chunk)
unfolding part_of
named-kinds chunk kinds d s = rw (d, s) (by_test (is_marked chunk) (λ e. rw e refl) (λ e. rw e refl))

pub double-kinds : (chunk : List ℕ) (kinds : ℕ) → is_double chunk ≡ true → kinds ≡ kinds_after kinds (part_of chunk)
unfolding part_of
double-kinds chunk kinds d = rw d refl

pub single-kinds : (chunk : List ℕ) (kinds : ℕ) → is_double chunk ≡ false → is_single chunk ≡ true → kinds ≡ kinds_after kinds (part_of chunk)
unfolding part_of
single-kinds chunk kinds d s = rw (d, s) refl

-- what can't match doesn't
pub not-matching : (matches may : Bool) → (matches ≡ true → may ≡ true) → may ≡ false → may ≡ matches
not-matching true may needs e = absurd (false≢true (sym e ∙ needs refl))
not-matching false may needs e = e

pub may-match : (a b : Expression) → matching a b ≡ true →
    ((list_any is_star a.bytes || bit_and (kinds_of b.bytes) (kinds_of a.bytes) == kinds_of a.bytes) ≡ true)
    × ((list_any is_star b.bytes || bit_and (kinds_of a.bytes) (kinds_of b.bytes) == kinds_of b.bytes) ≡ true)
unfolding matching
may-match a b h =
    let meet = match-to (parts a.bytes) (parts b.bytes) h in
    (passes b a (flip meet), passes a b meet)
