-- The numbers of faces in scripts, where each face has one place.
use Rattle.std.proofs.Common.{◌≡◌, ℕ, ◌+◌, ◌-◌, ◌≤◌, ◌<◌, length, drop, get_or, Bool, true, false, ◌==◌, not, List, [], ◌∷◌, None, refl, sym, ap, ◌∙◌, arith, eqb-true, eq-eqb, ne_eqb}
use Rattle.std.proofs.lemmas.Bool.{eqb-false}
use Rattle.std.proofs.lemmas.List.{drop_all}
use Rattle.std.specs.List.{list_any}
use Rattle.zt_keys.specs.Test.{by_test}
use Rattle.zt_model.specs.Lists.{is_some_and, nth}
use Rattle.zt_model.specs.Places.{Place, number_from}
use Rattle.zt_check_faces.proofs.Placed.{next_is}
use Rattle.zt_check_fabric.specs.Placed.{has_one_place, is_place}
use Rattle.zt_check_fabric.proofs.Numbered.{nth_zero}

pub eqb_flip : (a b : ℕ) → (a == b) ≡ (b == a)
eqb_flip a b =
    by_test (a == b)
    (λ same. same ∙ sym (eq-eqb b a (sym (eqb-true a b same))))
    (λ apart. apart ∙ sym (ne_eqb b a (λ e. eqb-false a b apart (sym e))))

-- a face with a place has a number
number_there : (i n f : ℕ) (ps : List Place) → has_one_place n f ps ≡ true → i ≤ number_from i n f ps
unfolding number_from
number_there i n f [] one = cc
number_there i n f (p ∷ ps) one =
    by_test (is_place n f p)
    (λ here. rw here (omega arith))
    (λ here. let rest : i + 1 ≤ number_from (i + 1) n f ps = number_there (i + 1) n f ps (rw here at one) in rw here (omega arith))

-- no other has the place
none_there : (k n f : ℕ) (ps : List Place) → list_any (is_place n f) ps ≡ false → is_some_and (nth k ps) (is_place n f) ≡ false
none_there k n f [] none = refl
none_there k n f (p ∷ ps) none =
    by_test (is_place n f p)
    (λ here. let e : true ≡ false = rw here at none in cc)
    (λ here. by_test (k == 1)
    (λ first. rw (first, here) refl)
    (λ later. rw later (none_there (k - 1) n f ps (rw here at none))))

not_any : (b : Bool) → not b ≡ true → b ≡ false
not_any true h = cc
not_any false h = refl

-- the number of a face, counted from i + 1, and its place
number_at : (i k n f : ℕ) (ps : List Place) → 1 ≤ k → has_one_place n f ps ≡ true → (number_from (i + 1) n f ps == k + i) ≡ is_some_and (nth k ps) (is_place n f)
unfolding number_from
number_at i k n f [] real one = cc
number_at i k n f (p ∷ ps) real one =
    by_test (is_place n f p)
    (λ here.
    let others : list_any (is_place n f) ps ≡ false = not_any _ (rw here at one) in
    by_test (k == 1)
    (λ first.
    let is : k ≡ 1 = eqb-true k 1 first in
    let same : (i + 1 == k + i) ≡ true = eq-eqb (i + 1) (k + i) (omega arith) in
    rw (here, first) (same ∙ sym here))
    (λ later.
    let apart : (i + 1 == k + i) ≡ false = ne_eqb (i + 1) (k + i) (λ e. eqb-false k 1 later (omega arith)) in
    rw (here, later) (apart ∙ sym (none_there (k - 1) n f ps others))))
    (λ here.
    let rest : has_one_place n f ps ≡ true = rw here at one in
    let above : i + 1 + 1 ≤ number_from (i + 1 + 1) n f ps = number_there (i + 1 + 1) n f ps rest in
    by_test (k == 1)
    (λ first.
    let is : k ≡ 1 = eqb-true k 1 first in
    let apart : (number_from (i + 1 + 1) n f ps == k + i) ≡ false = ne_eqb (number_from (i + 1 + 1) n f ps) (k + i) (λ e. omega arith) in
    rw (here, first) (apart ∙ sym here))
    (λ later.
    let more : k ≡ 1 → ⊥ = eqb-false k 1 later in
    let up : 1 ≤ k - 1 = omega arith in
    let moved : k + i ≡ k - 1 + (i + 1) = omega arith in
    rw (here, later) (ap (λ x. number_from (i + 1 + 1) n f ps == x) moved ∙ number_at (i + 1) (k - 1) n f ps up rest)))

-- a number is a face's exactly where the face has the place of that number
pub number_is : (k n f : ℕ) (ps : List Place) → has_one_place n f ps ≡ true → (number_from 1 n f ps == k) ≡ is_some_and (nth k ps) (is_place n f)
number_is k n f ps one =
    by_test (k == 0)
    (λ none.
    let is : k ≡ 0 = eqb-true k 0 none in
    let above : 1 ≤ number_from 1 n f ps = number_there 1 n f ps one in
    let nobody : nth k ps ≡ None = ap (λ j. nth j ps) is ∙ nth_zero ps in
    ne_eqb (number_from 1 n f ps) k (λ e. omega arith) ∙ sym (ap (λ o. is_some_and o (is_place n f)) nobody))
    (λ some.
    let apart : k ≡ 0 → ⊥ = eqb-false k 0 some in
    let same : k ≡ k + 0 = omega arith in
    ap (λ j. number_from 1 n f ps == j) same ∙ number_at 0 k n f ps (omega arith) one)

-- ---- a number that is sought

module _ (n f : ℕ) (ps : List Place) (i : ℕ) (p : Place) (within : i < length ps) (is : p ≡ get_or ps i p) where
  pub number_here : (all : ℕ) → is_place n f p ≡ true → number_from (i + 1) n f (drop i ps) ≡ all → i + 1 ≡ all
  unfolding number_from
  number_here all here so_far =
      let first : number_from (i + 1) n f (p ∷ drop (i + 1) ps) ≡ i + 1 = rw here refl in
      sym first ∙ ap (number_from (i + 1) n f) (sym (next_is ps i p within is)) ∙ so_far

  pub number_later : (all : ℕ) → is_place n f p ≡ false → number_from (i + 1) n f (drop i ps) ≡ all → number_from (i + 1 + 1) n f (drop (i + 1) ps) ≡ all
  unfolding number_from
  number_later all here so_far =
      let first : number_from (i + 1) n f (p ∷ drop (i + 1) ps) ≡ number_from (i + 1 + 1) n f (drop (i + 1) ps) = rw here refl in
      sym first ∙ ap (number_from (i + 1) n f) (sym (next_is ps i p within is)) ∙ so_far

pub number_never : (n f : ℕ) (ps : List Place) (i all : ℕ) → length ps ≤ i → number_from (i + 1) n f (drop i ps) ≡ all → 0 ≡ all
unfolding number_from
number_never n f ps i all past so_far =
    let none : number_from (i + 1) n f [] ≡ 0 = refl in
    sym none ∙ ap (number_from (i + 1) n f) (sym (drop_all i ps past)) ∙ so_far
