-- Faces whose numbers rise: one more, one less, one changed, and those of a number.
use Rattle.std.proofs.Common.{◌≡◌, ℕ, zero, suc, ◌+◌, ◌<◌, ◌≤◌, ◌==◌, Bool, true, false, not, List, [], ◌∷◌, ◌++◌, filter, length, take, drop, map, get_or, set, nat_lt, Some, None, refl, sym, ap, subst, ◌∙◌, arith, ne_eqb}
use Rattle.std.proofs.lemmas.Bool.Decides.{nat_tests}
use Rattle.std.proofs.lemmas.List.Sorted.{IsPartitionedBy-ltb}
use Rattle.std.specs.List.Sorted.{IsPartitionPoint, IsPartitionedBy}
use Rattle.zt_keys.specs.Test.{by_test}
use Rattle.zt_model.specs.Lists.{first_of, first_where}
use Rattle.zt_model.specs.Rows.{Face}
use Rattle.zt_check_faces.specs.Parts.{HasThoseOf, those_of}
use Rattle.zt_check_open_faces.specs.Open.{AreWithin, IsCut, IsOfOne, NumbersRise}

is_below : (a b : ℕ) → nat_lt a b ≡ true → a < b
is_below a b h = grind (arith, nat_tests)

not_below : (a b : ℕ) → nat_lt a b ≡ false → b ≤ a
not_below a b h = grind (arith, nat_tests)

module _ {K : Type 0} where
  -- ---- one more, and some less

  pub rise_pushed : (n made : ℕ) (f : Face K) (fs : List (Face K)) → NumbersRise n fs → AreWithin made fs → n ≤ f.number → made < f.number → NumbersRise n (fs ++ f ∷ [])
  rise_pushed n made f [] rise within le lt = (le, tt)
  rise_pushed n made f (g ∷ fs) rise within le lt =
      let first : g.number ≤ made = within.0 in
      (rise.0, rise_pushed (g.number + 1) made f fs rise.1 within.1 (omega (arith, first, lt)) lt)

  pub within_pushed : (made more : ℕ) (f : Face K) (fs : List (Face K)) → AreWithin made fs → made ≤ more → f.number ≤ more → AreWithin more (fs ++ f ∷ [])
  within_pushed made more f [] within le new = (new, tt)
  within_pushed made more f (g ∷ fs) within le new =
      let first : g.number ≤ made = within.0 in
      (omega (arith, first, le), within_pushed made more f fs within.1 le new)

  rise_lower : (m n : ℕ) (fs : List (Face K)) → n ≤ m → NumbersRise m fs → NumbersRise n fs
  rise_lower m n [] le rise = tt
  rise_lower m n (f ∷ fs) le rise =
      let first : m ≤ f.number = rise.0 in
      (omega (arith, first, le), rise.1)

  pub rise_filtered : (test : Face K → Bool) (n : ℕ) (fs : List (Face K)) → NumbersRise n fs → NumbersRise n (filter test fs)
  rise_filtered test n [] rise = tt
  rise_filtered test n (f ∷ fs) rise =
      let first : n ≤ f.number = rise.0 in
      by_test (test f)
      (λ t. rw t (rise.0, rise_filtered test (f.number + 1) fs rise.1))
      (λ t. rw t (rise_lower (f.number + 1) n (filter test fs) (omega (arith, first)) (rise_filtered test (f.number + 1) fs rise.1)))

  pub within_filtered : (test : Face K → Bool) (made : ℕ) (fs : List (Face K)) → AreWithin made fs → AreWithin made (filter test fs)
  within_filtered test made [] within = tt
  within_filtered test made (f ∷ fs) within =
      by_test (test f)
      (λ t. rw t (within.0, within_filtered test made fs within.1))
      (λ t. rw t (within_filtered test made fs within.1))

  -- ---- changes that keep numbers

  pub rise_changed : (change : Face K → Face K) → ((f : Face K) → (change f).number ≡ f.number) → (n : ℕ) (fs : List (Face K)) → NumbersRise n fs → NumbersRise n (map change fs)
  rise_changed change keeps n [] rise = tt
  rise_changed change keeps n (f ∷ fs) rise = rw (keeps f) (rise.0, rise_changed change keeps (f.number + 1) fs rise.1)

  pub within_changed : (change : Face K → Face K) → ((f : Face K) → (change f).number ≡ f.number) → (made : ℕ) (fs : List (Face K)) → AreWithin made fs → AreWithin made (map change fs)
  within_changed change keeps made [] within = tt
  within_changed change keeps made (f ∷ fs) within = rw (keeps f) (within.0, within_changed change keeps made fs within.1)

  -- ---- a search by halves

  above : (n : ℕ) (fs : List (Face K)) (i : ℕ) (d : Face K) → NumbersRise n fs → i < length fs → n ≤ (get_or fs i d).number
  above n [] i d rise lt = absurd (omega arith)
  above n (f ∷ fs) zero d rise lt = rise.0
  above n (f ∷ fs) (suc i) d rise lt =
      let first : n ≤ f.number = rise.0 in
      let rest = above (f.number + 1) fs i d rise.1 (omega arith) in
      omega (arith, first, rest)

  later_rise : (n : ℕ) (fs : List (Face K)) → NumbersRise n fs → (i j : ℕ) (d : Face K) → i ≤ j → j < length fs → (get_or fs i d).number ≤ (get_or fs j d).number
  later_rise n [] rise i j d le lt = absurd (omega arith)
  later_rise n (f ∷ fs) rise zero zero d le lt = omega arith
  later_rise n (f ∷ fs) rise zero (suc j) d le lt = let rest = above (f.number + 1) fs j d rise.1 (omega arith) in omega (arith, rest)
  later_rise n (f ∷ fs) rise (suc i) zero d le lt = absurd (omega arith)
  later_rise n (f ∷ fs) rise (suc i) (suc j) d le lt = later_rise (f.number + 1) fs rise.1 i j d (omega arith) (omega arith)

  pub are_parted : (n : ℕ) (fs : List (Face K)) → NumbersRise 0 fs → IsPartitionedBy (λ (f : Face K). nat_lt f.number n) fs
  are_parted n fs rise = IsPartitionedBy-ltb (λ (f : Face K). f.number) fs n (later_rise 0 fs rise)

  pub cut_of : (n : ℕ) (fs : List (Face K)) (at : ℕ) → at ≤ length fs → IsPartitionPoint (λ (f : Face K). nat_lt f.number n ≡ true) (λ (f : Face K). nat_lt f.number n ≡ false) fs at → IsCut n fs at
  cut_of n fs at within parted = record {
    within = within;
    before = λ i d lt. is_below (get_or fs i d).number n (parted.0 i d (omega arith) lt);
    there = λ d lt. not_below (get_or fs at d).number n (parted.1 at d (omega arith) lt);
  }

  cut_rest : (n : ℕ) (f : Face K) (fs : List (Face K)) (at : ℕ) → IsCut n (f ∷ fs) (suc at) → IsCut n fs at
  cut_rest n f fs at cut = record {
    within = let w = cut.within in omega (arith, w);
    before = λ i d lt. cut.before (suc i) d (omega arith);
    there = λ d lt. cut.there d (omega arith);
  }

  -- ---- those of a number

  none_behind : (m n : ℕ) (fs : List (Face K)) → NumbersRise m fs → n < m → those_of (λ (f : Face K). f.number) n fs ≡ []
  none_behind m n [] rise lt = refl
  none_behind m n (f ∷ fs) rise lt =
      let first : m ≤ f.number = rise.0 in
      rw (ne_eqb n f.number (omega (arith, first, lt))) (none_behind (f.number + 1) n fs rise.1 (omega (arith, first, lt)))

  none_taken : (fs : List (Face K)) → take zero fs ≡ []
  none_taken [] = refl
  none_taken (f ∷ fs) = refl

  pub those_there : (m n k : ℕ) (fs : List (Face K)) (at : ℕ) → k ≡ suc zero → NumbersRise m fs → IsCut n fs at → at < length fs
      → those_of (λ (f : Face K). f.number) n (take k (drop at fs)) ≡ those_of (λ (f : Face K). f.number) n fs
  those_there m n k [] at one rise cut lt = absurd (omega arith)
  those_there m n k (f ∷ fs) zero one rise cut lt =
      let first : n ≤ f.number = cut.there f (omega arith) in
      let behind = none_behind (f.number + 1) n fs rise.1 (omega (arith, first)) in
      by_test (n == f.number)
      (λ t. rw (one, none_taken fs, t, behind) refl)
      (λ t. rw (one, none_taken fs, t, behind) refl)
  those_there m n k (f ∷ fs) (suc at) one rise cut lt =
      let first : f.number < n = cut.before 0 f (omega arith) in
      rw (ne_eqb n f.number (omega (arith, first))) (those_there (f.number + 1) n k fs at one rise.1 (cut_rest n f fs at cut) (omega arith))

  pub those_none : (m n : ℕ) (fs : List (Face K)) (at : ℕ) → NumbersRise m fs → IsCut n fs at → length fs ≤ at → [] ≡ those_of (λ (f : Face K). f.number) n fs
  those_none m n [] at rise cut past = refl
  those_none m n (f ∷ fs) zero rise cut past = absurd (omega (arith, past))
  those_none m n (f ∷ fs) (suc at) rise cut past =
      let first : f.number < n = cut.before 0 f (omega arith) in
      rw (ne_eqb n f.number (omega (arith, first))) (those_none (f.number + 1) n fs at rise.1 (cut_rest n f fs at cut) (omega (arith, past)))

  first_of_those : (n : ℕ) (fs : List (Face K)) → first_where (λ f. n == f.number) fs ≡ first_of (those_of (λ (f : Face K). f.number) n fs)
  first_of_those n [] = refl
  first_of_those n (f ∷ fs) = by_test (n == f.number) (λ t. rw t refl) (λ t. rw t (first_of_those n fs))

  pub first_of_part : (n : ℕ) (part fs : List (Face K)) → HasThoseOf (λ (f : Face K). f.number) n part fs → first_where (λ f. n == f.number) part ≡ first_where (λ f. n == f.number) fs
  first_of_part n part fs has = first_of_those n part ∙ (ap first_of has ∙ sym (first_of_those n fs))

  -- ---- the face of a number is changed

  kept_behind : (m n : ℕ) (change : Face K → Face K) (fs : List (Face K)) → IsOfOne n change → NumbersRise m fs → n < m → map change fs ≡ fs
  kept_behind m n change [] one rise lt = refl
  kept_behind m n change (f ∷ fs) one rise lt =
      let first : m ≤ f.number = rise.0 in
      ap (λ (g : Face K). g ∷ map change fs) (one.others f (ne_eqb n f.number (omega (arith, first, lt))))
      ∙ ap (λ (gs : List (Face K)). f ∷ gs) (kept_behind (f.number + 1) n change fs one rise.1 (omega (arith, first, lt)))

  pub changed_there : (m n : ℕ) (change : Face K → Face K) (fs : List (Face K)) (at : ℕ) (x y : Face K) → IsOfOne n change → NumbersRise m fs → IsCut n fs at → at < length fs → x ≡ get_or fs at x → y ≡ change x → set fs at y ≡ map change fs
  changed_there m n change [] at x y one rise cut lt is changed = absurd (omega arith)
  changed_there m n change (f ∷ fs) zero x y one rise cut lt is changed =
      let first : n ≤ f.number = cut.there f (omega arith) in
      ap (λ (g : Face K). g ∷ fs) (changed ∙ ap change is)
      ∙ ap (λ (gs : List (Face K)). change f ∷ gs) (sym (kept_behind (f.number + 1) n change fs one rise.1 (omega (arith, first))))
  changed_there m n change (f ∷ fs) (suc at) x y one rise cut lt is changed =
      let first : f.number < n = cut.before 0 f (omega arith) in
      ap (λ (g : Face K). g ∷ set fs at y) (sym (one.others f (ne_eqb n f.number (omega (arith, first)))))
      ∙ ap (λ (gs : List (Face K)). change f ∷ gs) (changed_there (f.number + 1) n change fs at x y one rise.1 (cut_rest n f fs at cut) (omega arith) is changed)

  pub changed_none : (m n : ℕ) (change : Face K → Face K) (fs : List (Face K)) (at : ℕ) → IsOfOne n change → NumbersRise m fs → IsCut n fs at → length fs ≤ at → fs ≡ map change fs
  changed_none m n change [] at one rise cut past = refl
  changed_none m n change (f ∷ fs) zero one rise cut past = absurd (omega (arith, past))
  changed_none m n change (f ∷ fs) (suc at) one rise cut past =
      let first : f.number < n = cut.before 0 f (omega arith) in
      ap (λ (g : Face K). g ∷ fs) (sym (one.others f (ne_eqb n f.number (omega (arith, first)))))
      ∙ ap (λ (gs : List (Face K)). change f ∷ gs) (changed_none (f.number + 1) n change fs at one rise.1 (cut_rest n f fs at cut) (omega (arith, past)))
