-- Pairs of face and number in order of face: what is found there, put there and taken from there.
use Rattle.std.proofs.Common.{◌≡◌, ◌≢◌, ℕ, ◌==◌, true, false, not, List, Ok, Err, get_or, is_some, unwrap_or, refl, ap, sym, eq-eqb, ne_eqb}
use Rattle.std.specs.Cmp.{nat_cmp_total}
use Rattle.std.specs.FinMap.Entries.{find, is_sorted-put, is_sorted-where_key}
use Rattle.std.specs.List.{insert, remove}
use Rattle.std.specs.Ordering.{nat_cmp}
use Rattle.zt_keys.specs.Test.{by_test}
use Rattle.zt_ordered.specs.Placing.{find-gap, find-place, put-gap, without-gap, without-place}
use Rattle.zt_ordered.specs.Rows.{place, same}
use Rattle.zt_ordered.specs.Test.{T-from, T-to}
use Rattle.zt_link_queues.specs.Found.{AreRising, number_in, with_number, without_number}

pub number_there : (face at : ℕ) (pairs : List (ℕ × ℕ)) (d : ℕ × ℕ) → place nat_cmp face pairs ≡ Ok at → (get_or pairs at d).1 ≡ number_in face pairs
number_there face at pairs d there = sym (ap (λ o. unwrap_or o 0) (find-place nat_cmp nat_cmp_total face pairs at d there))

pub none_there : (face at : ℕ) (pairs : List (ℕ × ℕ)) → AreRising pairs → place nat_cmp face pairs ≡ Err at → 0 ≡ number_in face pairs
none_there face at pairs rising gap = sym (ap (λ o. unwrap_or o 0) (find-gap nat_cmp nat_cmp_total face pairs at rising gap))

-- ---- a face that has a number keeps it
pub with_known : (face number at : ℕ) (pairs : List (ℕ × ℕ)) → place nat_cmp face pairs ≡ Ok at → pairs ≡ with_number face number pairs
with_known face number at pairs there =
    let known : is_some (find nat_cmp face pairs) ≡ true = ap is_some (find-place nat_cmp nat_cmp_total face pairs at (0, 0) there) in
    rw known refl

pub with_new : (face number at : ℕ) (pairs : List (ℕ × ℕ)) → AreRising pairs → place nat_cmp face pairs ≡ Err at → insert pairs at (face, number) ≡ with_number face number pairs
with_new face number at pairs rising gap =
    let new : is_some (find nat_cmp face pairs) ≡ false = ap is_some (find-gap nat_cmp nat_cmp_total face pairs at rising gap) in
    rw new (sym (put-gap nat_cmp nat_cmp_total face number pairs at gap))

pub rising_with : (face number : ℕ) (pairs : List (ℕ × ℕ)) → AreRising pairs → AreRising (with_number face number pairs)
rising_with face number pairs rising =
    by_test (is_some (find nat_cmp face pairs)) (λ known. rw known rising) (λ new. rw new (T-to _ (is_sorted-put nat_cmp nat_cmp_total face number pairs (T-from _ rising))))

-- ---- a number is taken
pub without_this : (face number at : ℕ) (pairs : List (ℕ × ℕ)) → AreRising pairs → place nat_cmp face pairs ≡ Ok at → number_in face pairs ≡ number → remove pairs at ≡ without_number face number pairs
without_this face number at pairs rising there is =
    rw (eq-eqb (number_in face pairs) number is) (sym (without-place nat_cmp nat_cmp_total face pairs at rising there))

pub without_other : (face number : ℕ) (pairs : List (ℕ × ℕ)) → number_in face pairs ≢ number → pairs ≡ without_number face number pairs
without_other face number pairs other = rw (ne_eqb (number_in face pairs) number other) refl

pub without_none : (face number at : ℕ) (pairs : List (ℕ × ℕ)) → AreRising pairs → place nat_cmp face pairs ≡ Err at → pairs ≡ without_number face number pairs
without_none face number at pairs rising gap =
    by_test (number_in face pairs == number) (λ this. rw this (sym (without-gap nat_cmp nat_cmp_total face pairs at rising gap))) (λ other. rw other refl)

pub rising_without : (face number : ℕ) (pairs : List (ℕ × ℕ)) → AreRising pairs → AreRising (without_number face number pairs)
rising_without face number pairs rising =
    by_test (number_in face pairs == number) (λ this. rw this (T-to _ (is_sorted-where_key nat_cmp (λ k. not (same nat_cmp face k)) pairs (T-from _ rising)))) (λ other. rw other rising)
