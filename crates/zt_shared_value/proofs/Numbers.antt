-- Sums over the numbers below a count.
use Rattle.std.proofs.Common.{◌≡◌, ℕ, zero, suc, ◌+◌, ◌<◌, ◌≤◌, ◌≢◌, ◌==◌, true, false, refl, arith, add-one}
use Rattle.std.proofs.lemmas.Bool.{eq-eqb, ne_eqb}
use mathlib.Core.Logic.{dite}
use native.Mathlib.Decide.{ℕ_discrete}
use Rattle.zt_shared_value.specs.Owned.{below}

-- 1 at n, and 0 elsewhere
abbrev pub one_at : ℕ → ℕ → ℕ
one_at n m = elim (m == n) [ true ↦ 1 | false ↦ 0 ]

pub one_at-self : (n : ℕ) → one_at n n ≡ 1
one_at-self n = rw (eq-eqb n n refl, one_at) refl

pub one_at-apart : (n m : ℕ) → one_at n m ≡ 0 → m ≢ n
one_at-apart n m away same = let one : one_at n m ≡ 1 = rw (eq-eqb m n same, one_at) refl in absurd (omega arith)

pub one_at-other : (n m : ℕ) → m ≢ n → one_at n m ≡ 0
one_at-other n m other = rw (ne_eqb m n other, one_at) refl

pub below-past : (n c : ℕ) → c ≤ n → below (one_at n) c ≡ 0
below-past n zero le = refl
below-past n (suc c) le = let rest = below-past n c (omega arith) in let away = one_at-other n c (λ same. omega arith) in omega arith

pub below-at : (n c : ℕ) → n < c → below (one_at n) c ≡ 1
below-at n zero lt = absurd (omega arith)
below-at n (suc c) lt = dite (ℕ_discrete c n)
    (λ same. let rest = below-past n c (omega arith) in let one : one_at n c ≡ 1 = rw (eq-eqb c n same, one_at) refl in omega arith)
    (λ other. let rest = below-at n c (omega arith) in let away = one_at-other n c other in omega arith)

pub below-more : (f : ℕ → ℕ) (n : ℕ) → below f (n + 1) ≡ below f n + f n
below-more f n = rw add-one refl
