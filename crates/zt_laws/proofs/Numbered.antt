-- Members by their numbers from 1: the one of a number, changed, and a fact of each.
use Rattle.std.proofs.Common.{◌≡◌, ◌≢◌, ℕ, suc, ◌+◌, ◌-◌, ◌≤◌, ◌<◌, cond, ◌==◌, List, [], ◌∷◌, ◌++◌, length, Some, refl, sym, ap, ◌∙◌, subst, arith, eqb-true}
use Rattle.std.proofs.lemmas.Bool.{eqb-false}
use Rattle.zt_model.specs.Fabric.{at_nth}
use Rattle.zt_model.specs.Lists.{nth}
use Rattle.zt_laws.specs.Sound.{EachFrom}
use Rattle.zt_laws.proofs.Lists.{by_test}

pub nth_real : {A : Type 0} (n : ℕ) (xs : List A) (x : A) → nth n xs ≡ Some x → 1 ≤ n
nth_real n [] x h = cc
nth_real n (y ∷ xs) x h =
    by_test (n == 1)
    (λ here. let is : n ≡ 1 = eqb-true n 1 here in omega arith)
    (λ here. let later : 1 ≤ n - 1 = nth_real (n - 1) xs x (rw here at h) in omega arith)

pub nth_within : {A : Type 0} (n : ℕ) (xs : List A) (x : A) → nth n xs ≡ Some x → n ≤ length xs
nth_within n [] x h = cc
nth_within n (y ∷ xs) x h =
    by_test (n == 1)
    (λ here. let is : n ≡ 1 = eqb-true n 1 here in omega arith)
    (λ here. let later : n - 1 ≤ length xs = nth_within (n - 1) xs x (rw here at h) in omega arith)

pub length-at_nth : {A : Type 0} (n : ℕ) (change : A → A) (xs : List A) → length (at_nth n change xs) ≡ length xs
length-at_nth n change [] = refl
length-at_nth n change (x ∷ xs) = by_test (n == 1) (λ here. rw here refl) (λ here. rw here (ap (λ k. suc k) (length-at_nth (n - 1) change xs)))

-- changes that agree at the member make the same list
pub at_nth_alike : {A : Type 0} (n : ℕ) (one two : A → A) (xs : List A) (x : A) → nth n xs ≡ Some x → one x ≡ two x → at_nth n one xs ≡ at_nth n two xs
at_nth_alike n one two [] x h same_ = refl
at_nth_alike n one two (y ∷ xs) x h same_ =
    by_test (n == 1)
    (λ here. let e : Some y ≡ Some x = rw here at h in let is : x ≡ y = cc in rw here (ap (λ z. z ∷ xs) (subst (λ z. one z ≡ two z) is same_)))
    (λ here. rw here (ap (λ rest. y ∷ rest) (at_nth_alike (n - 1) one two xs x (rw here at h) same_)))

-- the member of a number has what holds of it: `n` is its number, where the first has the number k
pub each_from_nth : {A : Type 0} (P : ℕ → A → Type 0) (k m n : ℕ) (xs : List A) (x : A) → k + m ≡ n + 1 → EachFrom P k xs → nth m xs ≡ Some x → P n x
each_from_nth P k m n [] x count all h = cc
each_from_nth P k m n (y ∷ xs) x count all h =
    by_test (m == 1)
    (λ here.
    let e : Some y ≡ Some x = rw here at h in
    let is : y ≡ x = cc in
    let one : m ≡ 1 = eqb-true m 1 here in
    let number_ : k ≡ n = omega arith in
    subst (P n) is (subst (λ j. P j y) number_ all.0))
    (λ here.
    let later : nth (m - 1) xs ≡ Some x = rw here at h in
    let real : 1 ≤ m - 1 = nth_real (m - 1) xs x later in
    each_from_nth P (k + 1) (m - 1) n xs x (omega arith) all.1 later)

-- facts of members other than the n-th, beyond it
each_from_beyond : {A : Type 0} (P Q : ℕ → A → Type 0) (n k : ℕ) (xs : List A) → n < k → ((j : ℕ) (x : A) → j ≢ n → P j x → Q j x) → EachFrom P k xs → EachFrom Q k xs
each_from_beyond P Q n k [] beyond other all = tt
each_from_beyond P Q n k (x ∷ xs) beyond other all = (other k x (λ e. omega arith) all.0, each_from_beyond P Q n (k + 1) xs (omega arith) other all.1)

-- a fact of each member after the n-th is changed
pub each_from_at : {A : Type 0} (P Q : ℕ → A → Type 0) (change : A → A) (k m n : ℕ) (xs : List A) → 1 ≤ m → k + m ≡ n + 1
    → ((j : ℕ) (x : A) → j ≢ n → P j x → Q j x) → ((x : A) → nth m xs ≡ Some x → P n x → Q n (change x)) → EachFrom P k xs → EachFrom Q k (at_nth m change xs)
each_from_at P Q change k m n [] real count other own all = tt
each_from_at P Q change k m n (x ∷ xs) real count other own all =
    by_test (m == 1)
    (λ here.
    let one : m ≡ 1 = eqb-true m 1 here in
    let number_ : k ≡ n = omega arith in
    let at_x : nth m (x ∷ xs) ≡ Some x = ap (λ b. cond b (Some x) (nth (m - 1) xs)) here in
    rw here (subst (λ j. Q j (change x)) (sym number_) (own x at_x (subst (λ j. P j x) number_ all.0)), each_from_beyond P Q n (k + 1) xs (omega arith) other all.1))
    (λ here.
    let more : m ≡ 1 → ⊥ = eqb-false m 1 here in
    let real_ : 1 ≤ m - 1 = omega arith in
    rw here (
      other k x (λ e. more (omega arith)) all.0,
      each_from_at P Q change (k + 1) (m - 1) n xs real_ (omega arith) other (λ y at_ p. own y (ap (λ b. cond b (Some x) (nth (m - 1) xs)) here ∙ at_) p) all.1,
    ))

pub each_from_last : {A : Type 0} (P : ℕ → A → Type 0) (k : ℕ) (xs : List A) (x : A) → EachFrom P k xs → P (k + length xs) x → EachFrom P k (xs ++ x ∷ [])
each_from_last P k [] x all last = (subst (λ j. P j x) (omega arith) last, tt)
each_from_last P k (y ∷ xs) x all last = (all.0, each_from_last P (k + 1) xs x all.1 (subst (λ j. P j x) (omega arith) last))
