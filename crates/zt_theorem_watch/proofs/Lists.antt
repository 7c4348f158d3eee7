-- Places and filters of lists.
use Rattle.std.proofs.Common.{◌≡◌, ℕ, zero, suc, ◌+◌, ◌≤◌, Bool, true, false, List, [], ◌∷◌, ◌++◌, length, map, filter, take, slice_get, Option, Some, None, refl, sym, ap, ◌∙◌, arith, subst}
use Rattle.zt_model.specs.Transcript.{Each}
use Rattle.zt_laws.proofs.Lists.{by_test, never}
use Rattle.zt_theorem_journal.specs.Dealt.{numbered_from}

pub filter_map : {A B : Type 0} (p : B → Bool) (f : A → B) (xs : List A) → filter p (map f xs) ≡ map f (filter (λ x. p (f x)) xs)
filter_map p f [] = refl
filter_map p f (x ∷ xs) = by_test (p (f x)) (λ here. rw here (ap (λ ys. f x ∷ ys) (filter_map p f xs))) (λ here. rw here (filter_map p f xs))

-- what passes one test passes another
pub filter_within : {A : Type 0} (p q : A → Bool) (xs : List A) → Each (λ x. p x ≡ true → q x ≡ true) xs → filter p (filter q xs) ≡ filter p xs
filter_within p q [] all = refl
filter_within p q (x ∷ xs) all =
    by_test (q x)
    (λ here. rw here (by_test (p x) (λ own. rw own (ap (λ ys. x ∷ ys) (filter_within p q xs all.1))) (λ own. rw own (filter_within p q xs all.1))))
    (λ here. let own : p x ≡ false = by_test (p x) (λ own. never (all.0 own) here) (λ own. own) in rw here (rw own (filter_within p q xs all.1)))

pub filter_none : {A : Type 0} (p : A → Bool) (xs : List A) → Each (λ x. p x ≡ false) xs → filter p xs ≡ []
filter_none p [] all = refl
filter_none p (x ∷ xs) all = rw all.0 (filter_none p xs all.1)

-- the numbers from n on are at least what n is
pub numbered_above : {A : Type 0} (least n : ℕ) (xs : List A) → least ≤ n → Each (λ x. least ≤ x.0) (numbered_from n xs)
numbered_above least n [] low = tt
numbered_above least n (x ∷ xs) low = (low, numbered_above least (n + 1) xs (omega arith))

pub numbered_long : {A : Type 0} (n : ℕ) (xs : List A) → length (numbered_from n xs) ≡ length xs
numbered_long n [] = refl
numbered_long n (x ∷ xs) = ap (λ k. suc k) (numbered_long (n + 1) xs)

-- ---- places behind a front

pub take_past : {A : Type 0} (xs ys : List A) (n m : ℕ) → n ≡ length xs + m → take n (xs ++ ys) ≡ xs ++ take m ys
take_past [] ys n m is = ap (λ k. take k ys) (omega arith)
take_past (x ∷ xs) ys zero m is = absurd (omega arith)
take_past (x ∷ xs) ys (suc n) m is = ap (λ zs. x ∷ zs) (take_past xs ys n m (omega arith))

pub get_past : {A : Type 0} (xs ys : List A) (n m : ℕ) → n ≡ length xs + m → slice_get (xs ++ ys) n ≡ slice_get ys m
get_past [] ys n m is = ap (slice_get ys) (omega arith)
get_past (x ∷ xs) ys zero m is = absurd (omega arith)
get_past (x ∷ xs) ys (suc n) m is = get_past xs ys n m (omega arith)

pub take_map : {A B : Type 0} (f : A → B) (xs : List A) (n : ℕ) → take n (map f xs) ≡ map f (take n xs)
take_map f [] zero = refl
take_map f [] (suc n) = refl
take_map f (x ∷ xs) zero = refl
take_map f (x ∷ xs) (suc n) = ap (λ ys. f x ∷ ys) (take_map f xs n)

pub get_map : {A B : Type 0} (f : A → B) (xs : List A) (i : ℕ) (x : A) → slice_get xs i ≡ Some x → slice_get (map f xs) i ≡ Some (f x)
get_map f [] i x at = cc
get_map f (y ∷ xs) zero x at = let is : y ≡ x = cc in ap (λ z. Some (f z)) is
get_map f (y ∷ xs) (suc i) x at = get_map f xs i x at

-- the member of which this is the image
pub got_of_map : {A B : Type 0} (f : A → B) (xs : List A) (i : ℕ) (y : B) → slice_get (map f xs) i ≡ Some y → (x : A) × (slice_get xs i ≡ Some x) × (f x ≡ y)
got_of_map f [] i y at = cc
got_of_map f (x ∷ xs) zero y at = (x, refl, (let is : f x ≡ y = cc in is))
got_of_map f (x ∷ xs) (suc i) y at = got_of_map f xs i y at

pub each_got : {A : Type 0} (P : A → Type 0) (xs : List A) (i : ℕ) (x : A) → Each P xs → slice_get xs i ≡ Some x → P x
each_got P [] i x all at = cc
each_got P (y ∷ xs) zero x all at = let is : y ≡ x = cc in subst P is all.0
each_got P (y ∷ xs) (suc i) x all at = each_got P xs i x all.1 at
