-- Facts of lists, tests of their members, and lists whose keys rise.
use Rattle.std.proofs.Common.{◌≡◌, ℕ, ◌+◌, ◌≤◌, ◌<◌, Bool, true, false, cond, ◌&&◌, ◌||◌, List, [], ◌∷◌, ◌++◌, map, filter, refl, sym, ap, ◌∙◌, ⊎_elim, arith, true≢false, le_trans}
use Rattle.std.specs.List.{list_all, list_any}
use Rattle.std.proofs.lemmas.Bool.{or_cases, or_left, or_right, and_from, and_parts}
use Rattle.zt_model.specs.Transcript.{Each}
use Rattle.zt_laws.specs.Sound.{RiseFrom, EachFrom}

-- ---- tests

-- cases of a test, with what each says of it
pub by_test : {G : Type 0} (b : Bool) → (b ≡ true → G) → (b ≡ false → G) → G
by_test true yes_ no_ = yes_ refl
by_test false yes_ no_ = no_ refl

-- a fact of what either case of a choice gives
pub of_cond : {A : Type 0} (P : A → Type 0) (b : Bool) (x y : A) → (b ≡ true → P x) → (b ≡ false → P y) → P (cond b x y)
of_cond P true x y at_true at_false = at_true refl
of_cond P false x y at_true at_false = at_false refl

pub never : {G : Type 0} {b : Bool} → b ≡ true → b ≡ false → G
never yes_ no_ = absurd (true≢false (sym yes_ ∙ no_))

-- a test that passes only where another does fails where that fails
pub fails_with : (a b : Bool) → (a ≡ true → b ≡ true) → b ≡ false → a ≡ false
fails_with a b h fails = by_test a (λ passes. never (h passes) fails) (λ e. e)

-- two tests that pass together answer the same
pub same_tests : (a b : Bool) → (a ≡ true → b ≡ true) → (b ≡ true → a ≡ true) → a ≡ b
same_tests a b f g = by_test b (λ e. g e ∙ sym e) (λ e. fails_with a b f e ∙ sym e)

-- ---- a fact of each member

pub each_weaker : {A : Type 0} (P Q : A → Type 0) → ((x : A) → P x → Q x) → (xs : List A) → Each P xs → Each Q xs
each_weaker P Q h [] all = tt
each_weaker P Q h (x ∷ xs) all = (h x all.0, each_weaker P Q h xs all.1)

pub each_both : {A : Type 0} (P Q R : A → Type 0) → ((x : A) → P x → Q x → R x) → (xs : List A) → Each P xs → Each Q xs → Each R xs
each_both P Q R h [] ps qs = tt
each_both P Q R h (x ∷ xs) ps qs = (h x ps.0 qs.0, each_both P Q R h xs ps.1 qs.1)

pub each_always : {A : Type 0} (P : A → Type 0) → ((x : A) → P x) → (xs : List A) → Each P xs
each_always P h [] = tt
each_always P h (x ∷ xs) = (h x, each_always P h xs)

pub each_map : {A B : Type 0} (P : B → Type 0) (f : A → B) (xs : List A) → Each (λ x. P (f x)) xs → Each P (map f xs)
each_map P f [] all = tt
each_map P f (x ∷ xs) all = (all.0, each_map P f xs all.1)

pub each_append : {A : Type 0} (P : A → Type 0) (xs ys : List A) → Each P xs → Each P ys → Each P (xs ++ ys)
each_append P [] ys all more = more
each_append P (x ∷ xs) ys all more = (all.0, each_append P xs ys all.1 more)

pub each_front : {A : Type 0} (P : A → Type 0) (xs ys : List A) → Each P (xs ++ ys) → Each P xs
each_front P [] ys all = tt
each_front P (x ∷ xs) ys all = (all.0, each_front P xs ys all.1)

pub each_filter : {A : Type 0} (P : A → Type 0) (p : A → Bool) (xs : List A) → Each P xs → Each P (filter p xs)
each_filter P p [] all = tt
each_filter P p (x ∷ xs) all = of_cond (Each P) (p x) (x ∷ filter p xs) (filter p xs) (λ _. (all.0, each_filter P p xs all.1)) (λ _. each_filter P p xs all.1)

pub all_of_each : {A : Type 0} (p : A → Bool) (xs : List A) → Each (λ x. p x ≡ true) xs → list_all p xs ≡ true
all_of_each p [] all = refl
all_of_each p (x ∷ xs) all = and_from (p x) (list_all p xs) all.0 (all_of_each p xs all.1)

-- a filter keeps what passes
pub each_passes : {A : Type 0} (p : A → Bool) (xs : List A) → Each (λ x. p x ≡ true) (filter p xs)
each_passes p [] = tt
each_passes p (x ∷ xs) = by_test (p x) (λ here. rw here (here, each_passes p xs)) (λ here. rw here (each_passes p xs))

-- what two functions agree on at each member, they make alike
pub map_alike : {A B : Type 0} (f g : A → B) (xs : List A) → Each (λ x. f x ≡ g x) xs → map f xs ≡ map g xs
map_alike f g [] all = refl
map_alike f g (x ∷ xs) all = let first : f x ≡ g x = all.0 in let rest = map_alike f g xs all.1 in cc

pub map_same : {A : Type 0} (f : A → A) (xs : List A) → Each (λ x. f x ≡ x) xs → map f xs ≡ xs
map_same f [] all = refl
map_same f (x ∷ xs) all = let first : f x ≡ x = all.0 in let rest = map_same f xs all.1 in cc

pub map-map : {A B C : Type 0} (g : B → C) (f : A → B) (xs : List A) → map g (map f xs) ≡ map (λ x. g (f x)) xs
map-map g f [] = refl
map-map g f (x ∷ xs) = ap (λ ys. g (f x) ∷ ys) (map-map g f xs)

pub map-append : {A B : Type 0} (f : A → B) (xs ys : List A) → map f (xs ++ ys) ≡ map f xs ++ map f ys
map-append f [] ys = refl
map-append f (x ∷ xs) ys = ap (λ zs. f x ∷ zs) (map-append f xs ys)

-- ---- whether some member passes a test

pub any_weaker : {A : Type 0} (p q : A → Bool) → ((x : A) → p x ≡ true → q x ≡ true) → (xs : List A) → list_any p xs ≡ true → list_any q xs ≡ true
any_weaker p q h [] some = some
any_weaker p q h (x ∷ xs) some =
    ⊎_elim (λ here. or_left (q x) (list_any q xs) (h x here)) (λ there. or_right (q x) (list_any q xs) (any_weaker p q h xs there)) (or_cases (p x) (list_any p xs) some)

pub any_alike : {A : Type 0} (p q : A → Bool) → ((x : A) → p x ≡ q x) → (xs : List A) → list_any p xs ≡ list_any q xs
any_alike p q h [] = refl
any_alike p q h (x ∷ xs) = let first = h x in let rest = any_alike p q h xs in cc

-- a member that passes, with what holds of each
pub any_member : {A G : Type 0} (P : A → Type 0) (p : A → Bool) (xs : List A) → Each P xs → list_any p xs ≡ true → ((x : A) → P x → p x ≡ true → G) → G
any_member P p [] all some at = never some refl
any_member P p (x ∷ xs) all some at = ⊎_elim (λ here. at x all.0 here) (λ there. any_member P p xs all.1 there at) (or_cases (p x) (list_any p xs) some)

-- none passes
pub any_none : {A : Type 0} (p : A → Bool) (xs : List A) → Each (λ x. p x ≡ false) xs → list_any p xs ≡ false
any_none p [] all = refl
any_none p (x ∷ xs) all = let first : p x ≡ false = all.0 in let rest = any_none p xs all.1 in cc

pub each_fails : {A : Type 0} (p : A → Bool) (xs : List A) → list_any p xs ≡ false → Each (λ x. p x ≡ false) xs
each_fails p [] none_ = tt
each_fails p (x ∷ xs) none_ = by_test (p x) (λ here. never (or_left (p x) (list_any p xs) here) none_) (λ here. (here, each_fails p xs (rw here at none_)))

pub any-append : {A : Type 0} (p : A → Bool) (xs ys : List A) → list_any p (xs ++ ys) ≡ (list_any p xs || list_any p ys)
any-append p [] ys = refl
any-append p (x ∷ xs) ys = by_test (p x) (λ here. rw here refl) (λ here. rw here (any-append p xs ys))

pub any-map : {A B : Type 0} (p : B → Bool) (f : A → B) (xs : List A) → list_any p (map f xs) ≡ list_any (λ x. p (f x)) xs
any-map p f [] = refl
any-map p f (x ∷ xs) = ap (λ b. p (f x) || b) (any-map p f xs)

pub any-filter : {A : Type 0} (p q : A → Bool) (xs : List A) → list_any p (filter q xs) ≡ list_any (λ x. q x && p x) xs
any-filter p q [] = refl
any-filter p q (x ∷ xs) = by_test (q x) (λ here. rw here (ap (λ b. p x || b) (any-filter p q xs))) (λ here. rw here (any-filter p q xs))

pub any_from_filter : {A : Type 0} (p q : A → Bool) (xs : List A) → list_any p (filter q xs) ≡ true → list_any p xs ≡ true
any_from_filter p q xs some = any_weaker (λ x. q x && p x) p (λ x h. (and_parts (q x) (p x) h).1) xs (sym (any-filter p q xs) ∙ some)

-- a filter that all pass keeps the list
pub filter_all : {A : Type 0} (p : A → Bool) (xs : List A) → Each (λ x. p x ≡ true) xs → filter p xs ≡ xs
filter_all p [] all = refl
filter_all p (x ∷ xs) all = let here : p x ≡ true = all.0 in rw here (ap (λ ys. x ∷ ys) (filter_all p xs all.1))

pub filter_alike : {A : Type 0} (p q : A → Bool) (xs : List A) → Each (λ x. p x ≡ q x) xs → filter p xs ≡ filter q xs
filter_alike p q [] all = refl
filter_alike p q (x ∷ xs) all = let here : p x ≡ q x = all.0 in let rest = filter_alike p q xs all.1 in cc

-- ---- keys that rise

pub rise_lower : {A : Type 0} (key : A → ℕ) (low high : ℕ) (xs : List A) → low ≤ high → RiseFrom key high xs → RiseFrom key low xs
rise_lower key low high [] h rises = tt
rise_lower key low high (x ∷ xs) h rises = (le_trans h rises.0, rises.1)

pub rise_filter : {A : Type 0} (key : A → ℕ) (low : ℕ) (p : A → Bool) (xs : List A) → RiseFrom key low xs → RiseFrom key low (filter p xs)
rise_filter key low p [] rises = tt
rise_filter key low p (x ∷ xs) rises =
    let rest = rise_filter key (key x + 1) p xs rises.1 in
    let first : low ≤ key x = rises.0 in
    of_cond (RiseFrom key low) (p x) (x ∷ filter p xs) (filter p xs) (λ _. (first, rest)) (λ _. rise_lower key low (key x + 1) (filter p xs) (omega arith) rest)

pub rise_map : {A : Type 0} (key : A → ℕ) (low : ℕ) (f : A → A) (xs : List A) → ((x : A) → key (f x) ≡ key x) → RiseFrom key low xs → RiseFrom key low (map f xs)
rise_map key low f [] h rises = tt
rise_map key low f (x ∷ xs) h rises = rw (h x) (rises.0, rise_map key (key x + 1) f xs h rises.1)

pub rise_above : {A : Type 0} (key : A → ℕ) (low : ℕ) (xs : List A) → RiseFrom key low xs → Each (λ x. low ≤ key x) xs
rise_above key low [] rises = tt
rise_above key low (x ∷ xs) rises =
    let first : low ≤ key x = rises.0 in
    (first, each_weaker (λ y. key x + 1 ≤ key y) (λ y. low ≤ key y) (λ y h. omega arith) xs (rise_above key (key x + 1) xs rises.1))

-- one more, with a key above all of them
pub rise_push : {A : Type 0} (key : A → ℕ) (low : ℕ) (xs : List A) (y : A) → low ≤ key y → Each (λ x. key x < key y) xs → RiseFrom key low xs → RiseFrom key low (xs ++ y ∷ [])
rise_push key low [] y h below rises = (h, tt)
rise_push key low (x ∷ xs) y h below rises =
    let here : key x < key y = below.0 in
    (rises.0, rise_push key (key x + 1) xs y (omega arith) below.1 rises.1)

-- ---- a fact of each member and its number

pub each_from_weaker : {A : Type 0} (P Q : ℕ → A → Type 0) → ((n : ℕ) (x : A) → P n x → Q n x) → (i : ℕ) (xs : List A) → EachFrom P i xs → EachFrom Q i xs
each_from_weaker P Q h i [] all = tt
each_from_weaker P Q h i (x ∷ xs) all = (h i x all.0, each_from_weaker P Q h (i + 1) xs all.1)
