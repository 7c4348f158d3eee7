-- The numbers of a key expression's chunks, by which those with wildcards are found.
--     numbered key        the numbers of its chunks without wildcards, each behind the one before it that of the two, if they stand side by side
--     numbers_agree       a number of a key is one of each key without wildcards that it matches
use Rattle.std.specs.Prelude.{◌≡◌, ℕ, ◌+◌, ◌*◌, ◌%◌, ◌^◌, Bool, true, false, ◌||◌, nat_eq, List, [], ◌∷◌, ◌++◌, map, Option, Some, None, refl}
use Rattle.std.specs.List.{list_any}
use Rattle.std.proofs.Common.{sym, ◌∙◌, ◌⊎◌, inl, inr}
use Rattle.std.proofs.lemmas.Bool.{false≢true}
use Rattle.std.proofs.lemmas.List.Folds.{list_any-append}
use Rattle.std.specs.Cmp.Lexicographic.{same_text}
use Rattle.zt_keys.specs.declared.anchor.Anchor.TheVariants.{Whole}
use Rattle.zt_keys.specs.Test.{by_test}
use Rattle.zt_keys.specs.Chunks.{chunks, is_star}
use Rattle.zt_keys.specs.Expression.{Expression}
use Rattle.zt_keys.specs.Parts.{Part, many, one, marked, plain, part_of, is_marked, meets}
use Rattle.zt_keys.specs.Matching.{matching, parts}
use Rattle.zt_keys.specs.Meet.{Meet, ends, left_none, left_takes, right_none, right_takes, both, match-to}
use Rattle.zt_keys.specs.Anchors.{anchored, hash_of, number_of}
use Rattle.zt_keys.specs.AnchorLaws.{any-chunks, starless, starless-double, starless-single, Starless, or-false, is_star-slash}

-- the number of a chunk, or `None` for `*` and `**`
abbrev pub part_number : Part → Option ℕ
part_number many = None
part_number one = None
part_number (marked chunk) = Some (hash_of chunk)
part_number (plain chunk) = Some (hash_of chunk)

-- the number of two chunks that stand side by side
unfoldable pub pair_number : ℕ → ℕ → ℕ
pair_number first second = (first * 11400714819323198485 % 2 ^ 64 + second) % 2 ^ 64

-- what a chunk adds behind the one before it: its number, and that of the two
abbrev pub next_numbers : Option ℕ → Option ℕ → List ℕ
next_numbers before None = []
next_numbers None (Some n) = n ∷ []
next_numbers (Some m) (Some n) = n ∷ pair_number m n ∷ []

abbrev pub numbers_from : Option ℕ → List Part → List ℕ
numbers_from before [] = []
numbers_from before (x ∷ xs) = next_numbers before (part_number x) ++ numbers_from (part_number x) xs

-- the numbers of a key expression
unfoldable pub numbered : Expression → List ℕ
numbered key = numbers_from None (parts key.bytes)

-- the number is one of these
abbrev pub is_number : ℕ → List ℕ → Bool
is_number n numbers = list_any (nat_eq n) numbers

-- none of these is a wildcard
abbrev pub are_named : List Part → Bool
are_named [] = true
are_named (many ∷ ys) = false
are_named (one ∷ ys) = false
are_named (marked chunk ∷ ys) = are_named ys
are_named (plain chunk ∷ ys) = are_named ys

pub tail-named : (y : Part) (ys : List Part) → are_named (y ∷ ys) ≡ true → are_named ys ≡ true
tail-named many ys h = absurd (false≢true h)
tail-named one ys h = absurd (false≢true h)
tail-named (marked c) ys h = h
tail-named (plain c) ys h = h

-- nothing is known of the chunk before the first of one list, or it is that before the first of the other
abbrev Follows : Option ℕ → Option ℕ → Type 0
Follows a b = (a ≡ None) ⊎ (a ≡ b)

or-right : (a b : Bool) → b ≡ true → (a || b) ≡ true
or-right true b h = refl
or-right false b h = h

or-left : (a b : Bool) → a ≡ true → (a || b) ≡ true
or-left true b h = refl
or-left false b h = cc

in-front : (m : ℕ) (xs ys : List ℕ) → is_number m xs ≡ true → is_number m (xs ++ ys) ≡ true
in-front m xs ys h = list_any-append (nat_eq m) xs ys ∙ or-left (is_number m xs) (is_number m ys) h

behind : (m : ℕ) (xs ys : List ℕ) → is_number m ys ≡ true → is_number m (xs ++ ys) ≡ true
behind m xs ys h = list_any-append (nat_eq m) xs ys ∙ or-right (is_number m xs) (is_number m ys) h

next-agree : (m : ℕ) (bx by n : Option ℕ) → Follows bx by → is_number m (next_numbers bx n) ≡ true → is_number m (next_numbers by n) ≡ true
next-agree m bx by None f h = h
next-agree m None None (Some n) f h = h
next-agree m None (Some b) (Some n) f h = in-front m (n ∷ []) (pair_number b n ∷ []) h
next-agree m (Some a) by (Some n) (inl e) h = cc
next-agree m (Some a) by (Some n) (inr e) h = rw (← e) h

-- the same chunk comes next in both
same-step : (m : ℕ) (bx by n : Option ℕ) (us vs : List ℕ) → Follows bx by → (is_number m us ≡ true → is_number m vs ≡ true)
    → is_number m (next_numbers bx n ++ us) ≡ true → is_number m (next_numbers by n ++ vs) ≡ true
same-step m bx by n us vs f later h =
    by_test (is_number m (next_numbers bx n))
    (λ e. in-front m (next_numbers by n) vs (next-agree m bx by n f e))
    (λ e. behind m (next_numbers by n) vs (later (rw e at (sym (list_any-append (nat_eq m) (next_numbers bx n) us) ∙ h))))

both-step : (m : ℕ) (bx by : Option ℕ) (x y : Part) (xs ys : List Part) → Follows bx by → meets x y ≡ true → are_named (y ∷ ys) ≡ true
    → ((a b : Option ℕ) → Follows a b → is_number m (numbers_from a xs) ≡ true → is_number m (numbers_from b ys) ≡ true)
    → is_number m (numbers_from bx (x ∷ xs)) ≡ true → is_number m (numbers_from by (y ∷ ys)) ≡ true
both-step m bx by many y xs ys f g n later h = absurd (false≢true g)
both-step m bx by one y xs ys f g n later h = behind m (next_numbers by (part_number y)) (numbers_from (part_number y) ys) (later None (part_number y) (inl refl) h)
both-step m bx by (marked c) many xs ys f g n later h = absurd (false≢true g)
both-step m bx by (marked c) one xs ys f g n later h = absurd (false≢true g)
both-step m bx by (marked c) (marked d) xs ys f g n later h =
    let e : c ≡ d = same_text c d (sym g) in
    rw (← e) (same-step m bx by (Some (hash_of c)) (numbers_from (Some (hash_of c)) xs) (numbers_from (Some (hash_of c)) ys) f (later (Some (hash_of c)) (Some (hash_of c)) (inr refl)) h)
both-step m bx by (marked c) (plain d) xs ys f g n later h = absurd (false≢true g)
both-step m bx by (plain c) many xs ys f g n later h = absurd (false≢true g)
both-step m bx by (plain c) one xs ys f g n later h = absurd (false≢true n)
both-step m bx by (plain c) (marked d) xs ys f g n later h = absurd (false≢true g)
both-step m bx by (plain c) (plain d) xs ys f g n later h =
    let e : c ≡ d = same_text c d (sym g) in
    rw (← e) (same-step m bx by (Some (hash_of c)) (numbers_from (Some (hash_of c)) xs) (numbers_from (Some (hash_of c)) ys) f (later (Some (hash_of c)) (Some (hash_of c)) (inr refl)) h)

meet-numbers : {xs ys : List Part} → (m : ℕ) (bx by : Option ℕ) → Follows bx by → Meet xs ys → are_named ys ≡ true → is_number m (numbers_from bx xs) ≡ true → is_number m (numbers_from by ys) ≡ true
meet-numbers m bx by f ends n h = h
meet-numbers m bx by f (left_none t) n h = meet-numbers m None by (inl refl) t n h
meet-numbers m bx by f (left_takes {ys = ys} {y = y} g t) n h =
    behind m (next_numbers by (part_number y)) (numbers_from (part_number y) ys) (meet-numbers m None (part_number y) (inl refl) t (tail-named y ys n) h)
meet-numbers m bx by f (right_none t) n h = absurd (false≢true n)
meet-numbers m bx by f (right_takes g t) n h = absurd (false≢true n)
meet-numbers m bx by f (both {xs = xs} {ys = ys} {x = x} {y = y} g t) n h =
    both-step m bx by x y xs ys f g n (λ a b k i. meet-numbers m a b k t (tail-named y ys n) i) h

-- chunks without a `*` are named
named-cons : (c : List ℕ) (ys : List Part) → list_any is_star c ≡ false → are_named ys ≡ true → are_named (part_of c ∷ ys) ≡ true
unfolding part_of
named-cons c ys s h = rw (starless-double c s, starless-single c s) (by_test (is_marked c) (λ e. rw e h) (λ e. rw e h))

named-parts : (es : List (List ℕ)) → Starless es → are_named (map part_of es) ≡ true
named-parts [] s = refl
named-parts (e ∷ es) s = let u = or-false (list_any is_star e) (list_any (list_any is_star) es) s in named-cons e (map part_of es) u.0 (named-parts es u.1)

pub named-text : (text : List ℕ) (n : ℕ) → number_of text ≡ Some n → are_named (parts text) ≡ true
named-text text n e = named-parts (chunks text) (any-chunks is_star is_star-slash text ∙ starless text n e)

-- each number of a key expression is one of each without wildcards that it matches
pub numbers_agree : (a b : Expression) (m n : ℕ) → matching a b ≡ true → anchored Whole b ≡ Some n → is_number m (numbered a) ≡ true → is_number m (numbered b) ≡ true
unfolding matching anchored numbered
numbers_agree a b m n h e k = meet-numbers m None None (inl refl) (match-to (parts a.bytes) (parts b.bytes) h) (named-text b.bytes n e) k
