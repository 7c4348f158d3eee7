-- The faces that hold an interest in a key without wildcards are found.
use Rattle.std.proofs.Common.{◌≡◌, ℕ, Bool, true, false, ◌&&◌, ◌||◌, nat_eq, List, [], ◌∷◌, Option, Some, None, is_some, unwrap_or, refl, sym, ap, ◌∙◌, subst, arith}
use Rattle.std.proofs.lemmas.Bool.{false≢true}
use Rattle.std.proofs.lemmas.Bool.Decides.{nat_tests}
use Rattle.std.specs.BTreeMap.{is_at}
use Rattle.std.specs.Cmp.{IsTotalOrder}
use Rattle.std.specs.List.{list_any}
use Rattle.std.specs.Map.{lookup}
use Rattle.std.specs.declared.cmp.Ordering.{Ordering}
use Rattle.std.specs.declared.cmp.Ordering.TheVariants.{Equal}
use Rattle.zt_keys.specs.declared.anchor.Anchor.{Anchor}
use Rattle.zt_keys.specs.declared.anchor.Anchor.TheVariants.{Whole}
use Rattle.zt_keys.specs.Key.{NumbersAgree}
use Rattle.zt_indexes.specs.Grouped.{is_grouped, keys_at}
use Rattle.zt_interest_index.specs.Held.{belongs-own}
use Rattle.zt_interest_index.specs.Holders.{IsIndexOf, belongs, by_test}
use Rattle.zt_interest_index.specs.Holdings.{asks_from, is_about}
use Rattle.zt_interest_index.specs.Index.{Interest, rows_at, rows_of}
use Rattle.zt_interest_index.specs.Wilds.{AreCovered, asks_in}
use Rattle.zt_interest_index.proofs.Changed.{equal-from}

-- ---- tests
or_left : (a b : Bool) → a ≡ true → (a || b) ≡ true
or_left true b h = refl
or_left false b h = cc

or_right : (a b : Bool) → b ≡ true → (a || b) ≡ true
or_right true b h = refl
or_right false b h = h

by_or : {G : Type 0} (a b : Bool) → (a || b) ≡ true → (a ≡ true → G) → (b ≡ true → G) → G
by_or true b h left right = left refl
by_or false b h left right = right h

and_first : (a b : Bool) → (a && b) ≡ true → a ≡ true
and_first true b h = refl
and_first false b h = cc

and_second : (a b : Bool) → (a && b) ≡ true → b ≡ true
and_second true b h = h
and_second false b h = cc

both : (a b : Bool) → a ≡ true → b ≡ true → (a && b) ≡ true
both true b h k = k
both false b h k = cc

as_one : (a b : Bool) → (a ≡ true → b ≡ true) → (b ≡ true → a ≡ true) → a ≡ b
as_one true true f g = refl
as_one true false f g = sym (f refl)
as_one false true f g = g refl
as_one false false f g = refl

-- those found one after another, where each is one of those sought, and these are found
pub all_found : (others a b c d sought : Bool) → (a ≡ true → sought ≡ true) → (b ≡ true → sought ≡ true) → (c ≡ true → sought ≡ true) → (d ≡ true → sought ≡ true)
    → (sought ≡ true → (((a || b) || c) || d) ≡ true) → ((((others || a) || b) || c) || d) ≡ (others || sought)
all_found true a b c d sought f g h k back = refl
all_found false a b c d sought f g h k back =
    as_one (((a || b) || c) || d) sought
    (λ t. by_or ((a || b) || c) d t (λ t. by_or (a || b) c t (λ t. by_or a b t f g) h) k)
    back

pub any_found : (others a sought : Bool) → (a ≡ true → sought ≡ true) → (sought ≡ true → a ≡ true) → (others || a) ≡ (others || sought)
any_found others a sought f g = ap (λ b. others || b) (as_one a sought f g)

-- ---- one of a list that passes
record Witness {A : Type 0} (p : A → Bool) (xs : List A) : Type 0 where
  one : A
  passes : p one ≡ true
  lifts : (q : A → Bool) → q one ≡ true → list_any q xs ≡ true

witness : {A : Type 0} (p : A → Bool) (xs : List A) → list_any p xs ≡ true → Witness p xs
witness p [] h = absurd (false≢true h)
witness p (x ∷ xs) h =
    by_test (p x)
    (λ t. record { one = x; passes = t; lifts = λ q u. or_left (q x) (list_any q xs) u })
    (λ t. let w = witness p xs (rw t at h) in record { one = w.one; passes = w.passes; lifts = λ q u. or_right (q x) (list_any q xs) (w.lifts q u) })

same-number : (m n : ℕ) → nat_eq m n ≡ true → m ≡ n
same-number m n h = grind (arith, nat_tests)

number-itself : (m : ℕ) → nat_eq m m ≡ true
number-itself m = grind (arith, nat_tests)

some-of : {A G : Type 0} (x : Option A) → is_some x ≡ true → ((a : A) → x ≡ Some a → G) → G
some-of None h go = absurd (false≢true h)
some-of (Some a) h go = go a refl

module _ {K : Type 0} (cmp : K → K → Ordering) (o : IsTotalOrder cmp) (matching : K → K → Bool) (e : K) (n : ℕ) (any : List (Interest K)) (entries : List (K × List (Interest K))) (held : List (Interest K)) (indexed : IsIndexOf cmp (any, entries) held) where
  -- ---- what is found is held
  held-at : (about : Option K) → list_any (asks_from matching e n) (rows_at cmp about (any, entries)) ≡ true → list_any (asks_from matching e n) held ≡ true
  held-at about h =
      let w = witness (λ row. belongs cmp about row && asks_from matching e n row) held (sym (indexed.at about (asks_from matching e n)) ∙ h) in
      w.lifts (asks_from matching e n) (and_second (belongs cmp about w.one) _ w.passes)

  pub held-any : list_any (asks_from matching e n) any ≡ true → list_any (asks_from matching e n) held ≡ true
  held-any h = held-at None h

  pub held-of : (k : K) → list_any (asks_from matching e n) (rows_of cmp k entries) ≡ true → list_any (asks_from matching e n) held ≡ true
  held-of k h = held-at (Some k) h

  pub held-keys : (keys : List K) → list_any (asks_in cmp matching e n entries) keys ≡ true → list_any (asks_from matching e n) held ≡ true
  held-keys keys h =
      let w = witness (asks_in cmp matching e n entries) keys h in
      held-of w.one (and_second (matching w.one e) _ w.passes)

  pub held-numbers : (keys : ℕ → List K) (numbers : List ℕ) → list_any (λ m. list_any (asks_in cmp matching e n entries) (keys m)) numbers ≡ true → list_any (asks_from matching e n) held ≡ true
  held-numbers keys numbers h =
      let w = witness (λ m. list_any (asks_in cmp matching e n entries) (keys m)) numbers h in
      held-keys (keys w.one) w.passes

  -- ---- what is held is found
  record Reached : Type 0 where
    about : Option K
    is : is_about matching about e ≡ true
    there : list_any (asks_from matching e n) (rows_at cmp about (any, entries)) ≡ true

  reached : list_any (asks_from matching e n) held ≡ true → Reached
  reached h =
      let w = witness (asks_from matching e n) held h in
      record {
        about = w.one.1;
        is = and_second _ (is_about matching w.one.1 e) w.passes;
        there =
            indexed.at w.one.1 (asks_from matching e n)
            ∙ w.lifts (λ row. belongs cmp w.one.1 row && asks_from matching e n row) (both (belongs cmp w.one.1 w.one) (asks_from matching e n w.one) (belongs-own cmp o w.one) w.passes);
      }

  -- where no interest is in a key
  in-any : (about : Option K) → entries ≡ [] → list_any (asks_from matching e n) (rows_at cmp about (any, entries)) ≡ true → list_any (asks_from matching e n) any ≡ true
  in-any None none h = h
  in-any (Some k) none h = absurd (false≢true (rw none at h))

  pub found-any : entries ≡ [] → list_any (asks_from matching e n) held ≡ true → list_any (asks_from matching e n) any ≡ true
  found-any none h = let r = reached h in in-any r.about none r.there

  module _ (anchored : Anchor → K → Option ℕ) (numbered : K → List ℕ) (one : (a b : K) → cmp a b ≡ Equal → a ≡ b)
      (plain : (a b : K) (p q : ℕ) → matching a b ≡ true → anchored Whole a ≡ Some p → anchored Whole b ≡ Some q → a ≡ b)
      (agree : NumbersAgree matching anchored numbered) (wilds : List (Option ℕ × List K)) (covered : AreCovered cmp anchored numbered wilds entries) (whole : is_some (anchored Whole e) ≡ true) where
    abbrev at-number : ℕ → Bool
    at-number m = list_any (asks_in cmp matching e n entries) (keys_at (Some m) wilds)

    abbrev are-found : Bool
    are-found = ((list_any (asks_from matching e n) any || list_any (asks_from matching e n) (rows_of cmp e entries)) || list_any (asks_in cmp matching e n entries) (keys_at None wilds)) || list_any at-number (numbered e)

    by-any : list_any (asks_from matching e n) any ≡ true → are-found ≡ true
    by-any h = or_left _ _ (or_left _ _ (or_left _ _ h))

    by-own : list_any (asks_from matching e n) (rows_of cmp e entries) ≡ true → are-found ≡ true
    by-own h = or_left _ _ (or_left _ _ (or_right (list_any (asks_from matching e n) any) _ h))

    -- a key of a group asks where it is one that asks
    in-group : (k : K) (keys : List K) → matching k e ≡ true → list_any (asks_from matching e n) (rows_of cmp k entries) ≡ true → list_any (is_at (cmp k)) keys ≡ true → list_any (asks_in cmp matching e n entries) keys ≡ true
    in-group k keys m h there =
        let w = witness (is_at (cmp k)) keys there in
        let same : k ≡ w.one = one k w.one (equal-from _ w.passes) in
        w.lifts (asks_in cmp matching e n entries) (subst (λ q. asks_in cmp matching e n entries q ≡ true) same (both (matching k e) _ m h))

    by-none : (k : K) → matching k e ≡ true → list_any (asks_from matching e n) (rows_of cmp k entries) ≡ true → is_grouped cmp None k wilds ≡ true → are-found ≡ true
    by-none k m h there = or_left _ _ (or_right (list_any (asks_from matching e n) any || list_any (asks_from matching e n) (rows_of cmp e entries)) _ (in-group k (keys_at None wilds) m h there))

    by-number : (k : K) → matching k e ≡ true → list_any (asks_from matching e n) (rows_of cmp k entries) ≡ true → list_any (λ p. is_grouped cmp (Some p) k wilds) (numbered k) ≡ true → are-found ≡ true
    by-number k m h there =
        let w = witness (λ p. is_grouped cmp (Some p) k wilds) (numbered k) there in
        some-of (anchored Whole e) whole
        (λ q is.
        let its : list_any (nat_eq w.one) (numbered e) ≡ true = agree k e w.one q m is (w.lifts (nat_eq w.one) (number-itself w.one)) in
        let v = witness (nat_eq w.one) (numbered e) its in
        let same : w.one ≡ v.one = same-number w.one v.one v.passes in
        or_right _ (list_any at-number (numbered e)) (v.lifts at-number (subst (λ p. at-number p ≡ true) same (in-group k (keys_at (Some w.one) wilds) m h w.passes))))

    by-plain : (k : K) → matching k e ≡ true → list_any (asks_from matching e n) (rows_of cmp k entries) ≡ true → is_some (anchored Whole k) ≡ true → are-found ≡ true
    by-plain k m h there =
        some-of (anchored Whole k) there (λ p kp.
        some-of (anchored Whole e) whole (λ q eq.
        let same : k ≡ e = plain k e p q m kp eq in
        by-own (subst (λ x. list_any (asks_from matching e n) (rows_of cmp x entries) ≡ true) same h)))

    -- a key in which there are interests is there
    is-there : (k : K) → list_any (asks_from matching e n) (rows_of cmp k entries) ≡ true → is_some (lookup (is_at (cmp k)) entries) ≡ true
    is-there k h = go (lookup (is_at (cmp k)) entries) h
      where
        go : (found : Option (List (Interest K))) → list_any (asks_from matching e n) (unwrap_or found []) ≡ true → is_some found ≡ true
        go None h = absurd (false≢true h)
        go (Some rows) h = refl

    by-key : (k : K) → matching k e ≡ true → list_any (asks_from matching e n) (rows_of cmp k entries) ≡ true → are-found ≡ true
    by-key k m h =
        by_or (is_some (anchored Whole k)) _ (covered.at k (is-there k h)) (by-plain k m h)
        (λ t. by_or (is_grouped cmp None k wilds) _ t (by-none k m h) (by-number k m h))

    by-about : (about : Option K) → is_about matching about e ≡ true → list_any (asks_from matching e n) (rows_at cmp about (any, entries)) ≡ true → are-found ≡ true
    by-about None m h = by-any h
    by-about (Some k) m h = by-key k m h

    pub found-held : list_any (asks_from matching e n) held ≡ true → are-found ≡ true
    found-held h = let r = reached h in by-about r.about r.is r.there

    pub found-all : (others : Bool)
        → ((((others || list_any (asks_from matching e n) any) || list_any (asks_from matching e n) (rows_of cmp e entries)) || list_any (asks_in cmp matching e n entries) (keys_at None wilds))
        || list_any (λ m. list_any (asks_in cmp matching e n entries) (keys_at (Some m) wilds)) (numbered e)) ≡ (others || list_any (asks_from matching e n) held)
    found-all others =
        all_found others _ _ _ _ _ held-any (held-of e) (held-keys (keys_at None wilds)) (held-numbers (λ m. keys_at (Some m) wilds) (numbered e)) found-held
