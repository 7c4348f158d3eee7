-- Faces found by the routers behind them.
use Rattle.std.proofs.Common.{◌≡◌, ◌&&◌, ◌||◌, ℕ, ◌==◌, ◌<◌, ◌≤◌, Bool, true, false, cond, not, if◌then◌else◌, List, [], ◌∷◌, ◌++◌, Some, None, refl, ap, ap₂, arith, filter, map, nat_lt, subst, sym, ◌∙◌}
use Rattle.std.proofs.lemmas.Bool.Decides.{nat_tests}
use Rattle.std.specs.List.{AllByRecursion, list_any}
use Rattle.zt_keys.specs.Test.{by_test}
use Rattle.zt_region.specs.declared.region.Region.{Region}
use Rattle.zt_region.specs.declared.region.Zid.{Zid}
use Rattle.zt_region.specs.Region.{region_eq, zid_eq}
use Rattle.zt_model.specs.Lists.{first_where}
use Rattle.zt_model.specs.Rows.{Face}
use Rattle.zt_faces.specs.declared.by_router.Standing.{Standing}
use Rattle.zt_faces.specs.Rising.{HasNone, IsRising}
use Rattle.zt_faces.specs.Routers.{AreStandings, HasLess, HasMore, HasNoneOf, IsFirstOf, KeepsRouter, is_kept, is_of, standing_at, standing_of, stands}
use Rattle.zt_faces.proofs.Rising.{all-weaker, none-above, none-dropped}
use Rattle.zt_faces.proofs.Standings.{at-parts}

no-one : {A : Type 0} (p : A → Bool) (x : A) (xs : List A) → list_any p (x ∷ xs) ≡ false → (p x ≡ false) × (list_any p xs ≡ false)
no-one p x xs h = by_test (p x) (λ t. absurd-of (rw t at h)) (λ f. (f, rw f at h))
  where
    absurd-of : {P : Type 0} → true ≡ false → P
    absurd-of e = cc

clash : {P : Type 0} (b : Bool) → b ≡ true → b ≡ false → P
clash true t f = cc
clash false t f = cc

some-append : {A : Type 0} (p : A → Bool) (xs : List A) (y : A) → list_any p (xs ++ y ∷ []) ≡ cond (p y) true (list_any p xs)
some-append p [] y = by_test (p y) (λ t. rw t refl) (λ f. rw f refl)
some-append p (x ∷ xs) y = by_test (p x) (λ t. rw t (true-cond (p y))) (λ f. rw f (some-append p xs y))
  where
    true-cond : (b : Bool) → true ≡ cond b true true
    true-cond true = refl
    true-cond false = refl

both : (a b c : Bool) → a ≡ true → b ≡ true → c ≡ true → (a && (b && c)) ≡ true
both true true true s t u = refl
both false b c s t u = cc
both true false c s t u = cc
both true true false s t u = cc

third : (a b c : Bool) → c ≡ false → (a && (b && c)) ≡ false
third false b c h = refl
third true false c h = refl
third true true c h = h

regroup : (a b c : Bool) → (a && (b && c)) ≡ ((a && b) && c)
regroup true b c = refl
regroup false b c = refl

two : (a b : Bool) → (a && b) ≡ true → (a ≡ true) × (b ≡ true)
two true true h = (refl, refl)
two true false h = cc
two false b h = cc

module _ {K : Type 0} where
  -- ---- what keeps the faces' places
  pub pushed : (before after : List Standing) (fs : List (Face K)) (f : Face K) → AreStandings before fs → HasMore (standing_of f) before after → AreStandings after (fs ++ f ∷ [])
  pushed before after fs f are more = record {
    finds = λ q kept. more q kept ∙ ap₂ (λ b l. cond b true l) (at-parts (standing_of f) q) (are.finds q kept) ∙ sym (some-append (stands q) fs f);
  }

  pub changed : (n : ℕ) (change : Face K → Face K) → ((f : Face K) → (change f).number ≡ f.number) → ((f : Face K) → KeepsRouter f (change f))
      → (keys : List Standing) (fs : List (Face K)) → AreStandings keys fs → AreStandings keys (map (λ f. if n == f.number then change f else f) fs)
  changed n change number kept keys fs are = record { finds = λ q here. are.finds q here ∙ sym (alike q fs) }
    where
      one : (q : Standing) (f : Face K) (b : Bool) → stands q (if b then change f else f) ≡ stands q f
      one q f true = let r = (kept f).region in let z = (kept f).zid in let m = number f in λ i. region_eq (r i) q.region && (zid_eq (z i) q.zid && m i == q.number)
      one q f false = refl

      alike : (q : Standing) (xs : List (Face K)) → list_any (stands q) (map (λ f. if n == f.number then change f else f) xs) ≡ list_any (stands q) xs
      alike q [] = refl
      alike q (x ∷ xs) = ap₂ (λ b c. b || c) (one q x (n == x.number)) (alike q xs)

  other-number : (q : Standing) (f : Face K) → (f.number == q.number) ≡ false → stands q f ≡ false
  other-number q f h = third (region_eq f.region q.region) (zid_eq f.zid q.zid) (f.number == q.number) h

  none-stands : (n : ℕ) (q : Standing) (fs : List (Face K)) → n ≡ q.number → HasNone (λ f. f.number) n fs → list_any (stands q) fs ≡ false
  none-stands n q [] same h = refl
  none-stands n q (x ∷ xs) same h = let none = other-number q x (apart n q.number x.number same h.0) in rw none (none-stands n q xs same h.1)
    where
      apart : (a b c : ℕ) → a ≡ b → (a == c) ≡ false → (c == b) ≡ false
      apart a b c e h = grind (arith, nat_tests)

  number-of : (q : Standing) (f : Face K) → stands q f ≡ true → f.number ≡ q.number
  number-of q f h =
      let both = two (region_eq f.region q.region) (zid_eq f.zid q.zid && f.number == q.number) h in
      same f.number q.number (two (zid_eq f.zid q.zid) (f.number == q.number) both.1).1
    where
      same : (a b : ℕ) → (a == b) ≡ true → a ≡ b
      same a b h = grind (arith, nat_tests)

  found-number : (n : ℕ) (fs : List (Face K)) (f : Face K) → first_where (λ x. n == x.number) fs ≡ Some f → (n == f.number) ≡ true
  found-number n [] f h = cc
  found-number n (x ∷ xs) f h =
      by_test (n == x.number)
      (λ t. let is : x ≡ f = same-some x f (rw t at h) in subst (λ y. (n == y.number) ≡ true) is t)
      (λ t. found-number n xs f (rw t at h))
    where
      same-some : (a b : Face K) → Some a ≡ Some b → a ≡ b
      same-some a b e = cc

  -- the places without that of a face that goes
  less-one : (n : ℕ) (q : Standing) (fs : List (Face K)) (f : Face K) → IsRising (λ x. x.number) fs → first_where (λ x. n == x.number) fs ≡ Some f
      → cond (stands q f) false (list_any (stands q) fs) ≡ list_any (stands q) (filter (λ x. not (n == x.number)) fs)
  less-one n q [] f rising found = cc
  less-one n q (x ∷ xs) f rising found =
      by_test (n == x.number)
      (λ t. let is : x ≡ f = same-some x f (rw t at found) in
      subst (λ y. cond (stands q y) false (stands q x || list_any (stands q) xs) ≡ list_any (stands q) (filter (λ z. not (n == z.number)) (x ∷ xs))) is (rw t (first-goes (same n x.number t))))
      (λ t. let there = rw t at found in rw t (later (found-number n xs f there) (less-one n q xs f rising.1 there) t))
    where
      same : (a b : ℕ) → (a == b) ≡ true → a ≡ b
      same a b h = grind (arith, nat_tests)

      same-some : (a b : Face K) → Some a ≡ Some b → a ≡ b
      same-some a b e = cc

      first-goes : n ≡ x.number → cond (stands q x) false (stands q x || list_any (stands q) xs) ≡ list_any (stands q) (filter (λ z. not (n == z.number)) xs)
      first-goes is =
          let none : HasNone (λ z. z.number) n xs = subst (λ m. HasNone (λ z. z.number) m xs) (sym is) (none-above (λ z. z.number) x.number xs rising.0) in
          by_test (stands q x)
          (λ t. rw (t, none-dropped (λ z. z.number) n xs none) (sym (none-stands n q xs (is ∙ number-of q x t) none)))
          (λ t. rw (t, none-dropped (λ z. z.number) n xs none) refl)

      later : (n == f.number) ≡ true → cond (stands q f) false (list_any (stands q) xs) ≡ list_any (stands q) (filter (λ z. not (n == z.number)) xs) → (n == x.number) ≡ false
          → cond (stands q f) false (stands q x || list_any (stands q) xs) ≡ (stands q x || list_any (stands q) (filter (λ z. not (n == z.number)) xs))
      later is rest apart =
          by_test (stands q f)
          (λ t.
          let other = other-number q x (unlike n x.number f.number q.number apart is (number-of q f t)) in
          let none = rw t at rest in
          rw (t, other) none)
          (λ t. let kept = rw t at rest in rw t (ap (λ b. stands q x || b) kept))
        where
          unlike : (a b c d : ℕ) → (a == b) ≡ false → (a == c) ≡ true → c ≡ d → (b == d) ≡ false
          unlike a b c d h t e = grind (arith, nat_tests)

  pub removed : (n : ℕ) (before after : List Standing) (fs : List (Face K)) (f : Face K) → IsRising (λ x. x.number) fs → first_where (λ x. n == x.number) fs ≡ Some f
      → AreStandings before fs → HasLess (standing_of f) before after → AreStandings after (filter (λ x. not (n == x.number)) fs)
  removed n before after fs f rising found are less = record {
    finds = λ q kept. less q kept ∙ ap₂ (λ b l. cond b false l) (at-parts (standing_of f) q) (are.finds q kept) ∙ less-one n q fs f rising found;
  }

  none-below : (n m : ℕ) (fs : List (Face K)) → n ≤ m → AllByRecursion (λ f. m < f.number) fs → HasNone (λ f. f.number) n fs
  none-below n m fs le up = all-weaker (λ f. m < f.number) (λ f. (n == f.number) ≡ false) (λ f k. apart n m f.number le k) fs up
    where
      apart : (a b c : ℕ) → a ≤ b → b < c → (a == c) ≡ false
      apart a b c h k = grind (arith, nat_tests)

  -- ---- what is found by them
  stands-here : (region : Region) (zid : Zid) (f : Face K) → is_of region zid f ≡ true → stands (standing_at region zid f.number) f ≡ true
  stands-here region zid f h =
      let b = two (region_eq f.region region) (zid_eq f.zid zid) h in
      both (region_eq f.region region) (zid_eq f.zid zid) (f.number == f.number) b.0 b.1 (same f.number)
    where
      same : (n : ℕ) → (n == n) ≡ true
      same n = grind (arith, nat_tests)

  stands-off : (region : Region) (zid : Zid) (n : ℕ) (f : Face K) → is_of region zid f ≡ false → stands (standing_at region zid n) f ≡ false
  stands-off region zid n f h = regroup (region_eq f.region region) (zid_eq f.zid zid) (f.number == n) ∙ ap (λ b. b && f.number == n) h

  none-in : (region : Region) (zid : Zid) (fs : List (Face K)) → ((n : ℕ) → list_any (stands (standing_at region zid n)) fs ≡ false) → first_where (is_of region zid) fs ≡ None
  none-in region zid [] none = refl
  none-in region zid (x ∷ xs) none =
      by_test (is_of region zid x)
      (λ t. clash (stands (standing_at region zid x.number) x) (stands-here region zid x t) (no-one (stands (standing_at region zid x.number)) x xs (none x.number)).0)
      (λ f. rw f (none-in region zid xs (λ n. (no-one (stands (standing_at region zid n)) x xs (none n)).1)))

  first-in : (region : Region) (zid : Zid) (n : ℕ) (fs : List (Face K)) → IsRising (λ x. x.number) fs → list_any (stands (standing_at region zid n)) fs ≡ true
      → ((m : ℕ) → m < n → list_any (stands (standing_at region zid m)) fs ≡ false) → first_where (λ x. n == x.number) fs ≡ first_where (is_of region zid) fs
  first-in region zid n [] rising there first = cc
  first-in region zid n (x ∷ xs) rising there first =
      by_test (is_of region zid x)
      (λ t. rw (t, least t) refl)
      (λ f.
      let off = stands-off region zid n x f in
      let later : list_any (stands (standing_at region zid n)) xs ≡ true = rw off at there in
      rw (f, above later) (first-in region zid n xs rising.1 later (λ m below. (no-one (stands (standing_at region zid m)) x xs (first m below)).1)))
    where
      least : is_of region zid x ≡ true → (n == x.number) ≡ true
      least t =
          by_test (n == x.number)
          (λ same. same)
          (λ apart.
          let off = other-number (standing_at region zid n) x (flipped n x.number apart) in
          clash (list_any (stands (standing_at region zid n)) xs) (rw off at there)
          (none-stands n (standing_at region zid n) xs refl (none-below n x.number xs (not-above t) rising.0)))
        where
          flipped : (a b : ℕ) → (a == b) ≡ false → (b == a) ≡ false
          flipped a b h = grind (arith, nat_tests)

          not-above : is_of region zid x ≡ true → n ≤ x.number
          not-above t =
              by_test (nat_lt x.number n)
              (λ below. clash (stands (standing_at region zid x.number) x) (stands-here region zid x t) (no-one (stands (standing_at region zid x.number)) x xs (first x.number (below-is x.number n below))).0)
              (λ f. not-below x.number n f)
            where
              below-is : (a b : ℕ) → nat_lt a b ≡ true → a < b
              below-is a b h = grind (arith, nat_tests)

              not-below : (a b : ℕ) → nat_lt a b ≡ false → b ≤ a
              not-below a b h = grind (arith, nat_tests)

      above : list_any (stands (standing_at region zid n)) xs ≡ true → (n == x.number) ≡ false
      above later =
          by_test (n == x.number)
          (λ t. clash (list_any (stands (standing_at region zid n)) xs) later
          (none-stands n (standing_at region zid n) xs refl (none-below n x.number xs (up-to n x.number t) rising.0)))
          (λ f. f)
        where
          up-to : (a b : ℕ) → (a == b) ≡ true → a ≤ b
          up-to a b h = grind (arith, nat_tests)

  pub found-by : (region : Region) (zid : Zid) (n : ℕ) (keys : List Standing) (fs : List (Face K)) → is_kept region ≡ true → IsRising (λ x. x.number) fs → AreStandings keys fs → IsFirstOf region zid n keys
      → first_where (λ x. n == x.number) fs ≡ first_where (is_of region zid) fs
  found-by region zid n keys fs kept rising are at =
      first-in region zid n fs rising
      (sym (are.finds (standing_at region zid n) kept) ∙ at.there)
      (λ m below. sym (are.finds (standing_at region zid m) kept) ∙ at.first m below)

  pub none-by : (region : Region) (zid : Zid) (keys : List Standing) (fs : List (Face K)) → is_kept region ≡ true → AreStandings keys fs → HasNoneOf region zid keys → first_where (is_of region zid) fs ≡ None
  none-by region zid keys fs kept are none = none-in region zid fs (λ n. sym (are.finds (standing_at region zid n) kept) ∙ none n)
