-- What faces were told, where one of them changes or goes, or one comes.
use Rattle.std.proofs.Common.{◌≡◌, ℕ, ◌==◌, Bool, true, false, not, if◌then◌else◌, List, [], ◌∷◌, ◌++◌, None, ap, arith, filter, map, refl, subst, sym, ◌∙◌}
use Rattle.std.proofs.lemmas.Bool.{eqb-true}
use Rattle.std.proofs.lemmas.Bool.Decides.{nat_tests}
use Rattle.std.specs.List.{AllByRecursion, list_any}
use Rattle.std.specs.declared.cmp.Ordering.{Ordering}
use Rattle.zt_keys.specs.Test.{by_test}
use Rattle.zt_model.specs.Parts.{told_id}
use Rattle.zt_model.specs.Rows.{Face}
use Rattle.zt_token_index.specs.Retold.{told_id_at}
use Rattle.zt_token_index.proofs.ToldAt.{at-here, at-there}

turned : (n m : ℕ) → (n == m) ≡ false → (m == n) ≡ false
turned n m h = grind (arith, nat_tests)

other : (n m k : ℕ) → (n == m) ≡ false → (n == k) ≡ true → (m == k) ≡ false
other n m k apart t = ap (λ j. m == j) (sym (eqb-true n k t)) ∙ turned n m apart

module _ {K : Type 0} where
  abbrev AreOne : Face K → List (Face K) → Type 0
  AreOne f fs = AllByRecursion (λ x. (f.number == x.number) ≡ true → x ≡ f) fs

  -- a face with this number is changed
  abbrev changed : ℕ → (Face K → Face K) → Face K → Face K
  changed n change x = if n == x.number then change x else x

  -- ---- what holds of all faces
  module _ (P : Face K → Type 0) where
    pub of-one : (f : Face K) (fs : List (Face K)) → list_any (λ x. f.number == x.number) fs ≡ true → AreOne f fs → AllByRecursion P fs → P f
    of-one f [] found only all = cc
    of-one f (x ∷ xs) found only all = by_test (f.number == x.number) (λ t. subst P (only.0 t) all.0) (λ t. of-one f xs (rw t at found) only.1 all.1)

    pub all-changed : (f : Face K) (change : Face K → Face K) → P (change f) → (fs : List (Face K)) → AreOne f fs → AllByRecursion P fs → AllByRecursion P (map (changed f.number change) fs)
    all-changed f change here [] only all = tt
    all-changed f change here (x ∷ xs) only all = (
      by_test (f.number == x.number)
          (λ t. subst (λ b. P (if b then change x else x)) (sym t) (subst (λ (y : Face K). P (change y)) (sym (only.0 t)) here))
          (λ t. subst (λ b. P (if b then change x else x)) (sym t) all.0),
      all-changed f change here xs only.1 all.1,
    )

    pub all-kept : (n : ℕ) (change : Face K → Face K) → ((x : Face K) → P x → P (change x)) → (fs : List (Face K)) → AllByRecursion P fs → AllByRecursion P (map (changed n change) fs)
    all-kept n change still [] all = tt
    all-kept n change still (x ∷ xs) all = (by_number (n == x.number), all-kept n change still xs all.1)
      where
        by_number : (b : Bool) → P (if b then change x else x)
        by_number true = still x all.0
        by_number false = all.0

    pub all-less : (n : ℕ) (fs : List (Face K)) → AllByRecursion P fs → AllByRecursion P (filter (λ x. not (n == x.number)) fs)
    all-less n [] all = tt
    all-less n (x ∷ xs) all = by_test (n == x.number) (λ t. rw t (all-less n xs all.1)) (λ t. rw t (all.0, all-less n xs all.1))

    pub all-more : (fs : List (Face K)) (f : Face K) → AllByRecursion P fs → P f → AllByRecursion P (fs ++ f ∷ [])
    all-more [] f all here = (here, tt)
    all-more (x ∷ xs) f all here = (all.0, all-more xs f all.1 here)

  module _ (cmp : K → K → Ordering) (e : K) where
    -- ---- the id under which a face was told an expression
    pub at-own : (f : Face K) (fs : List (Face K)) → list_any (λ x. f.number == x.number) fs ≡ true → AreOne f fs → told_id_at cmp e fs f.number ≡ told_id cmp e f.told
    at-own f [] found only = cc
    at-own f (x ∷ xs) found only = by_test (f.number == x.number)
        (λ t. at-here cmp e f.number x xs t ∙ ap (λ (y : Face K). told_id cmp e y.told) (only.0 t))
        (λ t. at-there cmp e f.number x xs t ∙ at-own f xs (rw t at found) only.1)

    -- what a face was told changes
    module _ (f : Face K) (change : Face K → Face K) (number : (x : Face K) → (change x).number ≡ x.number) where
      changed-own : (fs : List (Face K)) → list_any (λ x. f.number == x.number) fs ≡ true → AreOne f fs → told_id_at cmp e (map (changed f.number change) fs) f.number ≡ told_id cmp e (change f).told
      changed-own [] found only = cc
      changed-own (x ∷ xs) found only =
          let others = map (changed f.number change) xs in
          by_test (f.number == x.number)
          (λ t.
          ap (λ b. told_id_at cmp e ((if b then change x else x) ∷ others) f.number) t
          ∙ at-here cmp e f.number (change x) others (ap (λ n. f.number == n) (number x) ∙ t) ∙ ap (λ (y : Face K). told_id cmp e (change y).told) (only.0 t))
          (λ t.
          ap (λ b. told_id_at cmp e ((if b then change x else x) ∷ others) f.number) t
          ∙ at-there cmp e f.number x others t ∙ changed-own xs (rw t at found) only.1)

      changed-other : (m : ℕ) → (f.number == m) ≡ false → (fs : List (Face K)) → told_id_at cmp e (map (changed f.number change) fs) m ≡ told_id_at cmp e fs m
      changed-other m apart [] = refl
      changed-other m apart (x ∷ xs) =
          let others = map (changed f.number change) xs in
          let rest = changed-other m apart xs in
          by_test (f.number == x.number)
          (λ t.
          let miss = other f.number m x.number apart t in
          ap (λ b. told_id_at cmp e ((if b then change x else x) ∷ others) m) t
          ∙ at-there cmp e m (change x) others (ap (λ n. m == n) (number x) ∙ miss) ∙ rest ∙ sym (at-there cmp e m x xs miss))
          (λ t.
          ap (λ b. told_id_at cmp e ((if b then change x else x) ∷ others) m) t
          ∙ by_test (m == x.number)
          (λ u. at-here cmp e m x others u ∙ sym (at-here cmp e m x xs u))
          (λ u. at-there cmp e m x others u ∙ rest ∙ sym (at-there cmp e m x xs u)))

      pub at-changed : (fs : List (Face K)) → list_any (λ x. f.number == x.number) fs ≡ true → AreOne f fs
          → (m : ℕ) → (if f.number == m then told_id cmp e (change f).told else told_id_at cmp e fs m) ≡ told_id_at cmp e (map (changed f.number change) fs) m
      at-changed fs found only m = by_test (f.number == m)
          (λ t. rw t (subst (λ k. told_id cmp e (change f).told ≡ told_id_at cmp e (map (changed f.number change) fs) k) (eqb-true f.number m t) (sym (changed-own fs found only))))
          (λ t. rw t (sym (changed-other m t fs)))

    -- a change that keeps what a face was told
    pub at-kept : (n : ℕ) (change : Face K → Face K) → ((x : Face K) → (change x).number ≡ x.number) → ((x : Face K) → (change x).told ≡ x.told) → (m : ℕ) (fs : List (Face K))
        → told_id_at cmp e fs m ≡ told_id_at cmp e (map (changed n change) fs) m
    at-kept n change number told m [] = refl
    at-kept n change number told m (x ∷ xs) =
        let others = map (changed n change) xs in
        let there : (m == (changed n change x).number) ≡ (m == x.number) = ap (λ k. m == k) (numbered (n == x.number)) in
        by_test (m == x.number)
        (λ t. at-here cmp e m x xs t ∙ sym (at-here cmp e m (changed n change x) others (there ∙ t) ∙ ap (told_id cmp e) (same-told (n == x.number))))
        (λ t. at-there cmp e m x xs t ∙ at-kept n change number told m xs ∙ sym (at-there cmp e m (changed n change x) others (there ∙ t)))
      where
        numbered : (b : Bool) → (if b then change x else x).number ≡ x.number
        numbered true = number x
        numbered false = refl

        same-told : (b : Bool) → (if b then change x else x).told ≡ x.told
        same-told true = told x
        same-told false = refl

    -- a face goes
    less-own : (n : ℕ) (fs : List (Face K)) → told_id_at cmp e (filter (λ x. not (n == x.number)) fs) n ≡ None
    less-own n [] = refl
    less-own n (x ∷ xs) =
        let others = filter (λ y. not (n == y.number)) xs in
        by_test (n == x.number)
        (λ t. ap (λ b. told_id_at cmp e (if not b then x ∷ others else others) n) t ∙ less-own n xs)
        (λ t. ap (λ b. told_id_at cmp e (if not b then x ∷ others else others) n) t ∙ at-there cmp e n x others t ∙ less-own n xs)

    less-other : (n m : ℕ) → (n == m) ≡ false → (fs : List (Face K)) → told_id_at cmp e (filter (λ x. not (n == x.number)) fs) m ≡ told_id_at cmp e fs m
    less-other n m apart [] = refl
    less-other n m apart (x ∷ xs) =
        let others = filter (λ y. not (n == y.number)) xs in
        let rest = less-other n m apart xs in
        by_test (n == x.number)
        (λ t. ap (λ b. told_id_at cmp e (if not b then x ∷ others else others) m) t ∙ rest ∙ sym (at-there cmp e m x xs (other n m x.number apart t)))
        (λ t.
        ap (λ b. told_id_at cmp e (if not b then x ∷ others else others) m) t
        ∙ by_test (m == x.number)
        (λ u. at-here cmp e m x others u ∙ sym (at-here cmp e m x xs u))
        (λ u. at-there cmp e m x others u ∙ rest ∙ sym (at-there cmp e m x xs u)))

    pub at-less : (n : ℕ) (fs : List (Face K)) (m : ℕ) → (if n == m then told_id cmp e [] else told_id_at cmp e fs m) ≡ told_id_at cmp e (filter (λ x. not (n == x.number)) fs) m
    unfolding told_id
    at-less n fs m = by_test (n == m)
        (λ t. rw t (subst (λ k. None ≡ told_id_at cmp e (filter (λ x. not (n == x.number)) fs) k) (eqb-true n m t) (sym (less-own n fs))))
        (λ t. rw t (sym (less-other n m t fs)))

    -- a face comes that was told nothing
    pub at-more : (f : Face K) → f.told ≡ [] → (m : ℕ) (fs : List (Face K)) → told_id_at cmp e fs m ≡ told_id_at cmp e (fs ++ f ∷ []) m
    unfolding told_id
    at-more f none m [] = by_test (m == f.number)
        (λ t. sym (at-here cmp e m f [] t ∙ ap (told_id cmp e) none))
        (λ t. sym (at-there cmp e m f [] t))
    at-more f none m (x ∷ xs) = by_test (m == x.number)
        (λ t. at-here cmp e m x xs t ∙ sym (at-here cmp e m x (xs ++ f ∷ []) t))
        (λ t. at-there cmp e m x xs t ∙ at-more f none m xs ∙ sym (at-there cmp e m x (xs ++ f ∷ []) t))
