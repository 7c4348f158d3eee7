-- What rows are hinted by, as they change.
use Rattle.std.proofs.Common.{◌≡◌, ℕ, ◌+◌, ◌<◌, Bool, true, false, ◌==◌, ◌&&◌, ◌||◌, not, List, [], ◌∷◌, ◌++◌, filter, length, take, get_or, refl, sym, ap, subst, ◌∙◌}
use Rattle.std.proofs.lemmas.Bool.{false≢true}
use Rattle.std.proofs.lemmas.List.Folds.{list_any-append, list_any_more}
use Rattle.std.specs.BTreeMap.{is_at}
use Rattle.std.specs.List.{list_any}
use Rattle.std.specs.Ordering.{is_eq}
use Rattle.std.specs.declared.cmp.Ordering.{Ordering}
use Rattle.std.specs.declared.cmp.Ordering.TheVariants.{Less, Equal, Greater}
use Rattle.zt_keys.specs.Test.{by_test}
use Rattle.zt_model.specs.Lists.{same, without_id}
use Rattle.zt_model.specs.Rows.{ById}
use Rattle.zt_check_hints.specs.Hinted.{IsHinted, IsWithout, Keeps, KeepsBut, hints_at, is_hinted}
use Rattle.zt_check_hints.proofs.Changed.{apart-kept}
use Rattle.zt_check_faces.specs.Hinted.{AreHinted, is_under}

pub and_left : (a b : Bool) → (a && b) ≡ true → a ≡ true
and_left true b h = refl
and_left false b h = h

pub and_right : (a b : Bool) → (a && b) ≡ true → b ≡ true
and_right true b h = h
and_right false b h = cc

pub and_both : (a b : Bool) → a ≡ true → b ≡ true → (a && b) ≡ true
and_both true b h k = k
and_both false b h k = h

pub or_split : (a b : Bool) → {G : Type 0} → (a || b) ≡ true → (a ≡ true → G) → (b ≡ true → G) → G
or_split true b h left right = left refl
or_split false b h left right = right h

pub or_left : (a b : Bool) → a ≡ true → (a || b) ≡ true
or_left true b h = refl
or_left false b h = cc

pub or_right : (a b : Bool) → b ≡ true → (a || b) ≡ true
or_right true b h = refl
or_right false b h = h

pub equal-from : (r : Ordering) → is_eq r ≡ true → r ≡ Equal
equal-from Less h = cc
equal-from Equal h = refl
equal-from Greater h = cc

-- a member that passes one test has one that passes another
pub any-weaker : {X : Type 0} (p q : X → Bool) (xs : List X) → ((x : X) → p x ≡ true → q x ≡ true) → list_any p xs ≡ true → list_any q xs ≡ true
any-weaker p q [] weaker h = h
any-weaker p q (x ∷ xs) weaker h =
    or_split (p x) (list_any p xs) h
    (λ t. or_left (q x) (list_any q xs) (weaker x t))
    (λ t. or_right (q x) (list_any q xs) (any-weaker p q xs weaker t))

pub any-none : {X : Type 0} (xs : List X) → list_any (λ _. false) xs ≡ false
any-none [] = refl
any-none (x ∷ xs) = any-none xs

module _ {K : Type 0} (cmp : K → K → Ordering) where
  pub hinted-none : (hints : List (K × List ℕ)) → AreHinted cmp hints []
  hinted-none hints = record { at = λ test e h. absurd (false≢true h) }

  pub hinted-kept : (old new : List (K × List ℕ)) (rows : ById K) → Keeps cmp old new → AreHinted cmp old rows → AreHinted cmp new rows
  hinted-kept old new rows keeps are = record { at = λ test e h. keeps.at test e (are.at test e h) }

  -- ---- a row more
  module _ (one : (a b : K) → cmp a b ≡ Equal → a ≡ b) where
    own : (id : ℕ) (e : K) (hints : List (K × List ℕ)) → IsHinted cmp e id hints → (test : ℕ → Bool) (q : K) → (test id && same cmp q e) ≡ true → is_hinted cmp test q hints ≡ true
    own id e hints hinted test q h =
        let tied : q ≡ e = one q e (equal-from _ (and_right (test id) _ h)) in
        subst (λ k. is_hinted cmp test k hints ≡ true) (sym tied) (hinted.at test (and_left (test id) _ h))

    pub hinted-pushed : (id : ℕ) (e : K) (old new : List (K × List ℕ)) (rows : ById K) → Keeps cmp old new → IsHinted cmp e id new → AreHinted cmp old rows → AreHinted cmp new (rows ++ (id, e) ∷ [])
    hinted-pushed id e old new rows keeps hinted are = record {
      at = λ test q h.
          let split = sym (list_any-append (λ (row : ℕ × K). test row.0 && same cmp q row.1) rows ((id, e) ∷ [])) ∙ h in
          or_split (is_under cmp test q rows) (is_under cmp test q ((id, e) ∷ [])) split
          (λ t. keeps.at test q (are.at test q t))
          (λ t. or_split (test id && same cmp q e) false t (λ u. own id e new hinted test q u) (λ u. absurd (false≢true u)));
    }

    pub hinted-more : (old new : List (K × List ℕ)) (rows : ById K) (place : ℕ) (row : ℕ × K) → place < length rows → row ≡ get_or rows place row
        → Keeps cmp old new → IsHinted cmp row.1 row.0 new → AreHinted cmp old (take place rows) → AreHinted cmp new (take (place + 1) rows)
    hinted-more old new rows place row within is keeps hinted are = record {
      at = λ test q h.
          let split = sym (list_any_more (λ (row : ℕ × K). test row.0 && same cmp q row.1) rows place row within) ∙ h in
          or_split (is_under cmp test q (take place rows)) (test (get_or rows place row).0 && same cmp q (get_or rows place row).1) split
          (λ t. keeps.at test q (are.at test q t))
          (λ t. own row.0 row.1 new hinted test q (ap (λ (r : ℕ × K). test r.0 && same cmp q r.1) is ∙ t));
    }

    -- ---- rows that go
    without-under : (id : ℕ) (test : ℕ → Bool) (q : K) (rows : ById K) → is_under cmp test q (without_id id rows) ≡ true → is_under cmp (λ n. not (id == n) && test n) q rows ≡ true
    without-under id test q [] h = h
    without-under id test q (row ∷ rows) h =
        by_test (id == row.0)
        (λ t. rw t (without-under id test q rows (rw t at h)))
        (λ t.
        let split = rw t at h in
        or_split (test row.0 && same cmp q row.1) (is_under cmp test q (without_id id rows)) split
        (λ u. rw t (or_left (test row.0 && same cmp q row.1) _ u))
        (λ u. rw t (or_right (test row.0 && same cmp q row.1) _ (without-under id test q rows u))))

    pub hinted-without : (id : ℕ) (old new : List (K × List ℕ)) (rows : ById K) → KeepsBut cmp (λ hint. id == hint) old new → AreHinted cmp old rows → AreHinted cmp new (without_id id rows)
    hinted-without id old new rows keeps are = record {
      at = λ test q h.
          let still = keeps.at (λ n. not (id == n) && test n) (λ hint gone. rw gone refl) q (are.at (λ n. not (id == n) && test n) q (without-under id test q rows h)) in
          any-weaker (λ n. not (id == n) && test n) test (hints_at cmp q new) (λ n t. and_right (not (id == n)) (test n) t) still;
    }

    unnamed-under : (e : K) (test : ℕ → Bool) (q : K) (rows : ById K) → is_under cmp test q (filter (λ row. not (same cmp e row.1)) rows) ≡ true → (is_at (cmp e) q ≡ false) × (is_under cmp test q rows ≡ true)
    unnamed-under e test q [] h = absurd (false≢true h)
    unnamed-under e test q (row ∷ rows) h =
        by_test (same cmp e row.1)
        (λ t.
        let rest = unnamed-under e test q rows (rw t at h) in
        (rest.0, or_right (test row.0 && same cmp q row.1) _ rest.1))
        (λ t.
        let split = rw t at h in
        or_split (test row.0 && same cmp q row.1) (is_under cmp test q (filter (λ row. not (same cmp e row.1)) rows)) split
        (λ u.
        let tied : q ≡ row.1 = one q row.1 (equal-from _ (and_right (test row.0) _ u)) in
        (subst (λ k. is_at (cmp e) k ≡ false) (sym tied) t, or_left (test row.0 && same cmp q row.1) _ u))
        (λ u.
        let rest = unnamed-under e test q rows u in
        (rest.0, or_right (test row.0 && same cmp q row.1) _ rest.1)))

    pub hinted-unnamed : (e : K) (old new : List (K × List ℕ)) (rows : ById K) → IsWithout cmp e old new → AreHinted cmp old rows → AreHinted cmp new (filter (λ row. not (same cmp e row.1)) rows)
    hinted-unnamed e old new rows without are = record {
      at = λ test q h.
          let left = unnamed-under e test q rows h in
          ap (list_any test) (apart-kept cmp one e q old new without left.0) ∙ are.at test q left.1;
    }

  -- ---- what hints say
  pub named-none : (hints : List (K × List ℕ)) (rows : ById K) (e : K) → AreHinted cmp hints rows → hints_at cmp e hints ≡ [] → false ≡ list_any (λ row. same cmp e row.1) rows
  named-none hints rows e are none =
      by_test (list_any (λ row. same cmp e row.1) rows)
      (λ t. absurd (false≢true (ap (list_any (λ (n : ℕ). true)) (sym none) ∙ are.at (λ n. true) e t)))
      (λ t. sym t)

  pub pair-none : (id : ℕ) (hints : List (K × List ℕ)) (rows : ById K) (e : K) → AreHinted cmp hints rows → list_any (λ hint. id == hint) (hints_at cmp e hints) ≡ false → false ≡ list_any (λ row. id == row.0 && same cmp e row.1) rows
  pair-none id hints rows e are none =
      by_test (list_any (λ row. id == row.0 && same cmp e row.1) rows)
      (λ t. absurd (false≢true (sym none ∙ are.at (λ n. id == n) e t)))
      (λ t. sym t)

  pub named-by_pair : (id : ℕ) (rows : ById K) (e : K) → list_any (λ row. id == row.0 && same cmp e row.1) rows ≡ true → list_any (λ row. same cmp e row.1) rows ≡ true
  named-by_pair id rows e h = any-weaker (λ row. id == row.0 && same cmp e row.1) (λ row. same cmp e row.1) rows (λ row t. and_right (id == row.0) _ t) h

-- a test found true, or else asked
pub either-way : (found asked answer : Bool) → (found ≡ true → answer ≡ true) → asked ≡ answer → (found || asked) ≡ answer
either-way true asked answer found is = sym (found refl)
either-way false asked answer found is = is
