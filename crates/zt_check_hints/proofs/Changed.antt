-- What a change at one expression leaves.
use Rattle.std.proofs.Common.{◌≡◌, Bool, true, false, ◌||◌, cond, if◌then◌else◌, ℕ, zero, suc, ◌<◌, List, [], ◌∷◌, length, get_or, ◌==◌, Option, Some, None, unwrap_or, refl, subst, sym, ap, ◌∙◌, arith}
use Rattle.std.proofs.lemmas.Bool.{false≢true}
use Rattle.std.proofs.lemmas.Bool.Decides.{nat_tests}
use Rattle.std.proofs.lemmas.List.Folds.{list_any_at}
use Rattle.std.specs.BTreeMap.{is_at}
use Rattle.std.specs.List.{insert, list_any, remove}
use Rattle.std.specs.Map.{lookup}
use Rattle.std.specs.Ordering.{is_eq}
use Rattle.std.specs.declared.cmp.Ordering.{Ordering}
use Rattle.std.specs.declared.cmp.Ordering.TheVariants.{Less, Equal, Greater}
use Rattle.zt_keys.specs.Test.{by_test}
use Rattle.zt_check_hints.specs.Hinted.{Has, IsHinted, IsWithout, Keeps, KeepsAll, KeepsAllBut, KeepsBut, hints_at, is_hinted}

equal-from : (r : Ordering) → is_eq r ≡ true → r ≡ Equal
equal-from Less h = cc
equal-from Equal h = refl
equal-from Greater h = cc

no-more : (n : ℕ) → (suc n == 0) ≡ true → suc n ≡ 0
no-more n h = grind (arith, nat_tests)

swapped : (a b c : Bool) → (a || (b || c)) ≡ (b || (a || c))
swapped true true c = refl
swapped true false c = refl
swapped false b c = refl

either : (a b : Bool) → b ≡ true → (a || b) ≡ true
either true b h = refl
either false b h = h

pub empty-from : {X : Type 0} (xs : List X) → (length xs == 0) ≡ true → xs ≡ []
empty-from [] h = refl
empty-from (x ∷ xs) h = let none = no-more (length xs) h in absurd (omega arith)

-- what is told apart by equality is told apart by the order as well
module _ {K : Type 0} {eq : K → K → Bool} (cmp : K → K → Ordering) (ties : (a b : K) → eq a b ≡ is_eq (cmp a b)) where
  alike : eq ≡ (λ a b. is_at (cmp a) b)
  alike = λ i a b. ties a b i

  pub entries-changed : {X : Type 0} (there : Option X) (key : K) (old new : List (K × X)) → ((q : K) → lookup (eq q) new ≡ cond (eq key q) there (lookup (eq q) old))
      → (q : K) → lookup (is_at (cmp q)) new ≡ cond (is_at (cmp key) q) there (lookup (is_at (cmp q)) old)
  entries-changed there key old new changed = subst (λ e. (q : K) → lookup (e q) new ≡ cond (e key q) there (lookup (e q) old)) alike changed

  pub lookup-tied_by : {X : Type 0} (q : K) (entries : List (K × X)) → lookup (eq q) entries ≡ lookup (is_at (cmp q)) entries
  lookup-tied_by q entries = λ i. lookup (alike i q) entries

-- ---- lists of hints
module _ {H : Type 0} where
  inserted : (test : H → Bool) (x : H) (xs : List H) (i : ℕ) → list_any test (insert xs i x) ≡ (test x || list_any test xs)
  inserted test x [] zero = refl
  inserted test x [] (suc i) = refl
  inserted test x (y ∷ xs) zero = refl
  inserted test x (y ∷ xs) (suc i) = ap (λ b. test y || b) (inserted test x xs i) ∙ swapped (test y) (test x) (list_any test xs)

  pub kept-inserted : (x : H) (xs : List H) (i : ℕ) → KeepsAll xs (insert xs i x)
  kept-inserted x xs i = record { at = λ test h. inserted test x xs i ∙ either (test x) (list_any test xs) h }

  pub has-inserted : (x : H) (xs : List H) (i : ℕ) → Has x (insert xs i x)
  has-inserted x xs i = record { at = λ test h. inserted test x xs i ∙ rw h refl }

  pub has-there : (x : H) (xs : List H) (i : ℕ) → i < length xs → x ≡ get_or xs i x → Has x xs
  has-there x xs i lt same = record { at = λ test h. list_any_at test xs i x lt (ap test (sym same) ∙ h) }

  pub kept-same : (xs : List H) → KeepsAll xs xs
  kept-same xs = record { at = λ test h. h }

  pub rest-same : (gone : H → Bool) (xs : List H) → KeepsAllBut gone xs xs
  rest-same gone xs = record { at = λ test others h. h }

  removed : (test : H → Bool) (xs : List H) (i : ℕ) → ((d : H) → test (get_or xs i d) ≡ false) → list_any test xs ≡ true → list_any test (remove xs i) ≡ true
  removed test [] i off h = absurd (false≢true h)
  removed test (x ∷ xs) zero off h = rw (off x) at h
  removed test (x ∷ xs) (suc i) off h = by_test (test x) (λ t. rw t refl) (λ t. rw t (removed test xs i off (rw t at h)))

  pub rest-removed : (gone : H → Bool) (xs : List H) (i : ℕ) → ((d : H) → gone (get_or xs i d) ≡ true) → KeepsAllBut gone xs (remove xs i)
  rest-removed gone xs i is = record { at = λ test others h. removed test xs i (λ d. others (get_or xs i d) (is d)) h }

module _ {K H : Type 0} (cmp : K → K → Ordering) (one : (a b : K) → cmp a b ≡ Equal → a ≡ b) where
  -- other hints are written at an expression
  written-at : (e : K) (w : List H) (old new : List (K × List H))
      → ((q : K) → lookup (is_at (cmp q)) new ≡ cond (is_at (cmp e) q) (Some w) (lookup (is_at (cmp q)) old))
      → (q : K) → hints_at cmp q new ≡ cond (is_at (cmp e) q) w (hints_at cmp q old)
  written-at e w old new updates q =
      by_test (is_at (cmp e) q)
      (λ t. ap (λ o. unwrap_or o []) (updates q) ∙ rw t refl)
      (λ t. ap (λ o. unwrap_or o []) (updates q) ∙ rw t refl)

  kept-by : (gone : H → Bool) (e : K) (w : List H) (old new : List (K × List H))
      → ((test : H → Bool) → ((hint : H) → gone hint ≡ true → test hint ≡ false) → list_any test (hints_at cmp e old) ≡ true → list_any test w ≡ true)
      → ((q : K) → lookup (is_at (cmp q)) new ≡ cond (is_at (cmp e) q) (Some w) (lookup (is_at (cmp q)) old))
      → KeepsBut cmp gone old new
  kept-by gone e w old new keeps updates = record {
    at = λ test others q h.
        by_test (is_at (cmp e) q)
        (λ t.
        let same : e ≡ q = one e q (equal-from _ t) in
        let was : list_any test (hints_at cmp e old) ≡ true = subst (λ k. list_any test (hints_at cmp k old) ≡ true) (sym same) h in
        ap (list_any test) (written-at e w old new updates q ∙ rw t refl) ∙ keeps test others was)
        (λ t. ap (list_any test) (written-at e w old new updates q ∙ rw t refl) ∙ h);
  }

  pub kept-taken : (gone : H → Bool) (e : K) (w was : List H) (old new : List (K × List H))
      → hints_at cmp e old ≡ was → KeepsAllBut gone was w
      → ((q : K) → lookup (is_at (cmp q)) new ≡ cond (is_at (cmp e) q) (Some w) (lookup (is_at (cmp q)) old))
      → KeepsBut cmp gone old new
  kept-taken gone e w was old new is left updates =
      kept-by gone e w old new (λ test others h. left.at test others (ap (list_any test) (sym is) ∙ h)) updates

  pub kept-added : (e : K) (w was : List H) (old new : List (K × List H))
      → hints_at cmp e old ≡ was → KeepsAll was w
      → ((q : K) → lookup (is_at (cmp q)) new ≡ cond (is_at (cmp e) q) (Some w) (lookup (is_at (cmp q)) old))
      → Keeps cmp old new
  kept-added e w was old new is more updates =
      let keeps = kept-by (λ _. false) e w old new (λ test others h. more.at test (ap (list_any test) (sym is) ∙ h)) updates in
      record { at = λ test q h. keeps.at test (λ hint f. absurd (false≢true f)) q h }

  pub hinted-added : (hint : H) (e : K) (w : List H) (old new : List (K × List H))
      → is_at (cmp e) e ≡ true → Has hint w
      → ((q : K) → lookup (is_at (cmp q)) new ≡ cond (is_at (cmp e) q) (Some w) (lookup (is_at (cmp q)) old))
      → IsHinted cmp e hint new
  hinted-added hint e w old new itself has updates = record {
    at = λ test h. ap (list_any test) (written-at e w old new updates e ∙ rw itself refl) ∙ has.at test h;
  }

  pub keeps-all : (es : List (K × List H)) → Keeps cmp es es
  keeps-all es = record { at = λ test q h. h }

  pub keeps-rest : (gone : H → Bool) (es : List (K × List H)) → KeepsBut cmp gone es es
  keeps-rest gone es = record { at = λ test others q h. h }

  -- what goes at an expression leaves the others
  pub apart-kept : (e q : K) (old new : List (K × List H)) → IsWithout cmp e old new → is_at (cmp e) q ≡ false → hints_at cmp q new ≡ hints_at cmp q old
  apart-kept e q old new without t =
      let same : lookup (is_at (cmp q)) new ≡ lookup (is_at (cmp q)) old = without.at q ∙ rw t refl in
      ap (λ o. unwrap_or o []) same

  pub apart-written : (e q : K) (w : List H) (old new : List (K × List H))
      → ((q : K) → lookup (is_at (cmp q)) new ≡ cond (is_at (cmp e) q) (Some w) (lookup (is_at (cmp q)) old))
      → is_at (cmp e) q ≡ false → hints_at cmp q new ≡ hints_at cmp q old
  apart-written e q w old new updates t =
      let same : lookup (is_at (cmp q)) new ≡ lookup (is_at (cmp q)) old = updates q ∙ rw t refl in
      ap (λ o. unwrap_or o []) same

  -- an expression goes that has no hints left
  pub kept-released : (gone : H → Bool) (e : K) (old mid new : List (K × List H)) → KeepsBut cmp gone old mid → hints_at cmp e mid ≡ [] → IsWithout cmp e mid new → KeepsBut cmp gone old new
  kept-released gone e old mid new keeps none without = record {
    at = λ test others q h.
        let still = keeps.at test others q h in
        by_test (is_at (cmp e) q)
        (λ t.
        let same : e ≡ q = one e q (equal-from _ t) in
        let empty : hints_at cmp q mid ≡ [] = subst (λ k. hints_at cmp k mid ≡ []) same none in
        absurd (false≢true (sym (ap (list_any test) empty) ∙ still)))
        (λ t. ap (list_any test) (apart-kept e q mid new without t) ∙ still);
  }
