-- What a change of one expression leaves.
use Rattle.std.proofs.Common.{◌≡◌, ◌≢◌, ℕ, Bool, true, false, ◌==◌, cond, List, [], ◌∷◌, Option, Some, None, length, suc, unwrap_or, IfNone, IfSome, refl, subst, sym, ap, ◌∙◌, arith}
use Rattle.std.proofs.lemmas.Bool.Decides.{nat_tests}
use Rattle.std.specs.BTreeMap.{is_at}
use Rattle.std.specs.Bool.{then_some}
use Rattle.std.specs.Cmp.{IsTotalOrder, tied_itself}
use Rattle.std.specs.List.{IsDistinct}
use Rattle.std.specs.Map.{lookup}
use Rattle.std.specs.Ordering.{eq_by_cmp, is_eq}
use Rattle.std.specs.declared.cmp.Ordering.{Ordering}
use Rattle.std.specs.declared.cmp.Ordering.TheVariants.{Less, Equal, Greater}
use Rattle.zt_ordered.specs.Test.{by_test}
use Rattle.zt_token_index.specs.Held.{IsWith, IsWithout}
use Rattle.zt_token_index.specs.Told.{ChangesAt, told_at}

pub equal-from : (r : Ordering) → is_eq r ≡ true → r ≡ Equal
equal-from Less h = cc
equal-from Equal h = refl
equal-from Greater h = cc

no-more : (n : ℕ) → (suc n == 0) ≡ true → suc n ≡ 0
no-more n h = grind (arith, nat_tests)

pub empty-from : {X : Type 0} (xs : List X) → (length xs == 0) ≡ true → xs ≡ []
empty-from [] h = refl
empty-from (x ∷ xs) h = let none = no-more (length xs) h in absurd (omega arith)

pub some-from : {X : Type 0} (xs : List X) → (length xs == 0) ≡ false → xs ≢ []
some-from [] h = cc
some-from (x ∷ xs) h = λ e. let none : suc (length xs) ≡ 0 = ap length e in absurd (omega (arith, none))

-- what a test answers that passes, and one that doesn't
pub passed : {X : Type 0} (test : Bool) (x : X) (P : X → Type 0) → (test ≡ true → P x) → IfSome (then_some test x) P
passed true x P holds = holds refl
passed false x P holds = tt

pub failed : {X Q : Type 0} (test : Bool) (x : X) → (test ≡ false → Q) → IfNone (then_some test x) Q
failed true x holds = tt
failed false x holds = holds refl

-- ---- what is told apart by equality is told apart by the order as well
module _ {K : Type 0} {eq : K → K → Bool} (cmp : K → K → Ordering) (ties : (a b : K) → eq a b ≡ is_eq (cmp a b)) where
  alike : eq ≡ (λ a b. is_at (cmp a) b)
  alike = λ i a b. ties a b i

  pub entries-changed : {X : Type 0} (there : Option X) (key : K) (old new : List (K × X)) → ((q : K) → lookup (eq q) new ≡ cond (eq key q) there (lookup (eq q) old))
      → (q : K) → lookup (is_at (cmp q)) new ≡ cond (is_at (cmp key) q) there (lookup (is_at (cmp q)) old)
  entries-changed there key old new changed = subst (λ e. (q : K) → lookup (e q) new ≡ cond (e key q) there (lookup (e q) old)) alike changed

  pub lookup-tied_by : {X : Type 0} (q : K) (entries : List (K × X)) → lookup (eq q) entries ≡ lookup (is_at (cmp q)) entries
  lookup-tied_by q entries = λ i. lookup (alike i q) entries

  pub distinct-tied_by : (keys : List K) → IsDistinct eq keys → IsDistinct (eq_by_cmp cmp) keys
  distinct-tied_by keys distinct = subst (λ e. IsDistinct e keys) alike distinct

  -- what was found, and what is told if nothing was
  pub told-found : (found : Option (List (ℕ × ℕ))) (q : K) (entries : List (K × List (ℕ × ℕ))) → found ≡ lookup (eq q) entries → unwrap_or found [] ≡ told_at cmp q entries
  told-found found q entries is = ap (λ o. unwrap_or o []) (is ∙ lookup-tied_by q entries)

-- ---- the pairs of an expression change
module _ {K : Type 0} (cmp : K → K → Ordering) (o : IsTotalOrder cmp) (e : K) where
  lookup-tied : {X : Type 0} (q : K) → cmp e q ≡ Equal → (es : List (K × X)) → lookup (is_at (cmp q)) es ≡ lookup (is_at (cmp e)) es
  lookup-tied q t [] = refl
  lookup-tied q t (x ∷ es) = λ i. cond (is_eq (sym (o.congr e q x.0 t) i)) (Some x.1) (lookup-tied q t es i)

  told-tied : (q : K) → is_at (cmp e) q ≡ true → (es : List (K × List (ℕ × ℕ))) → told_at cmp q es ≡ told_at cmp e es
  told-tied q t es = ap (λ found. unwrap_or found []) (lookup-tied q (equal-from _ t) es)

  pub found-with : {X : Type 0} (x : X) (old new : List (K × X)) → IsWith cmp e x old new → lookup (is_at (cmp e)) new ≡ Some x
  found-with x old new puts = puts.at e ∙ ap (λ r. cond (is_eq r) (Some x) (lookup (is_at (cmp e)) old)) (tied_itself o e)

  pub found-without : {X : Type 0} (old new : List (K × X)) → IsWithout cmp e old new → lookup (is_at (cmp e)) new ≡ None
  found-without old new gone = gone.at e ∙ ap (λ r. cond (is_eq r) None (lookup (is_at (cmp e)) old)) (tied_itself o e)

  module _ (change : List (ℕ × ℕ) → List (ℕ × ℕ)) where
    -- other pairs are written under it
    pub changes-written : (old new : List (K × List (ℕ × ℕ))) (pairs : List (ℕ × ℕ)) → pairs ≡ change (told_at cmp e old) → IsWith cmp e pairs old new → ChangesAt cmp e change old new
    changes-written old new pairs is puts = record {
      at = λ q.
          let found : told_at cmp q new ≡ unwrap_or (cond (is_at (cmp e) q) (Some pairs) (lookup (is_at (cmp q)) old)) [] = ap (λ there. unwrap_or there []) (puts.at q) in
          by_test (is_at (cmp e) q)
          (λ t. found ∙ rw t (is ∙ ap change (sym (told-tied q t old))))
          (λ t. found ∙ rw t refl);
    }

    -- it goes with its last pair
    pub changes-released : (old mid new : List (K × List (ℕ × ℕ))) → ChangesAt cmp e change old mid → told_at cmp e mid ≡ [] → IsWithout cmp e mid new → ChangesAt cmp e change old new
    changes-released old mid new changed none gone = record {
      at = λ q.
          let found : told_at cmp q new ≡ unwrap_or (cond (is_at (cmp e) q) None (lookup (is_at (cmp q)) mid)) [] = ap (λ there. unwrap_or there []) (gone.at q) in
          by_test (is_at (cmp e) q)
          (λ t. found ∙ rw t (sym none ∙ sym (told-tied q t mid) ∙ rw t at (changed.at q)))
          (λ t. found ∙ rw t (rw t at (changed.at q)));
    }
