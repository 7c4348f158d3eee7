-- What is told apart by equality is told apart by the order as well.
use Rattle.std.proofs.Common.{◌≡◌, ℕ, Bool, Bor, cond, nat_eq, List, [], Option, Some, None, IfNone, IfSome, unwrap_or, refl, subst, sym, ap}
use Rattle.std.specs.BTreeMap.{is_at}
use Rattle.std.specs.Cmp.{unsigned_tied}
use Rattle.std.specs.List.{IsDistinct, list_any}
use Rattle.std.specs.Map.{lookup}
use Rattle.std.specs.Option.{option_copied, option_eq}
use Rattle.std.specs.Ordering.{eq_by_cmp, is_eq}
use Rattle.std.specs.declared.cmp.Ordering.{Ordering}
use Rattle.zt_indexes.specs.Grouped.{is_in, keys_at, number_cmp}

module _ {K : Type 0} {eq : K → K → Bool} (cmp : K → K → Ordering) (ties : (a b : K) → eq a b ≡ is_eq (cmp a b)) where
  alike : eq ≡ (λ a b. is_at (cmp a) b)
  alike = λ i a b. ties a b i

  -- keys of which one was put or taken
  pub keys-changed : (there : Bool) (key : K) (old new : List K) → ((q : K) → list_any (eq q) new ≡ cond (eq key q) there (list_any (eq q) old))
      → (q : K) → is_in cmp q new ≡ cond (is_at (cmp key) q) there (is_in cmp q old)
  keys-changed there key old new changed = subst (λ e. (q : K) → list_any (e q) new ≡ cond (e key q) there (list_any (e q) old)) alike changed

  -- entries of which one was put or taken
  pub entries-changed : {X : Type 0} (there : Option X) (key : K) (old new : List (K × X)) → ((q : K) → lookup (eq q) new ≡ cond (eq key q) there (lookup (eq q) old))
      → (q : K) → lookup (is_at (cmp q)) new ≡ cond (is_at (cmp key) q) there (lookup (is_at (cmp q)) old)
  entries-changed there key old new changed = subst (λ e. (q : K) → lookup (e q) new ≡ cond (e key q) there (lookup (e q) old)) alike changed

  pub lookup-tied_by : {X : Type 0} (q : K) (entries : List (K × X)) → lookup (eq q) entries ≡ lookup (is_at (cmp q)) entries
  lookup-tied_by q entries = λ i. lookup (alike i q) entries

  pub distinct-tied_by : (keys : List K) → IsDistinct eq keys → IsDistinct (eq_by_cmp cmp) keys
  distinct-tied_by keys distinct = subst (λ e. IsDistinct e keys) alike distinct

-- ---- numbers
pub number-ties : (a b : Option ℕ) → option_eq nat_eq a b ≡ is_eq (number_cmp a b)
number-ties None None = refl
number-ties None (Some n) = refl
number-ties (Some m) None = refl
number-ties (Some m) (Some n) = sym (unsigned_tied m n)

module _ {K : Type 0} where
  pub at-number : (number : Option ℕ) (groups : List (Option ℕ × List K)) → unwrap_or (lookup (option_eq nat_eq number) groups) [] ≡ keys_at number groups
  at-number number groups = ap (λ found. unwrap_or found []) (lookup-tied_by number_cmp number-ties number groups)

  -- what is found at a number, if there is anything
  pub found-some : (result : Option (Bor (List K))) (found : Option (List K)) → option_copied result ≡ found → IfSome result (λ keys. keys.now ≡ unwrap_or found [])
  found-some None found is = tt
  found-some (Some keys) found is = ap (λ x. unwrap_or x []) is

  pub found-none : (result : Option (Bor (List K))) (found : Option (List K)) → option_copied result ≡ found → IfNone result (unwrap_or found [] ≡ [])
  found-none None found is = sym (ap (λ x. unwrap_or x []) is)
  found-none (Some keys) found is = tt
