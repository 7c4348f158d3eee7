-- Routers by node id: a new one is put in its place, and one whose node id is there changes nothing.
use Rattle.std.proofs.Common.{◌≡◌, ◌∷◌, ℕ, Bool, true, false, List, [], Some, cond, ap, refl, ◌∙◌}
use Rattle.std.proofs.lemmas.Cmp.{nat_cmp_total}
use Rattle.std.specs.BTreeMap.{insert_entry, is_at}
use Rattle.std.specs.FinMap.Entries.{by_order}
use Rattle.std.specs.List.{AllByRecursion}
use Rattle.std.specs.List.Sorted.{IsStrictlySortedBy}
use Rattle.std.specs.Map.{keys_of, lookup}
use Rattle.std.specs.Option.{is_some}
use Rattle.std.specs.Ordering.{is_eq, match_ordering, nat_cmp}
use Rattle.std.specs.declared.cmp.Ordering.{Ordering}
use Rattle.std.specs.declared.cmp.Ordering.TheVariants.{Less, Equal, Greater}
use Rattle.zt_model.specs.Lists.{with_key}

module _ {X : Type 0} where
  abbrev by_node : ℕ × X → ℕ × X → Ordering
  by_node a b = nat_cmp a.0 b.0

  abbrev is_there : ℕ → List (ℕ × X) → Bool
  is_there node es = is_some (lookup (is_at (nat_cmp node)) es)

  new_step : (x e : ℕ × X) (es : List (ℕ × X)) (o : Ordering)
      → (is_there x.0 es ≡ false → insert_entry nat_cmp es x.0 x.1 ≡ with_key by_node x es)
      → is_some (cond (is_eq o) (Some e.1) (lookup (is_at (nat_cmp x.0)) es)) ≡ false
      → match_ordering o ((x.0, x.1) ∷ e ∷ es) ((e.0, x.1) ∷ es) (e ∷ insert_entry nat_cmp es x.0 x.1) ≡ by_order o (x ∷ e ∷ es) (e ∷ es) (e ∷ with_key by_node x es)
  new_step x e es Less go none = refl
  new_step x e es Equal go none = (cc)
  new_step x e es Greater go none = ap (λ ys. e ∷ ys) (go none)

  -- a node id that isn't there
  pub node_new : (es : List (ℕ × X)) (x : ℕ × X) → is_there x.0 es ≡ false → insert_entry nat_cmp es x.0 x.1 ≡ with_key by_node x es
  node_new [] x none = refl
  node_new (e ∷ es) x none = new_step x e es (nat_cmp x.0 e.0) (node_new es x) none

  missing : (es : List (ℕ × X)) (node least : ℕ) → nat_cmp node least ≡ Less → AllByRecursion (λ y. nat_cmp least y ≡ Less) (keys_of es) → is_there node es ≡ false
  missing [] node least less above = refl
  missing (e ∷ es) node least less above =
      ap (λ o. is_some (cond (is_eq o) (Some e.1) (lookup (is_at (nat_cmp node)) es))) (nat_cmp_total.trans node least e.0 less above.0)
      ∙ missing es node least less above.1

  there_step : (x e : ℕ × X) (es : List (ℕ × X)) (o : Ordering)
      → (o ≡ Less → is_there x.0 es ≡ false) → (is_there x.0 es ≡ true → with_key by_node x es ≡ es)
      → is_some (cond (is_eq o) (Some e.1) (lookup (is_at (nat_cmp x.0)) es)) ≡ true
      → by_order o (x ∷ e ∷ es) (e ∷ es) (e ∷ with_key by_node x es) ≡ e ∷ es
  there_step x e es Less none go there = let no : is_there x.0 es ≡ false = none refl in (cc)
  there_step x e es Equal none go there = refl
  there_step x e es Greater none go there = ap (λ ys. e ∷ ys) (go there)

  -- a node id that is there
  pub node_there : (es : List (ℕ × X)) (x : ℕ × X) → IsStrictlySortedBy nat_cmp (keys_of es) → is_there x.0 es ≡ true → with_key by_node x es ≡ es
  unfolding IsStrictlySortedBy
  node_there [] x sorted there = (cc)
  node_there (e ∷ es) x sorted there =
      there_step x e es (nat_cmp x.0 e.0) (λ less. missing es x.0 e.0 less sorted.0) (node_there es x sorted.1) there
