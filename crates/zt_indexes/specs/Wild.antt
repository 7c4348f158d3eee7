-- The keys of entries that have no number as a whole, in a set beside them: those with wildcards.
--     is_wild numbered key                             a key has no number
--     HasWildChanged cmp numbered key there old new    a key without a number is in the set, or isn't, and all else stays
--     HoldsWild cmp numbered wilds entries             each key of the entries that has no number is in the set
use Rattle.std.specs.Prelude.{◌≡◌, ℕ, Bool, true, false, ◌&&◌, if◌then◌else◌, not, List, [], Option, is_some}
use Rattle.std.specs.BTreeMap.{is_at}
use Rattle.std.specs.Map.{lookup}
use Rattle.std.specs.declared.cmp.Ordering.{Ordering}
use Rattle.std.specs.declared.cmp.Ordering.TheVariants.{Equal}
use Rattle.std.proofs.Common.{ap, sym, ◌∙◌}
use Rattle.std.proofs.lemmas.Bool.{false≢true}
use Rattle.zt_keys.specs.Test.{by_test}
use Rattle.zt_indexes.specs.Grouped.{HasKeyMore, HasSameKeys, equal-from, here, is_in, others, still}
use Rattle.zt_indexes.specs.Live.{IsWithout}

module _ {K : Type 0} (numbered : K → Option ℕ) where
  abbrev pub is_wild : K → Bool
  is_wild key = not (is_some (numbered key))

module _ {K : Type 0} (cmp : K → K → Ordering) (numbered : K → Option ℕ) where
  pub record HasWildChanged (key : K) (there : Bool) (old new : List K) : Type 0 where
    pub at : (q : K) → is_in cmp q new
        ≡ (if is_wild numbered key && is_at (cmp key) q then there else is_in cmp q old)

  pub record HoldsWild {X : Type 0} (wilds : List K) (entries : List (K × X)) : Type 0 where
    pub at : (q : K) → is_some (lookup (is_at (cmp q)) entries) ≡ true → is_wild numbered q ≡ true
        → is_in cmp q wilds ≡ true

  module _ {X : Type 0} where
    pub wild-none : HoldsWild {X = X} [] []
    wild-none = record { at = λ q h wild. absurd (false≢true h) }

    -- a key more in the set
    pub wild-put : (key : K) (before after : List K) (entries : List (K × X)) → HoldsWild before entries
        → HasWildChanged key true before after → HoldsWild after entries
    wild-put key before after entries holds changed = record {
      at = λ q h wild. changed.at q ∙ still (is_wild numbered key) (is_at (cmp key) q) _ (holds.at q h wild);
    }

    pub wild-same : (wilds : List K) (old new : List (K × X)) → HoldsWild wilds old
        → HasSameKeys cmp old new → HoldsWild wilds new
    wild-same wilds old new holds same = record { at = λ q h wild. holds.at q (sym (same.at q) ∙ h) wild }

    -- a key more, which is in the set if it has no number
    pub wild-more : ((a b : K) → cmp a b ≡ Equal → a ≡ b) → (key : K) (before after : List K)
        (old new : List (K × X)) → HoldsWild before old → HasWildChanged key true before after
        → HasKeyMore cmp key old new → HoldsWild after new
    wild-more one key before after old new holds changed more = record {
      at = λ q h wild.
          by_test (is_at (cmp key) q)
          (λ t.
          let own : is_wild numbered key ≡ true = ap (is_wild numbered) (one key q (equal-from _ t)) ∙ wild in
          changed.at q ∙ here (is_wild numbered key) (is_at (cmp key) q) _ own t)
          (λ t.
          let was : is_some (lookup (is_at (cmp q)) old) ≡ true = sym (rw t at (more.at q)) ∙ h in
          changed.at q ∙ still (is_wild numbered key) (is_at (cmp key) q) _ (holds.at q was wild));
    }

    -- a key less, which is gone from the set
    pub wild-less : (key : K) (before after : List K) (old new : List (K × X))
        → HoldsWild before old → HasWildChanged key false before after → IsWithout cmp key old new
        → HoldsWild after new
    wild-less key before after old new holds changed gone = record {
      at = λ q h wild.
          by_test (is_at (cmp key) q)
          (λ t. absurd (false≢true (sym (ap is_some (rw t at (gone.at q))) ∙ h)))
          (λ t.
          let was : is_some (lookup (is_at (cmp q)) old) ≡ true = sym (ap is_some (rw t at (gone.at q))) ∙ h in
          changed.at q ∙ others (is_wild numbered key) (is_at (cmp key) q) _ t (holds.at q was wild));
    }
