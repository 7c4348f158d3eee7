-- Ids of interests by what these ask for: a set of ids for each.
--     is_under found id               the id is in the set that was found, and in none where there is none
--     ids_under found                 the ids of the set that was found, in order
--     HasMore eq asked id old new     the sets with the id in that of what is asked for
--     HasLess eq asked id old new     the sets without the id in that of what is asked for
--     HasSame old new                 the same ids in all
use Rattle.std.specs.Prelude.{◌≡◌, ℕ, Bool, false, ◌==◌, ◌&&◌, ◌||◌, not, List, [], Option, Some, None}
use Rattle.std.specs.BTreeSet.{BTreeSet, contains}
use Rattle.std.specs.Ordering.{nat_cmp}

abbrev pub is_under : Option (BTreeSet ℕ) → ℕ → Bool
is_under None id = false
is_under (Some ids) id = contains nat_cmp ids id

abbrev pub ids_under : Option (BTreeSet ℕ) → List ℕ
ids_under None = []
ids_under (Some ids) = ids.keys

module _ {Q : Type 0} where
  pub record HasMore (eq : Q → Q → Bool) (asked : Q) (id : ℕ) (old new : Q → Option (BTreeSet ℕ)) : Type 0 where
    pub at : (q : Q) (n : ℕ) → is_under (new q) n ≡ (is_under (old q) n || (eq asked q && id == n))

  pub record HasLess (eq : Q → Q → Bool) (asked : Q) (id : ℕ) (old new : Q → Option (BTreeSet ℕ)) : Type 0 where
    pub at : (q : Q) (n : ℕ) → is_under (new q) n ≡ (is_under (old q) n && not (eq asked q && id == n))

  pub record HasSame (old new : Q → Option (BTreeSet ℕ)) : Type 0 where
    pub at : (q : Q) (n : ℕ) → is_under (new q) n ≡ is_under (old q) n
