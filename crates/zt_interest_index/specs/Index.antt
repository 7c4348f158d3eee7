-- An index of interests by key, as its interests come and go.
--     Interests                            interests in all keys, and interests in each key, in order of the key
--     rows_of cmp e entries                the interests in a key
--     rows_at cmp about index              the interests in a key, or those in all keys
--     is_same cmp a b                      both are in one key, or both in all
--     ChangesOf cmp e change old new       the interests in a key change, and no others
--     ChangesAt cmp about change old new   the interests in a key, or in all, change, and no others
use Rattle.std.specs.Prelude.{◌≡◌, ℕ, Bool, true, false, if◌then◌else◌, List, [], Option, Some, None, unwrap_or}
use Rattle.std.specs.BTreeMap.{is_at}
use Rattle.std.specs.Map.{lookup}
use Rattle.std.specs.declared.cmp.Ordering.{Ordering}

-- an interest in a key, or in all: under a face and an id
abbrev pub Interest : Type 0 → Type 0
Interest K = (ℕ × ℕ) × Option K

abbrev pub Interests : Type 0 → Type 0
Interests K = List (Interest K) × List (K × List (Interest K))

module _ {K : Type 0} (cmp : K → K → Ordering) where
  abbrev pub rows_of : K → List (K × List (Interest K)) → List (Interest K)
  rows_of e entries = unwrap_or (lookup (is_at (cmp e)) entries) []

  abbrev pub rows_at : Option K → Interests K → List (Interest K)
  rows_at None index = index.0
  rows_at (Some e) index = rows_of e index.1

  abbrev pub is_same : Option K → Option K → Bool
  is_same None None = true
  is_same None (Some b) = false
  is_same (Some a) None = false
  is_same (Some a) (Some b) = is_at (cmp a) b

  pub record ChangesOf (e : K) (change : List (Interest K) → List (Interest K)) (old new : List (K × List (Interest K))) : Type 0 where
    pub at : (q : K) → rows_of q new ≡ (if is_at (cmp e) q then change (rows_of q old) else rows_of q old)

  pub record ChangesAt (about : Option K) (change : List (Interest K) → List (Interest K)) (old new : Interests K) : Type 0 where
    pub at : (q : Option K) → rows_at q new ≡ (if is_same about q then change (rows_at q old) else rows_at q old)
