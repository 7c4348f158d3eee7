-- What a call tells of the rows.
use Rattle.std.specs.Prelude.{Bool, true, false, not, if◌then◌else◌, List, [], ◌∷◌, ◌++◌, Option, Some, None}
use Rattle.std.specs.Ordering.{is_lt}
use Rattle.std.specs.declared.cmp.Ordering.{Ordering}
use Rattle.zt_locals.specs.declared.rows.AggregatedRow.{AggregatedRow}
use Rattle.zt_locals.specs.declared.rows.LocalResourceInsertResult.{LocalResourceInsertResult}
use Rattle.zt_locals.specs.declared.rows.LocalResourceRemoveResult.{LocalResourceRemoveResult}

-- a result in its place among results in key order: before the first whose key isn't less
abbrev pub placed : {P R : Type 0} → (P → P → Ordering) → (R → P) → R → List R → List R
placed cmp key_of result [] = result ∷ []
placed cmp key_of result (other ∷ others) = if is_lt (cmp (key_of other) (key_of result)) then other ∷ placed cmp key_of result others else result ∷ other ∷ others

-- whether an info that may be absent changed
abbrev pub has_changed : {Info : Type 0} → (Info → Info → Bool) → Option Info → Option Info → Bool
has_changed eq None None = false
has_changed eq None (Some after) = true
has_changed eq (Some had) None = true
has_changed eq (Some had) (Some after) = not (eq had after)

module _ {Id Res Info : Type 0} (eq : Info → Info → Bool) where
  abbrev pub insert_result : Res × AggregatedRow Id Info → Option Info → List (LocalResourceInsertResult Id Res Info)
  insert_result row None = []
  insert_result row (Some info) = if has_changed eq row.1.info (Some info) then record { id = row.1.id; resource = row.0; info = info } ∷ [] else []

  abbrev pub remove_result : Res × AggregatedRow Id Info → Option Info → List (LocalResourceRemoveResult Id Res Info)
  remove_result row info = if has_changed eq row.1.info info then record { id = row.1.id; resource = row.0; update = info } ∷ [] else []

-- what each row gives with what stands beside it, one after the other
abbrev pub beside : {X Y R : Type 0} → (X → Y → List R) → List X → List Y → List R
beside f [] ys = []
beside f (x ∷ xs) [] = []
beside f (x ∷ xs) (y ∷ ys) = f x y ++ beside f xs ys

module _ {Id Res Info : Type 0} (cmp : Res → Res → Ordering) where
  -- the results, with that of the simple resource in its place, if it is told
  abbrev pub with_told : Id → Info → Option Res → List (LocalResourceInsertResult Id Res Info) → List (LocalResourceInsertResult Id Res Info)
  with_told id info None results = results
  with_told id info (Some resource) results = placed cmp (λ result. result.resource) (record { id = id; resource = resource; info = info }) results

  -- the same, where it goes
  abbrev pub with_untold : Id → Option Res → List (LocalResourceRemoveResult Id Res Info) → List (LocalResourceRemoveResult Id Res Info)
  with_untold id None results = results
  with_untold id (Some resource) results = placed cmp (λ result. result.resource) (record { id = id; resource = resource; update = None }) results
