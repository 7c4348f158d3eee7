-- What a `LocalResources` stands for, and what the calls answer.
use Rattle.std.specs.Prelude.{ℕ, Bool, if◌then◌else◌, List, [], Option, Some, None, IsTrue, refl}
use Rattle.std.specs.Coded.{Coded, code_by, coded×, coded_list, coded_option, coded_ℕ}
use Rattle.std.specs.List.{flat_map}
use Rattle.std.specs.FinMap.Entries.{is_sorted}
use Rattle.std.specs.declared.cmp.Ordering.{Ordering}
use Rattle.zt_locals.specs.declared.rows.SimpleRow.{SimpleRow}
use Rattle.zt_locals.specs.declared.rows.AggregatedRow.{AggregatedRow}
use Rattle.zt_locals.specs.declared.rows.LocalResourceInsertResult.{LocalResourceInsertResult}
use Rattle.zt_locals.specs.declared.rows.LocalResourceRemoveResult.{LocalResourceRemoveResult}
use Rattle.std.specs.Option.{option_map}
use Rattle.zt_locals.specs.Interests.{has_none}
use Rattle.zt_locals.specs.Folding.{AreFolds, aggregate_of}
use Rattle.zt_locals.specs.Results.{insert_result, remove_result, with_told, with_untold}

-- the simple and the aggregated resources with their keys, each list in the order of the keys
pub record Resources (Id Res Info : Type 0) : Type 0 where
  pub simple : List (Res × SimpleRow Id Info)
  pub aggregated : List (Res × AggregatedRow Id Info)

abbrev pub simple_code : {Id Info : Type 0} → Coded Id → Coded Info → Coded (SimpleRow Id Info)
simple_code {Id} {Info} i f =
    code_by (Id × (Info × List ℕ)) (coded× i (coded× f (coded_list coded_ℕ))) (λ r. (r.id, (r.info, r.interests))) (λ p. record { id = p.0; info = p.1.0; interests = p.1.1 }) (λ _. refl)

abbrev pub aggregated_code : {Id Info : Type 0} → Coded Id → Coded Info → Coded (AggregatedRow Id Info)
aggregated_code {Id} {Info} i f =
    code_by (Id × (Option Info × List ℕ)) (coded× i (coded× (coded_option f) (coded_list coded_ℕ))) (λ r. (r.id, (r.info, r.interests))) (λ p. record { id = p.0; info = p.1.0; interests = p.1.1 }) (λ _. refl)

abbrev pub resources_code : {Id Res Info : Type 0} → Coded Id → Coded Res → Coded Info → Coded (Resources Id Res Info)
resources_code {Id} {Res} {Info} i r f =
    code_by (List (Res × SimpleRow Id Info) × List (Res × AggregatedRow Id Info)) (coded× (coded_list (coded× r (simple_code i f))) (coded_list (coded× r (aggregated_code i f)))) (λ s. (s.simple, s.aggregated))
    (λ p. record { simple = p.0; aggregated = p.1 }) (λ _. refl)

-- what always holds: both lists are in order, and each aggregated info is that from scratch
pub record IsSound {Id Res Info : Type 0} (cmp : Res → Res → Ordering) (matching : Res → Res → Bool) (aggregate : Option Info → Res → Info → Res → Info) (simple : List (Res × SimpleRow Id Info)) (aggregated : List (Res × AggregatedRow Id Info)) : Type 0 where
  pub simple_in_order : IsTrue (is_sorted cmp simple)
  pub aggregated_in_order : IsTrue (is_sorted cmp aggregated)
  pub folds : AreFolds matching aggregate simple aggregated

-- the interests that a simple resource answers; none where it isn't there
abbrev pub interests_of : {Id Info : Type 0} → Option (SimpleRow Id Info) → List ℕ
interests_of None = []
interests_of (Some row) = row.interests

abbrev pub simple_row : {Id Info : Type 0} → Id → Info → List ℕ → SimpleRow Id Info
simple_row id info interests = record { id = id; info = info; interests = interests }

abbrev pub aggregated_row : {Id Info : Type 0} → Id → Option Info → List ℕ → AggregatedRow Id Info
aggregated_row id info interests = record { id = id; info = info; interests = interests }

module _ {Id Info : Type 0} (eq : Info → Info → Bool) where
  -- whether a simple resource is told after an insertion: it answers some interest, and it is new or its info changed
  abbrev pub is_told : {Res : Type 0} → Res → Option (SimpleRow Id Info) → Info → List ℕ → Option Res
  is_told key None info interests = if has_none interests then None else Some key
  is_told key (Some was) info interests = if has_none interests then None else (if eq was.info info then None else Some key)

-- the id that a resource has: that of its simple row, or else of its aggregated row
abbrev pub id_among : {Id Info : Type 0} → Option (SimpleRow Id Info) → Option (AggregatedRow Id Info) → Option Id
id_among (Some row) aggregated = Some row.id
id_among None aggregated = option_map (λ row. row.id) aggregated

-- the interests that an aggregated resource answers; none where it isn't there
abbrev pub aggregated_interests_of : {Id Info : Type 0} → Option (AggregatedRow Id Info) → List ℕ
aggregated_interests_of None = []
aggregated_interests_of (Some row) = row.interests

-- the id that an aggregated resource has: its own, or else that of the simple row of the same key
abbrev pub aggregated_id_among : {Id Info : Type 0} → Option (AggregatedRow Id Info) → Option (SimpleRow Id Info) → Option Id
aggregated_id_among (Some row) simple = Some row.id
aggregated_id_among None simple = option_map (λ row. row.id) simple

-- a simple resource is told that it goes if it answers some interest
abbrev pub is_untold : {Res : Type 0} → Res → List ℕ → Option Res
is_untold key interests = if has_none interests then None else Some key

module _ {Id Res Info : Type 0} (cmp : Res → Res → Ordering) (matching : Res → Res → Bool) (eq : Info → Info → Bool) (aggregate : Option Info → Res → Info → Res → Info) where
  -- what an insertion tells: the aggregated resources whose infos change, in key order, and among them the simple one, if it
  -- is told, before the first whose key isn't less
  unfoldable pub insert_results : Id → Info → Option Res → List (Res × SimpleRow Id Info) → List (Res × AggregatedRow Id Info) → List (LocalResourceInsertResult Id Res Info)
  insert_results id info told simple aggregated = with_told cmp id info told (flat_map (λ row. insert_result eq row (aggregate_of matching aggregate row.0 simple)) aggregated)

  -- the same, after a removal
  unfoldable pub remove_results : Id → Option Res → List (Res × SimpleRow Id Info) → List (Res × AggregatedRow Id Info) → List (LocalResourceRemoveResult Id Res Info)
  remove_results id told simple aggregated = with_untold cmp id told (flat_map (λ row. remove_result eq row (aggregate_of matching aggregate row.0 simple)) aggregated)

  -- what the removal of a simple resource answers; nothing where it isn't there
  abbrev pub remove_answer : Res → Option (SimpleRow Id Info) → List (Res × SimpleRow Id Info) → List (Res × AggregatedRow Id Info) → List (LocalResourceRemoveResult Id Res Info)
  remove_answer key None simple aggregated = []
  remove_answer key (Some row) simple aggregated = remove_results row.id (is_untold key row.interests) simple aggregated
