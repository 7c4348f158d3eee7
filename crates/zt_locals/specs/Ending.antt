-- What becomes of the rows when an interest in them ends.
use Rattle.std.specs.Prelude.{ℕ, Bool, not, ◌&&◌, if◌then◌else◌, List, Option, Some, None, filter, map}
use Rattle.std.specs.List.{list_any}
use Rattle.std.specs.FinMap.Entries.{put}
use Rattle.std.specs.declared.cmp.Ordering.{Ordering}
use Rattle.zt_ordered.specs.Rows.{without}
use Rattle.zt_locals.specs.declared.rows.SimpleRow.{SimpleRow}
use Rattle.zt_locals.specs.declared.rows.AggregatedRow.{AggregatedRow}
use Rattle.zt_locals.specs.Interests.{has_none, has_interest, without_interest, is_only}
use Rattle.zt_locals.specs.Resources.{simple_row, aggregated_row}

-- a simple row without an interest
abbrev pub unasked : {Id Res Info : Type 0} → ℕ → Res × SimpleRow Id Info → Res × SimpleRow Id Info
unasked id row = (row.0, simple_row row.1.id row.1.info (without_interest id row.1.interests))

module _ {Id Res Info : Type 0} (matching : Res → Res → Bool) where
  -- whether a simple resource belongs to one of some aggregated resources
  abbrev pub belongs : Res → List (Res × AggregatedRow Id Info) → Bool
  belongs key aggregated = list_any (λ row. matching row.0 key) aggregated

  -- whether a simple row goes with an interest: it answers that one alone, and belongs to no aggregated resource
  abbrev pub goes_with : ℕ → List (Res × AggregatedRow Id Info) → Res × SimpleRow Id Info → Bool
  goes_with id aggregated row = is_only id row.1.interests && not (belongs row.0 aggregated)

  -- the simple rows once an interest in them ended
  abbrev pub unasked_rows : ℕ → List (Res × AggregatedRow Id Info) → List (Res × SimpleRow Id Info) → List (Res × SimpleRow Id Info)
  unasked_rows id aggregated simple = map (unasked id) (filter (λ row. not (goes_with id aggregated row)) simple)

  -- whether a simple row goes with the aggregated resource of a key: it belonged to that one, answers no interest, and belongs to
  -- none of the aggregated resources that are left
  abbrev pub is_unheld : Res → List (Res × AggregatedRow Id Info) → Res × SimpleRow Id Info → Bool
  is_unheld key left row = (matching key row.0 && has_none row.1.interests) && not (belongs row.0 left)

-- what an aggregated resource is once an interest in it ended: none where it was the last
abbrev pub unasked_aggregate : {Id Info : Type 0} → ℕ → AggregatedRow Id Info → Option (AggregatedRow Id Info)
unasked_aggregate id row = if has_none (without_interest id row.interests) then None else Some (aggregated_row row.id row.info (without_interest id row.interests))

-- the same, where there is such a resource and it has the interest; else nothing ends
abbrev pub ending : {Id Info : Type 0} → ℕ → Option (AggregatedRow Id Info) → Option (Option (AggregatedRow Id Info))
ending id None = None
ending id (Some row) = if has_interest id row.interests then Some (unasked_aggregate id row) else None

module _ {Id Res Info : Type 0} where
  -- the aggregated rows after that
  abbrev pub aggregated_after : (Res → Res → Ordering) → Res → Option (Option (AggregatedRow Id Info)) → List (Res × AggregatedRow Id Info) → List (Res × AggregatedRow Id Info)
  aggregated_after cmp key None rows = rows
  aggregated_after cmp key (Some None) rows = without cmp key rows
  aggregated_after cmp key (Some (Some row)) rows = put cmp key row rows

  -- the simple rows after that, beside the aggregated rows that are left
  abbrev pub simple_after : (Res → Res → Bool) → Res → Option (Option (AggregatedRow Id Info)) → List (Res × AggregatedRow Id Info) → List (Res × SimpleRow Id Info) → List (Res × SimpleRow Id Info)
  simple_after matching key None left simple = simple
  simple_after matching key (Some None) left simple = filter (λ row. not (is_unheld matching key left row)) simple
  simple_after matching key (Some (Some row)) left simple = simple
