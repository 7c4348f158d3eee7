-- Rows of router regions, by where they come from.
--     row_of origin e            the row of an expression
--     is_row_of origin row       the row comes from there
--     is_left_out region t origin    the origin is of the region, and the table doesn't list its router
--     rows_of entry, rows_in entries the rows of an origin with its expressions, and of all
--     keys_at origin entries     the expressions that an origin has, none where it isn't there
--     AreInOrder cmp entries     origins rise, and so do the expressions of each
use Rattle.std.specs.Prelude.{Bool, ◌&&◌, not, List, [], Option, Some, None, map}
use Rattle.std.specs.BTreeMap.{is_at}
use Rattle.std.specs.BTreeSet.{BTreeSet}
use Rattle.std.specs.List.{AllByRecursion, flat_map}
use Rattle.std.specs.List.Sorted.{IsStrictlySortedBy}
use Rattle.std.specs.Map.{keys_of, lookup}
use Rattle.std.specs.declared.cmp.Ordering.{Ordering}
use Rattle.zt_region.specs.Region.{region_eq, zid_eq}
use Rattle.zt_region.specs.declared.region.Region.{Region}
use Rattle.zt_protocol.specs.Plain.{Trees}
use Rattle.zt_model.specs.Rows.{RoutedRow}
use Rattle.zt_model.specs.Trees.{is_listed}
use Rattle.zt_link_state.specs.contracts.origin.OriginOrd.TheImpl.{ghosts}
use Rattle.zt_link_state.specs.declared.origin.Origin.{Origin}

abbrev pub origin_cmp : Origin → Origin → Ordering
origin_cmp a b = ghosts.cmp a b

abbrev pub is_left_out : Region → Trees → Origin → Bool
is_left_out region t origin = region_eq region origin.region && not (is_listed origin.source t)

module _ {K : Type 0} where
  abbrev pub row_of : Origin → K → RoutedRow K
  row_of origin e = record { region = origin.region; source = origin.source; expr = e }

  abbrev pub is_row_of : Origin → RoutedRow K → Bool
  is_row_of origin row = region_eq origin.region row.region && zid_eq origin.source row.source

  abbrev pub keys_in : BTreeSet K → List K
  keys_in s = s.keys

  abbrev pub rows_of : Origin × BTreeSet K → List (RoutedRow K)
  rows_of entry = map (row_of entry.0) (keys_in entry.1)

  abbrev pub rows_in : List (Origin × BTreeSet K) → List (RoutedRow K)
  rows_in entries = flat_map rows_of entries

  abbrev pub keys_or_none : Option (BTreeSet K) → List K
  keys_or_none None = []
  keys_or_none (Some s) = s.keys

  abbrev pub keys_at : Origin → List (Origin × BTreeSet K) → List K
  keys_at origin entries = keys_or_none (lookup (is_at (origin_cmp origin)) entries)

  pub record AreInOrder (cmp : K → K → Ordering) (entries : List (Origin × BTreeSet K)) : Type 0 where
    pub origins : IsStrictlySortedBy origin_cmp (keys_of entries)
    pub keys : AllByRecursion (λ entry. IsStrictlySortedBy cmp (keys_in entry.1)) entries
