-- What is looked up of the pairs of regions that are refused.
--     pair_cmp                    first by source, then by destination
--     ArePairsOf listed pairs     the same pairs, in order
use Rattle.std.specs.Prelude.{◌≡◌, List}
use Rattle.std.specs.List.{list_any}
use Rattle.std.specs.List.Sorted.{IsSorted}
use Rattle.std.specs.Ordering.{ordering_then}
use Rattle.std.specs.declared.cmp.Ordering.{Ordering}
use Rattle.zt_region.specs.Admission.{is_pair}
use Rattle.zt_region.specs.contracts.region.RegionOrd.TheImpl.{ghosts}
use Rattle.zt_region.specs.declared.region.Region.{Region}

abbrev pub pair_cmp : Region × Region → Region × Region → Ordering
pair_cmp a b = ordering_then (ghosts.cmp a.0 b.0) (ghosts.cmp a.1 b.1)

pub record ArePairsOf (listed pairs : List (Region × Region)) : Type 0 where
  pub in_order : IsSorted pair_cmp pairs
  pub at : (src dst : Region) → list_any (is_pair src dst) pairs ≡ list_any (is_pair src dst) listed
