-- What is looked up of the south regions that a gateway lists.
--     may_go_by_trees region          tokens of the region may go by trees: it can be a router region
--     AreRegionsOf listed regions     the same regions, in order
use Rattle.std.specs.Prelude.{◌≡◌, Bool, true, false, List}
use Rattle.std.specs.List.{list_any}
use Rattle.std.specs.List.Sorted.{IsSorted}
use Rattle.zt_region.specs.Region.{region_eq}
use Rattle.zt_region.specs.contracts.region.RegionOrd.TheImpl.{ghosts}
use Rattle.zt_region.specs.declared.region.Region.{Region}
use Rattle.zt_region.specs.declared.region.Region.TheVariants.{North, Local, South}
use Rattle.zt_region.specs.declared.region.WhatAmI.TheVariants.{Router, Peer, Client}

abbrev pub may_go_by_trees : Region → Bool
may_go_by_trees North = true
may_go_by_trees Local = false
may_go_by_trees (South id Router) = true
may_go_by_trees (South id Peer) = false
may_go_by_trees (South id Client) = false

pub record AreRegionsOf (listed regions : List Region) : Type 0 where
  pub in_order : IsSorted ghosts.cmp regions
  pub at : (region : Region) → list_any (region_eq region) regions ≡ list_any (region_eq region) listed
