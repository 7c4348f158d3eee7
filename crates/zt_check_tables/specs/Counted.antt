-- What of a table counts.
use Rattle.std.specs.Prelude.{◌≡◌, ℕ, List}
use Rattle.zt_region.specs.declared.region.Zid.{Zid}
use Rattle.zt_protocol.specs.Plain.{Trees}
use Rattle.zt_model.specs.Trees.{counted_table}

-- These are the routers and links of a table that count.
pub record AreCounted (t : Trees) (routers : List (ℕ × Zid)) (links : List (ℕ × ℕ × Zid)) : Type 0 where
  pub are_routers : routers ≡ (counted_table t).routers
  pub are_links : links ≡ (counted_table t).links
