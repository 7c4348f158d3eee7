-- The routers that a table lists, by their numbers.
use Rattle.std.specs.Prelude.{◌≡◌, ℕ, Bool, List}
use Rattle.std.specs.List.{list_any}
use Rattle.std.specs.Map.{lookup}
use Rattle.std.specs.Option.{is_some}
use Rattle.zt_region.specs.declared.region.Zid.{Zid}
use Rattle.zt_region.specs.Region.{zid_eq}

-- the router is among these
abbrev pub is_among : Zid → List (Zid × ℕ) → Bool
is_among zid listed = is_some (lookup (zid_eq zid) listed)

-- among these are the routers of the entries, and no others
pub record AreListed (listed : List (Zid × ℕ)) (routers : List (ℕ × Zid)) : Type 0 where
  pub finds : (zid : Zid) → is_among zid listed ≡ list_any (λ r. zid_eq zid r.1) routers
