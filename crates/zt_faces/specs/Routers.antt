-- The faces by the routers behind them.
--     standing_cmp                    the order: by region, by router, by number
--     standing_at region zid n        the place of the face of a number, in a region and behind a router
--     standing_of f, stands q f       the place of a face, and whether a place is its own
--     has q keys                      whether a place is among those in order
--     is_kept region                  the region may be a router region: the places of its faces are kept
--     AreStandings keys faces         the places of these faces in such regions, and no others
--     HasMore s before after          one place more in such regions; HasLess: one less
--     IsLeastFrom lowest keys s       the first place that isn't below another; HasNoneFrom: there is none
--     IsFirstOf region zid n keys     the lowest number of a face behind the router; HasNoneOf: there is none
--     KeepsRouter f g                 the face stays in its region and behind its router
use Rattle.std.specs.Prelude.{◌≡◌, ℕ, ◌<◌, ◌==◌, ◌&&◌, Bool, true, false, cond, List}
use Rattle.std.specs.BTreeMap.{is_at}
use Rattle.std.specs.List.{list_any}
use Rattle.std.specs.Ordering.{is_gt}
use Rattle.std.specs.declared.cmp.Ordering.{Ordering}
use Rattle.zt_region.specs.declared.region.Region.{Region}
use Rattle.zt_region.specs.declared.region.Region.TheVariants.{North, South}
use Rattle.zt_region.specs.declared.region.WhatAmI.TheVariants.{Router}
use Rattle.zt_region.specs.declared.region.Zid.{Zid}
use Rattle.zt_region.specs.Region.{region_eq, zid_eq}
use Rattle.zt_model.specs.Rows.{Face}
use Rattle.zt_faces.specs.contracts.by_router.StandingOrd.TheImpl.{ghosts}
use Rattle.zt_faces.specs.declared.by_router.Standing.{Standing}

abbrev pub standing_cmp : Standing → Standing → Ordering
standing_cmp a b = ghosts.cmp a b

abbrev pub standing_at : Region → Zid → ℕ → Standing
standing_at region zid n = record { region = region; zid = zid; number = n }

-- the regions that may be router regions
abbrev pub is_kept : Region → Bool
is_kept North = true
is_kept (South id Router) = true
is_kept _ = false

abbrev pub has : Standing → List Standing → Bool
has q keys = list_any (is_at (standing_cmp q)) keys

pub record IsLeastFrom (lowest : Standing) (keys : List Standing) (s : Standing) : Type 0 where
  pub from : is_gt (standing_cmp lowest s) ≡ false
  pub there : has s keys ≡ true
  pub least : (q : Standing) → is_gt (standing_cmp lowest q) ≡ false → has q keys ≡ true → is_gt (standing_cmp s q) ≡ false

abbrev pub HasNoneFrom : Standing → List Standing → Type 0
HasNoneFrom lowest keys = (q : Standing) → is_gt (standing_cmp lowest q) ≡ false → has q keys ≡ false

abbrev pub IsNumberOf : Region → Zid → ℕ → Standing → Type 0
IsNumberOf region zid n s = s ≡ standing_at region zid n

pub record IsFirstOf (region : Region) (zid : Zid) (number : ℕ) (keys : List Standing) : Type 0 where
  pub there : has (standing_at region zid number) keys ≡ true
  pub first : (n : ℕ) → n < number → has (standing_at region zid n) keys ≡ false

abbrev pub HasNoneOf : Region → Zid → List Standing → Type 0
HasNoneOf region zid keys = (n : ℕ) → has (standing_at region zid n) keys ≡ false

module _ {K : Type 0} where
  abbrev pub standing_of : Face K → Standing
  standing_of f = standing_at f.region f.zid f.number

  abbrev pub is_of : Region → Zid → Face K → Bool
  is_of region zid f = region_eq f.region region && zid_eq f.zid zid

  abbrev pub stands : Standing → Face K → Bool
  stands q f = region_eq f.region q.region && (zid_eq f.zid q.zid && f.number == q.number)

  pub record AreStandings (keys : List Standing) (faces : List (Face K)) : Type 0 where
    pub finds : (q : Standing) → is_kept q.region ≡ true → has q keys ≡ list_any (stands q) faces

  pub record KeepsRouter (f g : Face K) : Type 0 where
    pub region : g.region ≡ f.region
    pub zid : g.zid ≡ f.zid

abbrev pub HasMore : Standing → List Standing → List Standing → Type 0
HasMore s before after = (q : Standing) → is_kept q.region ≡ true → has q after ≡ cond (is_at (standing_cmp s) q) true (has q before)

abbrev pub HasLess : Standing → List Standing → List Standing → Type 0
HasLess s before after = (q : Standing) → is_kept q.region ≡ true → has q after ≡ cond (is_at (standing_cmp s) q) false (has q before)
