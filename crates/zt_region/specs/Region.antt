-- Regions, their bounds and the nodes' modes: tests that compute, and that these decide equality.
use Rattle.std.specs.Prelude.{◌≡◌, ◌↔◌, ℕ, Bool, true, false, ◌&&◌, nat_eq, refl}
use Rattle.std.proofs.Common.{subst, ap}
use Rattle.std.specs.Cmp.{IsTotalOrder}
use Rattle.std.specs.Ordering.{nat_cmp}
use Rattle.std.specs.declared.cmp.Ordering.{Ordering}
use Rattle.std.proofs.lemmas.Cmp.{nat_cmp_total}
use Rattle.std.proofs.lemmas.Bool.{eq-eqb, eqb-true, and_parts}
use Rattle.zt_region.specs.declared.region.WhatAmI.{WhatAmI}
use Rattle.zt_region.specs.declared.region.WhatAmI.TheVariants.{Router, Peer, Client}
use Rattle.zt_region.specs.declared.region.Zid.{Zid}
use Rattle.zt_region.specs.declared.region.Bound.{Bound}
use Rattle.zt_region.specs.declared.region.Bound.TheVariants.{North as NorthBound, South as SouthBound}
use Rattle.zt_region.specs.declared.region.Region.{Region}
use Rattle.zt_region.specs.declared.region.Region.TheVariants.{North, Local, South}

abbrev pub whatami_eq : WhatAmI → WhatAmI → Bool
whatami_eq Router Router = true
whatami_eq Peer Peer = true
whatami_eq Client Client = true
whatami_eq _ _ = false

abbrev pub zid_eq : Zid → Zid → Bool
zid_eq a b = nat_eq a.0 b.0

abbrev pub bound_eq : Bound → Bound → Bool
bound_eq NorthBound NorthBound = true
bound_eq SouthBound SouthBound = true
bound_eq _ _ = false

abbrev pub region_eq : Region → Region → Bool
region_eq North North = true
region_eq Local Local = true
region_eq (South i m) (South j n) = nat_eq i j && whatami_eq m n
region_eq _ _ = false

-- the side that a region lies on
abbrev pub bound_of : Region → Bound
bound_of North = NorthBound
bound_of Local = SouthBound
bound_of (South i m) = SouthBound

abbrev pub is_north : Region → Bool
is_north r = region_eq r North

-- Each test is true exactly at equal values.
pub whatami_eq-refl : (a : WhatAmI) → whatami_eq a a ≡ true
whatami_eq-refl Router = refl
whatami_eq-refl Peer = refl
whatami_eq-refl Client = refl

pub whatami_eq-same : (a b : WhatAmI) → whatami_eq a b ≡ true → a ≡ b
whatami_eq-same Router Router h = refl
whatami_eq-same Peer Peer h = refl
whatami_eq-same Client Client h = refl
whatami_eq-same Router Peer h = cc
whatami_eq-same Router Client h = cc
whatami_eq-same Peer Router h = cc
whatami_eq-same Peer Client h = cc
whatami_eq-same Client Router h = cc
whatami_eq-same Client Peer h = cc

pub whatami_eq-iff : (a b : WhatAmI) → (whatami_eq a b ≡ true) ↔ (a ≡ b)
whatami_eq-iff a b = (whatami_eq-same a b, λ same. subst (λ c. whatami_eq a c ≡ true) same (whatami_eq-refl a))

pub zid_eq-refl : (a : Zid) → zid_eq a a ≡ true
zid_eq-refl a = eq-eqb a.0 a.0 refl

pub zid_eq-same : (a b : Zid) → zid_eq a b ≡ true → a ≡ b
zid_eq-same a b h = ap (λ (n : ℕ). record { 0 = n }) (eqb-true a.0 b.0 h)

pub zid_eq-iff : (a b : Zid) → (zid_eq a b ≡ true) ↔ (a ≡ b)
zid_eq-iff a b = (zid_eq-same a b, λ same. subst (λ c. zid_eq a c ≡ true) same (zid_eq-refl a))

pub bound_eq-refl : (a : Bound) → bound_eq a a ≡ true
bound_eq-refl NorthBound = refl
bound_eq-refl SouthBound = refl

pub bound_eq-same : (a b : Bound) → bound_eq a b ≡ true → a ≡ b
bound_eq-same NorthBound NorthBound h = refl
bound_eq-same SouthBound SouthBound h = refl
bound_eq-same NorthBound SouthBound h = cc
bound_eq-same SouthBound NorthBound h = cc

pub bound_eq-iff : (a b : Bound) → (bound_eq a b ≡ true) ↔ (a ≡ b)
bound_eq-iff a b = (bound_eq-same a b, λ same. subst (λ c. bound_eq a c ≡ true) same (bound_eq-refl a))

pub region_eq-refl : (a : Region) → region_eq a a ≡ true
region_eq-refl North = refl
region_eq-refl Local = refl
region_eq-refl (South i m) = rw (eq-eqb i i refl) (whatami_eq-refl m)

pub region_eq-same : (a b : Region) → region_eq a b ≡ true → a ≡ b
region_eq-same North North h = refl
region_eq-same Local Local h = refl
region_eq-same (South i m) (South j n) h =
    let both = and_parts (nat_eq i j) (whatami_eq m n) h in
    let i_same : i ≡ j = eqb-true i j both.0 in
    let m_same : m ≡ n = whatami_eq-same m n both.1 in
    cc
region_eq-same North Local h = cc
region_eq-same North (South j n) h = cc
region_eq-same Local North h = cc
region_eq-same Local (South j n) h = cc
region_eq-same (South i m) North h = cc
region_eq-same (South i m) Local h = cc

pub region_eq-iff : (a b : Region) → (region_eq a b ≡ true) ↔ (a ≡ b)
region_eq-iff a b = (region_eq-same a b, λ same. subst (λ c. region_eq a c ≡ true) same (region_eq-refl a))

-- a region of this mode by the rules that name none by number
abbrev pub default_south_of : WhatAmI → Region
default_south_of mode = South 0 mode

-- the order of zids, which `cmp` computes
abbrev pub zid_cmp : Zid → Zid → Ordering
zid_cmp a b = nat_cmp a.0 b.0

pub zid_cmp_total : IsTotalOrder zid_cmp
zid_cmp_total = record {
  antisymm = λ x y. nat_cmp_total.antisymm x.0 y.0;
  trans = λ x y z. nat_cmp_total.trans x.0 y.0 z.0;
  congr = λ x y z. nat_cmp_total.congr x.0 y.0 z.0;
}
