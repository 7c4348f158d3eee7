-- The order of regions that is computed is the definitions', and tells regions apart.
use Rattle.std.proofs.Common.{◌≡◌, ◌&&◌, ℕ, nat_eq, refl, ap, arith, ◌∙◌}
use Rattle.std.proofs.lemmas.Bool.Decides.{nat_tests}
use Rattle.std.specs.Ordering.{is_eq, nat_cmp, ordering_then}
use Rattle.std.specs.declared.cmp.Ordering.{Ordering}
use Rattle.std.specs.declared.cmp.Ordering.TheVariants.{Less, Equal, Greater}
use Rattle.zt_region.specs.contracts.region.RegionOrd.TheImpl.{ghosts}
use Rattle.zt_region.specs.declared.region.Region.{Region}
use Rattle.zt_region.specs.declared.region.Region.TheVariants.{North, Local, South}
use Rattle.zt_region.specs.declared.region.WhatAmI.{WhatAmI}
use Rattle.zt_region.specs.declared.region.WhatAmI.TheVariants.{Router, Peer, Client}
use Rattle.zt_region.specs.Region.{region_eq, whatami_eq}
use Rattle.zt_model.specs.Trees.{mode_rank, region_order}

pub region_cmp-order : (a b : Region) → ghosts.cmp a b ≡ region_order a b
region_cmp-order North North = refl
region_cmp-order North Local = refl
region_cmp-order North (South j n) = refl
region_cmp-order Local North = refl
region_cmp-order Local Local = refl
region_cmp-order Local (South j n) = refl
region_cmp-order (South i m) North = refl
region_cmp-order (South i m) Local = refl
region_cmp-order (South i Router) (South j Router) = refl
region_cmp-order (South i Router) (South j Peer) = refl
region_cmp-order (South i Router) (South j Client) = refl
region_cmp-order (South i Peer) (South j Router) = refl
region_cmp-order (South i Peer) (South j Peer) = refl
region_cmp-order (South i Peer) (South j Client) = refl
region_cmp-order (South i Client) (South j Router) = refl
region_cmp-order (South i Client) (South j Peer) = refl
region_cmp-order (South i Client) (South j Client) = refl

pub is_eq-then : (a b : Ordering) → is_eq (ordering_then a b) ≡ (is_eq a && is_eq b)
is_eq-then Less b = refl
is_eq-then Equal b = refl
is_eq-then Greater b = refl

mode_eq : (m n : WhatAmI) → is_eq (nat_cmp (mode_rank m) (mode_rank n)) ≡ whatami_eq m n
mode_eq Router Router = refl
mode_eq Router Peer = refl
mode_eq Router Client = refl
mode_eq Peer Router = refl
mode_eq Peer Peer = refl
mode_eq Peer Client = refl
mode_eq Client Router = refl
mode_eq Client Peer = refl
mode_eq Client Client = refl

pub nat_cmp_eq : (a b : ℕ) → is_eq (nat_cmp a b) ≡ nat_eq a b
nat_cmp_eq a b = grind (arith, nat_tests)

pub region_order_eq : (a b : Region) → is_eq (region_order a b) ≡ region_eq a b
region_order_eq North North = refl
region_order_eq North Local = refl
region_order_eq North (South j n) = refl
region_order_eq Local North = refl
region_order_eq Local Local = refl
region_order_eq Local (South j n) = refl
region_order_eq (South i m) North = refl
region_order_eq (South i m) Local = refl
region_order_eq (South i m) (South j n) =
    is_eq-then (nat_cmp i j) _ ∙ ap (λ t. t && is_eq (nat_cmp (mode_rank m) (mode_rank n))) (nat_cmp_eq i j)
    ∙ ap (λ t. nat_eq i j && t) (mode_eq m n)
