-- The order of faces by their routers.
use Rattle.std.proofs.Common.{◌≡◌, ◌&&◌, ℕ, ◌==◌, ◌<◌, Bool, true, false, List, refl, ap, ap₂, arith, subst, sym, ◌∙◌}
use Rattle.std.proofs.lemmas.Bool.Decides.{nat_tests}
use Rattle.std.specs.BTreeMap.{is_at}
use Rattle.std.specs.Ordering.{is_eq, is_gt, nat_cmp, ordering_reverse, ordering_then}
use Rattle.std.specs.declared.cmp.Ordering.{Ordering}
use Rattle.std.specs.declared.cmp.Ordering.TheVariants.{Less, Equal, Greater}
use Rattle.zt_keys.specs.Test.{by_test}
use Rattle.zt_region.specs.contracts.region.RegionOrd.TheImpl.{ghosts as by_region}
use Rattle.zt_region.specs.contracts.region.RegionOrd.TheImpl.Laws.{total-law as region-total}
use Rattle.zt_region.specs.declared.region.Region.{Region}
use Rattle.zt_region.specs.declared.region.Region.TheVariants.{North, Local, South}
use Rattle.zt_region.specs.declared.region.WhatAmI.TheVariants.{Router, Peer, Client}
use Rattle.zt_region.specs.declared.region.Zid.{Zid}
use Rattle.zt_region.specs.Region.{region_eq, region_eq-refl, region_eq-same, zid_eq, zid_eq-same}
use Rattle.zt_faces.specs.declared.by_router.Standing.{Standing}
use Rattle.zt_faces.specs.Routers.{HasNoneFrom, HasNoneOf, IsFirstOf, IsLeastFrom, has, is_kept, standing_at, standing_cmp}

-- ---- regions tie where they are equal
pub is_eq-then : (a b : Ordering) → is_eq (ordering_then a b) ≡ (is_eq a && is_eq b)
is_eq-then Less b = refl
is_eq-then Equal b = refl
is_eq-then Greater b = refl

pub nat_ties : (a b : ℕ) → is_eq (nat_cmp a b) ≡ (a == b)
nat_ties a b = grind (arith, nat_tests)

region_ties : (a b : Region) → is_eq (by_region.cmp a b) ≡ region_eq a b
region_ties North North = refl
region_ties North Local = refl
region_ties North (South j n) = refl
region_ties Local North = refl
region_ties Local Local = refl
region_ties Local (South j n) = refl
region_ties (South i m) North = refl
region_ties (South i m) Local = refl
region_ties (South i Router) (South j Router) = is_eq-then (nat_cmp i j) _ ∙ ap (λ t. t && true) (nat_ties i j)
region_ties (South i Router) (South j Peer) = is_eq-then (nat_cmp i j) _ ∙ ap (λ t. t && false) (nat_ties i j)
region_ties (South i Router) (South j Client) = is_eq-then (nat_cmp i j) _ ∙ ap (λ t. t && false) (nat_ties i j)
region_ties (South i Peer) (South j Router) = is_eq-then (nat_cmp i j) _ ∙ ap (λ t. t && false) (nat_ties i j)
region_ties (South i Peer) (South j Peer) = is_eq-then (nat_cmp i j) _ ∙ ap (λ t. t && true) (nat_ties i j)
region_ties (South i Peer) (South j Client) = is_eq-then (nat_cmp i j) _ ∙ ap (λ t. t && false) (nat_ties i j)
region_ties (South i Client) (South j Router) = is_eq-then (nat_cmp i j) _ ∙ ap (λ t. t && false) (nat_ties i j)
region_ties (South i Client) (South j Peer) = is_eq-then (nat_cmp i j) _ ∙ ap (λ t. t && false) (nat_ties i j)
region_ties (South i Client) (South j Client) = is_eq-then (nat_cmp i j) _ ∙ ap (λ t. t && true) (nat_ties i j)

-- ---- their order, part by part
pub parts : (a b : Standing) → standing_cmp a b ≡ ordering_then (by_region.cmp a.region b.region) (ordering_then (nat_cmp a.zid.0 b.zid.0) (nat_cmp a.number b.number))
parts a b = refl

-- one stands there where its parts are the same
pub at-parts : (a b : Standing) → is_at (standing_cmp a) b ≡ (region_eq a.region b.region && (zid_eq a.zid b.zid && (a.number == b.number)))
at-parts a b =
    ap is_eq (parts a b)
    ∙ is_eq-then (by_region.cmp a.region b.region) _
    ∙ ap₂ (λ s t. s && t) (region_ties a.region b.region)
    (is_eq-then (nat_cmp a.zid.0 b.zid.0) _ ∙ ap₂ (λ s t. s && t) (nat_ties a.zid.0 b.zid.0) (nat_ties a.number b.number))

then-le : (a b : Ordering) → is_gt (ordering_then a b) ≡ false → is_gt a ≡ false
then-le Less b h = refl
then-le Equal b h = refl
then-le Greater b h = h

then-tied : (a b : Ordering) → is_eq a ≡ true → is_gt (ordering_then a b) ≡ false → is_gt b ≡ false
then-tied Less b t h = cc
then-tied Equal b t h = h
then-tied Greater b t h = cc

tied-then : (a b : Ordering) → is_eq a ≡ true → is_gt b ≡ false → is_gt (ordering_then a b) ≡ false
tied-then Less b t h = cc
tied-then Equal b t h = h
tied-then Greater b t h = cc

neither : (a b : Ordering) → is_gt a ≡ false → a ≡ ordering_reverse b → is_gt b ≡ false → is_eq a ≡ true
neither Less Less h r k = cc
neither Less Equal h r k = cc
neither Less Greater h r k = cc
neither Equal b h r k = refl
neither Greater b h r k = cc

false-or : {P : Type 0} (b : Bool) → b ≡ true → b ≡ false → P
false-or true t f = cc
false-or false t f = cc

nat_le : (a b : ℕ) → is_gt (nat_cmp a b) ≡ false → is_gt (nat_cmp b a) ≡ false → (b == a) ≡ true
nat_le a b h k = grind (arith, nat_tests)

nat_gt : (a b : ℕ) → b < a → is_gt (nat_cmp a b) ≡ true
nat_gt a b h = grind (arith, nat_tests)

nat_from : (n : ℕ) → is_gt (nat_cmp 0 n) ≡ false
nat_from n = grind (arith, nat_tests)

nat_tie : (n : ℕ) → is_eq (nat_cmp n n) ≡ true
nat_tie n = grind (arith, nat_tests)

module _ (region : Region) (zid : Zid) where
  region_tie : is_eq (by_region.cmp region region) ≡ true
  region_tie = region_ties region region ∙ region_eq-refl region

  low : (n : ℕ) → is_gt (standing_cmp (standing_at region zid 0) (standing_at region zid n)) ≡ false
  low n = tied-then (by_region.cmp region region) _ region_tie (tied-then (nat_cmp zid.0 zid.0) _ (nat_tie zid.0) (nat_from n))

  -- what stands between those of one router is one of them
  between : (s : Standing) (n : ℕ) → is_gt (standing_cmp (standing_at region zid 0) s) ≡ false → is_gt (standing_cmp s (standing_at region zid n)) ≡ false
      → (region_eq s.region region && zid_eq s.zid zid) ≡ true
  between s n from to =
      let r = by_region.cmp s.region region in
      let q = by_region.cmp region s.region in
      let tie = neither r q (then-le r _ to) (region-total.antisymm s.region region) (then-le q _ from) in
      let back = neither q r (then-le q _ from) (region-total.antisymm region s.region) (then-le r _ to) in
      let same_region = sym (region_ties s.region region) ∙ tie in
      let z = then-le (nat_cmp s.zid.0 zid.0) _ (then-tied r _ tie to) in
      let w = then-le (nat_cmp zid.0 s.zid.0) _ (then-tied q _ back from) in
      rw same_region (nat_le zid.0 s.zid.0 w z)

  -- none where the first from the lowest is another's, or where there is none
  pub none-other : (keys : List Standing) (s : Standing) → IsLeastFrom (standing_at region zid 0) keys s → (region_eq s.region region && zid_eq s.zid zid) ≡ false → HasNoneOf region zid keys
  none-other keys s at other n =
      by_test (has (standing_at region zid n) keys)
      (λ t. false-or (region_eq s.region region && zid_eq s.zid zid) (between s n at.from (at.least (standing_at region zid n) (low n) t)) other)
      (λ f. f)

  pub none-from : (keys : List Standing) → HasNoneFrom (standing_at region zid 0) keys → HasNoneOf region zid keys
  none-from keys none n = none (standing_at region zid n) (low n)

  higher : (m n : ℕ) → n < m → is_gt (standing_cmp (standing_at region zid m) (standing_at region zid n)) ≡ true
  higher m n h = above-then (by_region.cmp region region) _ region_tie (above-then (nat_cmp zid.0 zid.0) _ (nat_tie zid.0) (nat_gt m n h))
    where
      above-then : (a b : Ordering) → is_eq a ≡ true → is_gt b ≡ true → is_gt (ordering_then a b) ≡ true
      above-then Less b t h = cc
      above-then Equal b t h = h
      above-then Greater b t h = cc

  -- the first from the lowest, where it is one of the router's
  first-at : (keys : List Standing) (m : ℕ) → IsLeastFrom (standing_at region zid 0) keys (standing_at region zid m) → IsFirstOf region zid m keys
  first-at keys m at = record {
    there = at.there;
    first = λ n below. by_test (has (standing_at region zid n) keys)
        (λ t. false-or (is_gt (standing_cmp (standing_at region zid m) (standing_at region zid n))) (higher m n below) (at.least (standing_at region zid n) (low n) t))
        (λ f. f);
  }

  pub first-found : (keys : List Standing) (s : Standing) (n : ℕ) → IsLeastFrom (standing_at region zid 0) keys s → s ≡ standing_at region zid n → IsFirstOf region zid n keys
  first-found keys s n at is = first-at keys n (subst (IsLeastFrom (standing_at region zid 0) keys) is at)

-- parts that are the same
pub same-parts : (region : Region) (zid : Zid) (s : Standing) → region_eq s.region region ≡ true → zid_eq s.zid zid ≡ true → s ≡ standing_at region zid s.number
same-parts region zid s same_region same_zid =
    let r = region_eq-same s.region region same_region in
    let z = zid_eq-same s.zid zid same_zid in
    λ i. record { region = r i; zid = z i; number = s.number }

-- a place in a region whose places aren't kept is none of those that are
pub unkept : (s : Standing) → is_kept s.region ≡ false → (q : Standing) → is_kept q.region ≡ true → is_at (standing_cmp s) q ≡ false
unkept s off q kept =
    by_test (region_eq s.region q.region)
    (λ t. let same = region_eq-same s.region q.region t in false-or (is_kept q.region) kept (subst (λ r. is_kept r ≡ false) same off))
    (λ f. at-parts s q ∙ ap (λ b. b && (zid_eq s.zid q.zid && (s.number == q.number))) f)
