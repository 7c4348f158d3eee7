-- What is asked of fabrics of trees, be it by the faces that are open or by the regions that are listed: both say what is
-- needed of a new face.
use Rattle.std.proofs.Common.{◌≡◌, ℕ, ◌+◌, Bool, true, false, ◌&&◌, List, [], ◌∷◌, refl, sym, ap, ◌∙◌, subst, ⊎_elim}
use Rattle.std.proofs.lemmas.Bool.{and_parts, or_cases}
use Rattle.std.specs.List.{list_all, list_any}
use Rattle.std.specs.declared.cmp.Ordering.{Ordering}
use Rattle.zt_region.specs.declared.region.Region.{Region}
use Rattle.zt_region.specs.declared.region.Region.TheVariants.{North, Local, South}
use Rattle.zt_region.specs.declared.region.WhatAmI.{WhatAmI}
use Rattle.zt_region.specs.declared.region.WhatAmI.TheVariants.{Router, Peer, Client}
use Rattle.zt_region.specs.Region.{is_north, region_eq, region_eq-same}
use Rattle.zt_model.specs.Fabric.{Fabric, Node}
use Rattle.zt_model.specs.Hat.{hat_of}
use Rattle.zt_model.specs.Promises.{EachFace, EachGateway}
use Rattle.zt_model.specs.Rows.{Face, Rows}
use Rattle.zt_model.specs.Strategy.{is_region_of}
use Rattle.zt_model.specs.Transcript.{Each}
use Rattle.zt_model.specs.TreePromises.{IsTreeFabric, LeadsUpByLink, ServesClients, is_client_region}
use Rattle.zt_laws.proofs.Lists.{by_test, each_always, each_weaker, never}
use Rattle.zt_theorem_tree_invariant.specs.Facts.{IsTreeFace, IsTreeGateway, TreesAgree}
use Rattle.zt_theorem_tree_invariant.specs.Trees.{FacesFormTrees, IsOfClients, RefusesNoFaces, have_both_faces}

-- a face whose region is listed stands in a client region
abbrev pub IsOfClientsIfListed : {K : Type 0} → Rows K → Face K → Type 0
IsOfClientsIfListed g f = is_region_of g.regions f.region ≡ true → is_client_region f.region ≡ true

pub record FacesMayFormTrees {K : Type 0} (s : Fabric K) : Type 0 where
  pub north : EachFace (LeadsUpByLink s) s
  pub south : EachFace (λ n g f. IsOfClientsIfListed g f) s

each_gateway_still : {K : Type 0} (P Q : ℕ → Node K → Type 0) → ((n : ℕ) (node : Node K) → P n node → Q n node) → (i : ℕ) (gs : List (Node K)) → EachGateway P i gs → EachGateway Q i gs
each_gateway_still P Q h i [] all = tt
each_gateway_still P Q h i (node ∷ gs) all = (h i node all.0, each_gateway_still P Q h (i + 1) gs all.1)

-- by the faces
pub may_by_faces : {K : Type 0} (s : Fabric K) → FacesFormTrees s → FacesMayFormTrees s
may_by_faces s trees = record {
  north = trees.north;
  south = each_gateway_still (λ n (node : Node _). Each IsOfClients node.rows.faces) (λ n node. Each (IsOfClientsIfListed node.rows) node.rows.faces) (λ n node all. each_weaker IsOfClients (IsOfClientsIfListed node.rows) (λ f client listed. client) node.rows.faces all) 1 s.gateways trees.south;
}

listed_client : (regions : List Region) (region : Region) → list_all is_client_region regions ≡ true → is_region_of regions region ≡ true → is_client_region region ≡ true
listed_client regions North all listed = refl
listed_client regions Local all listed = refl
listed_client regions (South id mode) all listed = go regions all listed
  where
    go : (rs : List Region) → list_all is_client_region rs ≡ true → list_any (region_eq (South id mode)) rs ≡ true → is_client_region (South id mode) ≡ true
    go [] all_ listed_ = never listed_ refl
    go (r ∷ rs) all_ listed_ =
        let parts = and_parts (is_client_region r) (list_all is_client_region rs) all_ in
        ⊎_elim (λ here. ap is_client_region (region_eq-same (South id mode) r here) ∙ parts.0) (λ there. go rs parts.1 there) (or_cases (region_eq (South id mode) r) (list_any (region_eq (South id mode)) rs) listed_)

-- by the regions
pub may_by_regions : {K : Type 0} (s : Fabric K) → IsTreeFabric s → FacesMayFormTrees s
may_by_regions s trees = record {
  north = trees.north;
  south = each_gateway_still ServesClients (λ n node. Each (IsOfClientsIfListed node.rows) node.rows.faces) (λ n node serves. each_always (IsOfClientsIfListed node.rows) (λ f listed. listed_client node.rows.regions f.region serves.0 listed) node.rows.faces) 1 s.gateways trees.clients;
}

-- ---- where trees agree

-- a region whose faces are shown each other's tokens is one of clients
shared_client : (mode : WhatAmI) (region : Region) → is_north region ≡ false → (hat_of mode region).shares_tokens ≡ true → is_client_region region ≡ true
shared_client mode North down shares = refl
shared_client mode Local down shares = refl
shared_client mode (South id Router) down shares = never shares refl
shared_client mode (South id Peer) down shares = never shares refl
shared_client mode (South id Client) down shares = refl

module _ {K : Type 0} (cmp : K → K → Ordering) (matching : K → K → Bool) where
  of_tree : (mode : WhatAmI) (f : Face K) → IsTreeFace mode f → IsOfClients f
  of_tree mode f face = by_test (is_north f.region) (λ up. ap is_client_region (region_eq-same f.region North up)) (λ down. shared_client mode f.region down (face.down down).shares)

  -- faces form trees in a fabric of listed client regions
  pub formed_by_regions : (s : Fabric K) → TreesAgree cmp matching s → IsTreeFabric s → FacesFormTrees s
  formed_by_regions s agree trees = record {
    north = trees.north;
    south = of_gateways 1 s.gateways agree.gateways;
    admitted = each_gateway_still ServesClients RefusesNoFaces (λ n node serves. subst (Each (λ (pair : Region × Region). have_both_faces node.rows pair ≡ false)) (sym serves.1) tt) 1 s.gateways trees.clients;
  }
    where
      of_gateways : (i : ℕ) (gs : List (Node K)) → Each (λ (node : Node K). IsTreeGateway cmp matching node.rows) gs → EachGateway (λ n (node : Node K). Each IsOfClients node.rows.faces) i gs
      of_gateways i [] all = tt
      of_gateways i (node ∷ gs) all = (each_weaker (IsTreeFace node.rows.mode) IsOfClients (λ f face. of_tree node.rows.mode f face) node.rows.faces all.0.faces, of_gateways (i + 1) gs all.1)
