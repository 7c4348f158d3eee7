-- Fabrics whose open faces form trees, whatever regions gateways list. A root may be a router or a peer, and gateways may
-- have other south regions, as long as no face stands there. `IsTreeFabric` of `zt_model` asks the same of the regions that
-- are listed, which lines of gateways say: where it holds, these faces form trees too.
use Rattle.std.specs.Prelude.{◌≡◌, ℕ, Bool, true, false, ◌&&◌, List}
use Rattle.std.specs.List.{list_any}
use Rattle.std.specs.declared.cmp.Ordering.{Ordering}
use Rattle.zt_region.specs.declared.region.Region.{Region}
use Rattle.zt_region.specs.Region.{region_eq}
use Rattle.zt_model.specs.Fabric.{Fabric, Node}
use Rattle.zt_model.specs.Promises.{EachFace, EachGateway, Turn}
use Rattle.zt_model.specs.Rows.{Face, Rows}
use Rattle.zt_model.specs.Transcript.{Each}
use Rattle.zt_model.specs.TreePromises.{LeadsUpByLink, MeetTreePromises, is_client_region, is_ids_spent}

-- a face to the south is a client's
abbrev pub IsOfClients : {K : Type 0} → Face K → Type 0
IsOfClients f = is_client_region f.region ≡ true

-- an open face stands in the region
abbrev pub has_face_in : {K : Type 0} → Rows K → Region → Bool
has_face_in g region = list_any (λ f. region_eq f.region region) g.faces

abbrev pub have_both_faces : {K : Type 0} → Rows K → Region × Region → Bool
have_both_faces g pair = has_face_in g pair.0 && has_face_in g pair.1

-- of each pair that the admission table refuses one region has no face
abbrev pub RefusesNoFaces : {K : Type 0} → ℕ → Node K → Type 0
RefusesNoFaces n node = Each (λ pair. have_both_faces node.rows pair ≡ false) node.rows.refused

pub record FacesFormTrees {K : Type 0} (s : Fabric K) : Type 0 where
  pub north : EachFace (LeadsUpByLink s) s
  pub south : EachFace (λ n g f. IsOfClients f) s
  pub admitted : EachGateway RefusesNoFaces 1 s.gateways

-- ---- over a transcript

module _ {K : Type 0} (cmp : K → K → Ordering) (matching : K → K → Bool) where
  -- faces form trees after the turn, and its entry isn't refused for want of ids
  abbrev pub LeavesTrees : Turn K → Type 0
  LeavesTrees t = FacesFormTrees t.after × (is_ids_spent cmp matching t ≡ false)

  -- a transcript that leaves trees in each turn keeps the three promises over trees
  abbrev pub KeepPromisesOfTrees : List (Turn K) → Type 0
  KeepPromisesOfTrees turns = Each LeavesTrees turns → MeetTreePromises cmp matching turns
