-- Tokens that go on along a branch: to the children of a source in a region, looked up once.
--     is_reached                 whether tokens go on to a face
--     passed, unpassed           what it is told of a token that goes on, or of one that is gone
--     IsBranchOf                 the branch is that of a source, by the region's table
--     IsOwnBranch                where something goes on it is that of the gateway itself, and else one to nobody
use Rattle.std.specs.Prelude.{◌≡◌, ℕ, Bool, true, false, ◌&&◌, if◌then◌else◌, List, [], ◌∷◌, None, Some}
use Rattle.std.specs.List.{list_any}
use Rattle.zt_region.specs.declared.region.Region.{Region}
use Rattle.zt_region.specs.declared.region.Zid.{Zid}
use Rattle.zt_region.specs.Region.{region_eq, zid_eq}
use Rattle.zt_protocol.specs.declared.messages.Message.{Message}
use Rattle.zt_protocol.specs.declared.messages.Message.TheVariants as message
use Rattle.zt_model.specs.Rows.{Face, Rows}
use Rattle.zt_model.specs.Trees.{is_face_of_router, node_of, table_of}
use Rattle.zt_link_state.specs.Lookups.{HaveChildrenOf}

module _ {K : Type 0} (g : Rows K) (region : Region) where
  abbrev pub is_reached : List (Zid × Zid) → Face K → Bool
  is_reached children f = region_eq f.region region && (list_any (λ c. zid_eq f.zid c.1) children && is_face_of_router g f)

  abbrev pub passed : List (Zid × Zid) → ℕ → K → Face K → List (Message K)
  passed children node e f = if is_reached children f then message.DeclareToken 0 e None node ∷ [] else []

  abbrev pub unpassed : List (Zid × Zid) → ℕ → K → Face K → List (Message K)
  unpassed children node e f = if is_reached children f then message.UndeclareToken 0 (Some e) node ∷ [] else []

  pub record IsBranchOf (source : Zid) (children : List (Zid × Zid)) (node : ℕ) : Type 0 where
    pub entries : HaveChildrenOf source children (table_of g region).children
    pub number : node ≡ node_of source (table_of g region)

  pub record IsOwnBranch (goes_on : Bool) (children : List (Zid × Zid)) (node : ℕ) : Type 0 where
    pub own : goes_on ≡ true → IsBranchOf g.zid children node
    pub bare : goes_on ≡ false → children ≡ []
