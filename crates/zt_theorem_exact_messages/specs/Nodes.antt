-- What is promised of node ids beside `Promises`: one that is printed in a router region is the one that the region's table
-- gives to a router whose tokens go on to the face, and elsewhere it's 0.
use Rattle.std.specs.Prelude.{◌≡◌, ℕ, Bool, true, ◌==◌, ◌&&◌, ◌||◌, if◌then◌else◌, Option, Some, None}
use Rattle.std.specs.List.{list_any}
use Rattle.std.specs.declared.cmp.Ordering.{Ordering}
use Rattle.zt_region.specs.declared.region.Zid.{Zid}
use Rattle.zt_region.specs.Region.{zid_eq}
use Rattle.zt_protocol.specs.Plain.{Trees}
use Rattle.zt_protocol.specs.declared.messages.Message.{Message}
use Rattle.zt_protocol.specs.declared.messages.Message.TheVariants as message
use Rattle.zt_model.specs.Lists.{first_where, is_among}
use Rattle.zt_model.specs.Parts.{is_routed}
use Rattle.zt_model.specs.Promises.{Turn, printed}
use Rattle.zt_model.specs.Rows.{Face, Rows}
use Rattle.zt_model.specs.Transcript.{Each, FaceAt, face_numbered}
use Rattle.zt_model.specs.Trees.{routed_order, row_at, table_of}

-- the number that a table lists a router under; 0 where it lists none
abbrev pub number_listed : Zid → Trees → ℕ
number_listed zid t = elim (first_where (λ router. zid_eq zid router.1) t.routers) [ None ↦ 0 | Some router ↦ router.0 ]

-- in the table the router is a child of one that has this number and passes a test
abbrev pub is_child_of : Trees → Zid → ℕ → (Zid → Bool) → Bool
is_child_of t zid node test = list_any (λ child. zid_eq zid child.1 && ((node == number_listed child.0 t) && test child.0)) t.children

module _ {K : Type 0} (cmp : K → K → Ordering) where
  -- the expression stands in a row of the router's; the gateway's own rows are shown by no transcript
  abbrev pub is_of_router : Rows K → Face K → K → Zid → Bool
  is_of_router g f e zid = zid_eq zid g.zid || is_among (routed_order cmp) (row_at cmp f.region zid e) g.routed

  -- In a router region a token comes from a router that has it, or from the gateway itself; that it's gone comes from any
  -- router. Elsewhere, and where an ask is answered, there is no node id.
  abbrev pub has_given_node : Message K → FaceAt K → Bool
  has_given_node (message.DeclareToken id e None node) x =
      if is_routed x.rows x.face then is_child_of (table_of x.rows x.face.region) x.face.zid node (is_of_router x.rows x.face e) else node == 0
  has_given_node (message.DeclareToken id e (Some interest) node) x = node == 0
  has_given_node (message.UndeclareToken id (Some e) node) x =
      if is_routed x.rows x.face then is_child_of (table_of x.rows x.face.region) x.face.zid node (λ zid. true) else node == 0
  has_given_node (message.UndeclareToken id None node) x = node == 0
  has_given_node _ x = true

  abbrev pub HasGivenNode : Message K → Option (FaceAt K) → Type 0
  HasGivenNode m None = Unit {0}
  HasGivenNode m (Some x) = has_given_node m x ≡ true

  -- what a turn prints has
  abbrev pub PrintsGivenNodes : Turn K → Type 0
  PrintsGivenNodes t = Each (λ m. HasGivenNode m.message (face_numbered t.after m.face)) (printed t)
