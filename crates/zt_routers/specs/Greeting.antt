-- What a face is told of routers' tokens where it is new among the routers' children, by the table that counts now and
-- the one that counted before.
use Rattle.std.specs.Prelude.{ℕ, Bool, ◌&&◌, not, if◌then◌else◌, List, [], None, map}
use Rattle.std.specs.List.{flat_map, list_any}
use Rattle.std.specs.declared.cmp.Ordering.{Ordering}
use Rattle.zt_region.specs.declared.region.Region.{Region}
use Rattle.zt_region.specs.declared.region.Zid.{Zid}
use Rattle.zt_region.specs.Region.{region_eq, zid_eq}
use Rattle.zt_protocol.specs.Plain.{Trees}
use Rattle.zt_protocol.specs.declared.messages.Message.{Message}
use Rattle.zt_protocol.specs.declared.messages.Message.TheVariants as message
use Rattle.zt_model.specs.Rows.{Face, Rows}
use Rattle.zt_model.specs.Trees.{is_face_of_router, routed_expressions, routers_in_order}

-- tokens as they are declared on along a tree
abbrev pub declared : {K : Type 0} → ℕ → List K → List (Message K)
declared node exprs = map (λ e. message.DeclareToken 0 e None node) exprs

abbrev pub has_child : Trees → Zid → Zid → Bool
has_child t source router = list_any (λ c. zid_eq source c.0 && zid_eq router c.1) t.children

abbrev pub is_new_child : Zid → Zid → Trees → Trees → Bool
is_new_child source router t before = has_child t source router && not (has_child before source router)

module _ {K : Type 0} (cmp : K → K → Ordering) (g : Rows K) (region : Region) where
  -- of the tokens of one router
  abbrev pub greeted : Trees → Trees → Face K → ℕ × Zid → List (Message K)
  greeted t before f r = if is_new_child r.1 f.zid t before then declared r.0 (routed_expressions cmp g region r.1) else []

  -- of those of all
  abbrev pub greeted_by : Trees → Trees → Face K → List (Message K)
  greeted_by t before f =
      if region_eq f.region region && is_face_of_router g f then flat_map (greeted t before f) (routers_in_order cmp t) else []
