-- What stays true of a gateway's asks under every call: they are open.
use Rattle.std.specs.Prelude.{◌≡◌, Bool, true, []}
use Rattle.std.specs.List.{list_any}
use Rattle.std.specs.declared.cmp.Ordering.{Ordering}
use Rattle.zt_model.specs.Routing.{stands}
use Rattle.zt_model.specs.Rows.{Rows}
use Rattle.zt_model.specs.Says.{is_routed}
use Rattle.zt_model.specs.Transcript.{Each}
use Rattle.zt_theorem_soundness.specs.Sound.{IsSound}

-- a pending of each ask stands, and faces of router regions have no pendings
pub record AsksStand {K : Type 0} (g : Rows K) : Type 0 where
  pub asks : Each (λ f. Each (λ row. list_any (stands g) row.1.pendings ≡ true) f.asks) g.faces
  pub routed : Each (λ f. is_routed g f ≡ true → f.pendings ≡ []) g.faces

module _ {K : Type 0} (cmp : K → K → Ordering) (matching : K → K → Bool) where
  -- and the gateway is sound
  pub record AsksAreOpen (g : Rows K) : Type 0 where
    pub sound : IsSound cmp matching g
    pub stand : AsksStand g
