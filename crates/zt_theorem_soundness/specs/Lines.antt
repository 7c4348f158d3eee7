-- What is true of each gateway of a fabric.
use Rattle.std.specs.Prelude.{Bool}
use Rattle.std.specs.declared.cmp.Ordering.{Ordering}
use Rattle.zt_model.specs.Fabric.{Fabric, Node}
use Rattle.zt_model.specs.Rows.{Rows}
use Rattle.zt_model.specs.Transcript.{Each}
use Rattle.zt_laws.specs.Order.{FabricIsInOrder}

module _ {K : Type 0} (cmp : K → K → Ordering) (matching : K → K → Bool) where
  -- the fabric is in order, and the fact is one of each gateway's rows
  pub record EachGatewayIs (Q : Rows K → Type 0) (s : Fabric K) : Type 0 where
    pub order : FabricIsInOrder cmp matching s
    pub gateways : Each (λ (node : Node K). Q node.rows) s.gateways
