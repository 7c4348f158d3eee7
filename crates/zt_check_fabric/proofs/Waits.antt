-- A fabric in which what waits is other than before.
use Rattle.std.proofs.Common.{◌≡◌, List, ap}
use Rattle.zt_protocol.specs.declared.messages.Message.{Message}
use Rattle.zt_model.specs.Fabric.{Fabric, Link, Node, Place}
use Rattle.zt_model.specs.Rows.{ById}

module _ {K : Type 0} where
  -- a fabric by its parts
  abbrev pub fabric_of : List (Node K) → List Place → List Link → ById (List (Message K)) → Fabric K
  fabric_of nodes places links waiting = record { gateways = nodes; faces = places; links = links; waiting = waiting }

  -- what waits, by what it is
  pub waits_so : (nodes : List (Node K)) (places : List Place) (links : List Link) (one two : ById (List (Message K))) → one ≡ two → fabric_of nodes places links one ≡ fabric_of nodes places links two
  waits_so nodes places links one two same = ap (fabric_of nodes places links) same
