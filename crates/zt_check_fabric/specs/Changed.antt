-- What changes at one gateway of a fabric.
use Rattle.std.specs.Prelude.{ℕ, List, None, Some}
use Rattle.std.specs.declared.cmp.Ordering.{Ordering}
use Rattle.zt_protocol.specs.Plain.{PlainCall}
use Rattle.zt_protocol.specs.declared.entries.Sent.{Sent}
use Rattle.zt_protocol.specs.declared.messages.Message.{Message}
use Rattle.zt_model.specs.Fabric.{Fabric, Node, with_rows}
use Rattle.zt_model.specs.Hearing.{heard}
use Rattle.zt_model.specs.Lists.{nth}
use Rattle.zt_model.specs.Parts.{with_face}
use Rattle.zt_model.specs.Rows.{Rows}
use Rattle.zt_model.specs.Shown.{rows_shown}

module _ {K : Type 0} (cmp : K → K → Ordering) where
  -- a call changes its rows
  abbrev pub node_called : List (ℕ × ℕ) → PlainCall K → Node K → Node K
  node_called pendings call node = record node { rows = rows_shown cmp pendings call node.rows }

  -- one of its faces hears a message
  abbrev pub rows_told : ℕ → Message K → Rows K → Rows K
  rows_told face message g = with_face face (heard cmp g.moment message) g

  abbrev pub node_told : ℕ → Message K → Node K → Node K
  node_told face message node = record node { rows = rows_told face message node.rows }

  -- the face that a message is printed for hears it
  abbrev pub told : Sent K → Fabric K → Fabric K
  told m s = elim (nth m.face s.faces) [ None ↦ s | Some p ↦ with_rows p.gateway (rows_told p.face m.message) s ]
