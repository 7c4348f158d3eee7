-- What a transcript shows of the rows and fabrics that the machine keeps: all but the own rows of router regions.
--     turns_of cmp matching lines s    the turns of the machine's transcript of lines, from a fabric on
use Rattle.std.specs.Prelude.{Bool, not, List, Option, Some, None, map, filter}
use Rattle.std.specs.declared.cmp.Ordering.{Ordering}
use Rattle.zt_protocol.specs.Plain.{PlainLine}
use Rattle.zt_region.specs.declared.region.Zid.{Zid}
use Rattle.zt_region.specs.Region.{zid_eq}
use Rattle.zt_model.specs.Fabric.{CallAt, Fabric, Node, entries_from}
use Rattle.zt_model.specs.Rows.{RoutedRow, Rows}
use Rattle.zt_model.specs.Promises.{Turn, turns_from}

-- the row comes from another router
abbrev pub is_from_other : {K : Type 0} → Zid → RoutedRow K → Bool
is_from_other zid row = not (zid_eq row.source zid)

abbrev pub without_own : {K : Type 0} → Rows K → Rows K
without_own g = record g { routed = filter (is_from_other g.zid) g.routed }

abbrev pub node_shown : {K : Type 0} → Node K → Node K
node_shown node = record node { rows = without_own node.rows }

abbrev pub as_shown : {K : Type 0} → Fabric K → Fabric K
as_shown s = record s { gateways = map node_shown s.gateways }

abbrev pub call_shown : {K : Type 0} → Option (CallAt K) → Option (CallAt K)
call_shown None = None
call_shown (Some at) = Some (record at { rows = without_own at.rows })

abbrev pub turns_of : {K : Type 0} → (K → K → Ordering) → (K → K → Bool) → List (PlainLine K) → Fabric K → List (Turn K)
turns_of cmp matching lines s = turns_from cmp matching lines (entries_from cmp matching lines s) (as_shown s)
