use Rattle.std.proofs.Common.{◌≡◌, drop}
use Rattle.std.specs.List.{list_any}
use Rattle.zt_check_lines.specs.Lines.{has_face_that_may_lack}
use Rattle.zt_check_lines.proofs.refused.may_any_lack.Given as goal

-- no gateway so far has a face that lacks ids
abbrev pub invariant-loop-node : goal.invariant-loop-node
invariant-loop-node g l =
    list_any (has_face_that_may_lack g.K.Ord.cmp g.K.Key.matching) (drop l.node-index l.nodes)
    ≡ list_any (has_face_that_may_lack g.K.Ord.cmp g.K.Key.matching) l.nodes
