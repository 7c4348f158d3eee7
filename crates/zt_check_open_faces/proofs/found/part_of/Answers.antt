use Rattle.std.proofs.Common.{arith}
use Rattle.zt_check_open_faces.proofs.Rising.{those_none, those_there}
use Rattle.zt_check_open_faces.proofs.found.part_of.Goals as goal

pub returns-then-at-faces : goal.returns-then-at-faces
returns-then-at-faces g c = those_there 0 c.args.number _ c.args.faces.now c.count_below-at.result (omega arith) c.requires c.count_below-at.ensures c.if-at-faces.true

pub returns : goal.returns
returns g c = those_none 0 c.args.number c.args.faces.now c.count_below-at.result c.requires c.count_below-at.ensures c.if-at-faces.false
