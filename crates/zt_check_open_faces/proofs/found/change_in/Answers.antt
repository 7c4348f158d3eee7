use Rattle.std.proofs.Common.{arith}
use Rattle.zt_check_open_faces.specs.Open.{IsCut}
use Rattle.zt_check_open_faces.proofs.Rising.{changed_none, changed_there}
use Rattle.zt_check_open_faces.proofs.found.change_in.Goals as goal

pub returns-in_ok-change : goal.returns-in_ok-change
returns-in_ok-change g c =
    let fs = c.args.faces.now.items in
    let cut : IsCut c.args.number fs c.count_below-at.result = rw c.as_slice.ensures.value at c.count_below-at.ensures in
    changed_there 0 c.args.number (g.C.Change.changed c.args.change.now) fs c.count_below-at.result c.index_mut.result.now c.change.new.member c.requires.one c.requires.rise cut (omega arith) c.index_mut.ensures.value c.in_ok-change.ensures

pub returns-else-at-len : goal.returns-else-at-len
returns-else-at-len g c =
    let fs = c.args.faces.now.items in
    let cut : IsCut c.args.number fs c.count_below-at.result = rw c.as_slice.ensures.value at c.count_below-at.ensures in
    changed_none 0 c.args.number (g.C.Change.changed c.args.change.now) fs c.count_below-at.result c.requires.one c.requires.rise cut (omega arith)
