use Rattle.std.proofs.Common.{◌<◌, arith, length}
use Rattle.zt_check_causes.proofs.Seen.{faces_more}
use Rattle.zt_check_causes.proofs.expressions.add_faces.Goals as goal

pub loop-done-preserved : goal.loop-done-preserved
loop-done-preserved g c =
    let x = c.args in
    let within : c.loop-done.done < length x.faces.now = omega arith in
    faces_more g.K.Ord.cmp x.mode x.own x.faces.now c.loop-done.done c.index-faces-faces.result x.exprs.now.items c.loop-done.exprs.items c.add_face.new.exprs.items within c.index-faces-faces.is c.loop-done.invariant c.in_ok-add_face.ensures
