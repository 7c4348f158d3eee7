use Rattle.std.proofs.Common.{subst}
use Rattle.zt_check_open_faces.specs.Found.{AreOfTold}
use Rattle.zt_check_open_faces.proofs.Telling.{told_more}
use Rattle.zt_check_open_faces.proofs.hearing.told_hints.Goals as goal

pub loop-face-preserved : goal.loop-face-preserved
loop-face-preserved g c =
    let cmp = g.K.Ord.cmp in
    let new = c.add_rows.new.told in
    let face = c.face-item.result in
    let rows = subst (λ n. AreOfTold cmp new n face.told) c.number.ensures (subst (λ rows. AreOfTold cmp new c.number.result rows) c.told.ensures c.in_ok-add_rows.ensures.rows) in
    told_more cmp c.loop-face.told new c.args.faces.now c.loop-face.face-index face c.loop-face-test.true c.face-item.is c.in_ok-add_rows.ensures.kept rows c.loop-face.invariant
