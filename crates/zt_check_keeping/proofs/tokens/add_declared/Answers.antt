use Rattle.std.proofs.Common.{◌++◌, List, ap, arith, refl}
use Rattle.zt_check_keeping.specs.Changed.{declared}
use Rattle.zt_check_fabric.proofs.Gathered.{gather_all, gather_more}
use Rattle.zt_check_keeping.proofs.Gathering.{declared_first}
use Rattle.zt_check_keeping.proofs.Sought.{declared_of_part}
use Rattle.zt_check_keeping.proofs.tokens.add_declared.Goals as goal

pub loop-face-init : goal.loop-face-init
loop-face-init g c =
    let x = c.args in
    ap (λ (ts : List _). x.tokens.now.items ++ ts) (declared_of_part x.gateway x.number x.sought c.faces_of-face-items.result.now x.rows.now.faces c.faces_of-face-items.ensures)

pub loop-face-preserved : goal.loop-face-preserved
loop-face-preserved g c =
    let x = c.args in
    gather_more (declared x.gateway x.number x.sought) (declared_first x.gateway x.number x.sought) c.faces_of-face-items.result.now c.loop-face.face-index c.face-item.result c.loop-face.tokens.items c.add_face.new.tokens.items
    (x.tokens.now.items ++ declared x.gateway x.number x.sought x.rows.now.faces) (omega arith) c.face-item.is c.loop-face.invariant
    (c.in_ok-add_face.ensures)

pub returns : goal.returns
returns g c =
    let x = c.args in
    gather_all (declared x.gateway x.number x.sought) refl c.faces_of-face-items.result.now c.loop-face.face-index c.loop-face.tokens.items (x.tokens.now.items ++ declared x.gateway x.number x.sought x.rows.now.faces) (omega arith) c.loop-face.invariant
