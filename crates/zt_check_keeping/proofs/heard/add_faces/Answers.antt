use Rattle.std.proofs.Common.{◌++◌, List, ap, arith, refl}
use Rattle.zt_check_keeping.specs.Heard.{heard_among}
use Rattle.zt_check_fabric.proofs.Gathered.{gather_all, gather_more}
use Rattle.zt_check_keeping.proofs.Gathering.{heard_first}
use Rattle.zt_check_keeping.proofs.Sought.{heard_of_part}
use Rattle.zt_check_keeping.proofs.heard.add_faces.Goals as goal

pub loop-face-init : goal.loop-face-init
loop-face-init g c =
    let x = c.args in
    ap (λ (ts : List _). x.tokens.now.items ++ ts) (heard_of_part x.gateway x.number x.message.now c.faces_of-face-items.result.now x.rows.now.faces c.faces_of-face-items.ensures)

pub loop-face-preserved : goal.loop-face-preserved
loop-face-preserved g c =
    let x = c.args in
    gather_more (heard_among x.gateway x.number x.message.now) (heard_first x.gateway x.number x.message.now) c.faces_of-face-items.result.now c.loop-face.face-index c.face-item.result c.loop-face.tokens.items c.add_face.new.tokens.items
    (x.tokens.now.items ++ heard_among x.gateway x.number x.message.now x.rows.now.faces) (omega arith) c.face-item.is c.loop-face.invariant
    (c.in_ok-add_face.ensures)

pub returns : goal.returns
returns g c =
    let x = c.args in
    gather_all (heard_among x.gateway x.number x.message.now) refl c.faces_of-face-items.result.now c.loop-face.face-index c.loop-face.tokens.items (x.tokens.now.items ++ heard_among x.gateway x.number x.message.now x.rows.now.faces) (omega arith) c.loop-face.invariant
