use Rattle.std.proofs.Common.{◌++◌, List, ap, arith, refl}
use Rattle.zt_check_keeping.specs.Heard.{told_under}
use Rattle.zt_check_fabric.proofs.Gathered.{gather_all, gather_more}
use Rattle.zt_check_keeping.proofs.Gathering.{told_first}
use Rattle.zt_check_keeping.proofs.Sought.{told_of_part}
use Rattle.zt_check_keeping.proofs.heard.add_told.Goals as goal

pub loop-row-init : goal.loop-row-init
loop-row-init g c =
    let x = c.args in
    ap (λ (ts : List _). x.tokens.now.items ++ ts) (told_of_part x.gateway x.number x.id c.told_of-row-items.result.now x.face.now.told c.told_of-row-items.ensures)

pub loop-row-preserved : goal.loop-row-preserved
loop-row-preserved g c =
    let x = c.args in
    gather_more (told_under x.gateway x.number x.id) (told_first x.gateway x.number x.id) c.told_of-row-items.result.now c.loop-row.row-index c.row-item.result c.loop-row.tokens.items c.add_told_row.new.tokens.items
    (x.tokens.now.items ++ told_under x.gateway x.number x.id x.face.now.told) (omega arith) c.row-item.is c.loop-row.invariant
    (c.in_ok-add_told_row.ensures)

pub returns : goal.returns
returns g c =
    let x = c.args in
    gather_all (told_under x.gateway x.number x.id) refl c.told_of-row-items.result.now c.loop-row.row-index c.loop-row.tokens.items (x.tokens.now.items ++ told_under x.gateway x.number x.id x.face.now.told) (omega arith) c.loop-row.invariant
