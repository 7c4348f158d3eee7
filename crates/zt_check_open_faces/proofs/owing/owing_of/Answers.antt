use Rattle.std.proofs.Common.{◌≡◌, true, subst}
use Rattle.zt_check_hints.specs.Hinted.{Has}
use Rattle.zt_check_open_faces.proofs.Listing.{listed_more}
use Rattle.zt_check_open_faces.proofs.owing.owing_of.Goals as goal

pub loop-face-preserved : goal.loop-face-preserved
loop-face-preserved g c =
    let new = c.list_if.new.owing in
    let face = c.face-item.result in
    let has = subst (λ n. c.may_be_owed.result ≡ true → Has n new) c.number.ensures c.in_ok-list_if.ensures.has in
    listed_more c.loop-face.owing new c.args.faces.now c.loop-face.face-index face c.may_be_owed.result c.loop-face-test.true c.face-item.is c.may_be_owed.ensures c.in_ok-list_if.ensures.kept has c.loop-face.invariant
