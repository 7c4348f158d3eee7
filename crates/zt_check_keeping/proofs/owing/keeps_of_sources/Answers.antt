use Rattle.std.proofs.Common.{sym, subst, ◌∙◌}
use Rattle.zt_check_keeping.specs.Owing.{IsOnlyKey}
use Rattle.zt_check_keeping.proofs.Tried.{near_tried}
use Rattle.zt_check_keeping.proofs.owing.keeps_of_sources.Goals as goal

pub returns-in-Some : goal.returns-in-Some
returns-in-Some g c =
    let x = c.args in
    c.keeps_near.ensures ∙ near_tried g.K.Ord.cmp g.K.Key.matching x.rows.now x.face.now x.asking.now x.id c.in-Some.key.now c.requires
    (rw c.in-Some.is at c.only_key.ensures)
