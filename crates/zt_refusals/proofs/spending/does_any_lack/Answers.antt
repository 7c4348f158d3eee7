use Rattle.std.proofs.Common.{◌∙◌}
use Rattle.zt_refusals.proofs.Seekers.{any_same}
use Rattle.zt_refusals.proofs.spending.does_any_lack.Goals as goal

pub returns : goal.returns
returns g c =
    let rows = c.args.g.now in
    c.do_faces_lack.ensures
    ∙ any_same g.K.Ord.cmp g.K.Key.matching c.args.face c.args.interest c.args.expr.now rows c.told_at.result.now rows.faces c.told_at.ensures.told.ids
