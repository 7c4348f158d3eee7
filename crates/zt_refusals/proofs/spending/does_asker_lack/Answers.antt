use Rattle.std.proofs.Common.{◌==◌, Some, ◌∙◌}
use Rattle.zt_refusals.proofs.Seekers.{one_same}
use Rattle.zt_refusals.proofs.spending.does_asker_lack.Goals as goal

pub returns : goal.returns
returns g c =
    let rows = c.args.g.now in
    c.lacks_token_id_at.ensures
    ∙ one_same g.K.Ord.cmp g.K.Key.matching c.args.face (Some c.args.id) c.args.expr.now rows c.told_at.result.now (λ x. c.args.asker == x.number) rows.faces c.told_at.ensures.told.ids
