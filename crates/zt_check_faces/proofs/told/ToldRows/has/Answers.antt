use Rattle.std.proofs.Common.{sym, ◌∙◌}
use Rattle.zt_check_hints.proofs.Changed.{empty-from}
use Rattle.zt_check_faces.proofs.Hinting.{named-none}
use Rattle.zt_check_faces.proofs.told.ToldRows.has.Goals as goal

pub returns-then-is_empty : goal.returns-then-is_empty
returns-then-is_empty g c =
    rw (← c.self.view_is)
    (named-none g.K.Ord.cmp c.self.inside.ids c.self.inside.rows.items c.args.expr.now c.self.invariant.hinted
    (sym c.at-ids.ensures ∙ empty-from c.at-ids.result.now (sym c.is_empty.ensures ∙ c.if-is_empty.true)))
