use Rattle.std.proofs.Common.{[], ap, sym, unwrap_or, ◌∙◌}
use Rattle.zt_indexes.specs.Counted.{is_shown_in}
use Rattle.zt_indexes.proofs.Ordered.{ordered-found}
use Rattle.zt_indexes.proofs.live.LiveCounts.is_shown.Goals as goal

pub returns : goal.returns
returns g c =
    rw (← c.self.view_is)
    (c.is_shown_at.ensures ∙ ap (λ found. is_shown_in (g.T.RegionTest.passes c.args.test.now) (unwrap_or found [])) (sym (ordered-found g.K.Ord.cmp g.met.K.Ord.total c.args.expr.now c.self.inside.keys.entries)))
