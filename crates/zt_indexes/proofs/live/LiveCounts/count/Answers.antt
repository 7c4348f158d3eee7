use Rattle.std.proofs.Common.{[], ap, sym, unwrap_or, ◌∙◌}
use Rattle.zt_indexes.specs.Counted.{count_in}
use Rattle.zt_indexes.proofs.Ordered.{ordered-found}
use Rattle.zt_indexes.proofs.live.LiveCounts.count.Goals as goal

pub returns : goal.returns
returns g c =
    rw (← c.self.view_is)
    (c.count_at.ensures ∙ ap (λ found. count_in c.args.region (unwrap_or found [])) (sym (ordered-found g.K.Ord.cmp g.met.K.Ord.total c.args.expr.now c.self.inside.keys.entries)))
