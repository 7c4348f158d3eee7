use Rattle.zt_model.specs.Trees.{row_at}
use Rattle.zt_state.proofs.Unrouted.{less-counted}
use Rattle.zt_state.proofs.routed.drop_row.Goals as goal

pub returns-then-remove-clause-counts : goal.returns-then-remove-clause-counts
returns-then-remove-clause-counts g c =
    less-counted g.K.Ord.cmp c.args.zid (row_at g.K.Ord.cmp c.args.region c.args.source c.args.expr.now) c.remove.new.self c.args.routed.now c.args.live.now c.uncount_token.new.live c.if-remove.ensures.less c.uncount_token.ensures
