use Rattle.zt_interest_index.proofs.Kept.{keeps-all, keeps-removed, keeps-then}
use Rattle.zt_interest_index.proofs.wilds.drop_at.Goals as goal

pub loop-number-init : goal.loop-number-init
loop-number-init g c = keeps-all g.K.Ord.cmp c.args.key.now c.args.wilds.now

pub loop-number-preserved : goal.loop-number-preserved
loop-number-preserved g c =
    keeps-then g.K.Ord.cmp c.args.key.now c.args.wilds.now c.loop-number.wilds c.remove_at.new.self c.loop-number.invariant
    (keeps-removed g.K.Ord.cmp _ c.args.key.now c.loop-number.wilds c.remove_at.new.self c.remove_at.ensures)
