use Rattle.std.proofs.Common.{sym, ◌∙◌, arith}
use Rattle.zt_check_asks.proofs.Walked.{new_more}
use Rattle.zt_check_asks.proofs.gathered.are_new.Goals as goal

pub loop-place-preserved : goal.loop-place-preserved
loop-place-preserved g c =
    new_more g.K.Ord.cmp g.K.Key.matching c.args.known.now c.args.exprs.now c.loop-place.place c.index-exprs-place.result (omega arith) c.index-exprs-place.is
    (sym c.is_among.ensures ∙ c.if-is_among.false) (sym c.is_among-else-is_among.ensures ∙ c.if-is_among-2.false) c.loop-place.invariant
