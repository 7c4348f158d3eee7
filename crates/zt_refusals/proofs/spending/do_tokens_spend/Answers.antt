use Rattle.std.proofs.Common.{arith, sym}
use Rattle.zt_refusals.proofs.LeftIds.{none_lack_one, none_lack_token}
use Rattle.zt_refusals.proofs.spending.do_tokens_spend.Goals as goal

pub returns-then-highest_next-lt4294967295 : goal.returns-then-highest_next-lt4294967295
returns-then-highest_next-lt4294967295 g c =
    none_lack_one g.K.Ord.cmp g.K.Key.matching c.args.face c.args.interest c.args.expr.now c.args.g.now c.highest_next.result c.highest_next.ensures (omega arith)

pub returns-in_default : goal.returns-in_default
returns-in_default g c = none_lack_token g.K.Ord.cmp g.K.Key.matching c.args.face c.args.interest c.args.expr.now c.args.g.now (sym c.in_default.ensures)
