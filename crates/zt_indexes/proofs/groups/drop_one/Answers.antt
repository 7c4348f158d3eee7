use Rattle.std.proofs.Common.{sym, ◌∙◌}
use Rattle.zt_indexes.proofs.Sets.{one-gone, one-kept}
use Rattle.zt_indexes.proofs.groups.drop_one.Goals as goal

pub returns-then-is_one : goal.returns-then-is_one
returns-then-is_one g c q = one-gone g.K.Ord.cmp g.met.K.Ord.total c.args.one.now c.args.key.now (sym c.is_one.ensures ∙ c.if-is_one.true) q

pub returns-else-is_one : goal.returns-else-is_one
returns-else-is_one g c q = one-kept g.K.Ord.cmp g.met.K.Ord.total c.args.one.now c.args.key.now (sym c.is_one.ensures ∙ c.if-is_one.false) q
