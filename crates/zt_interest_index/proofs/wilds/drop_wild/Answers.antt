use Rattle.zt_interest_index.proofs.Kept.{keeps-all}
use Rattle.zt_interest_index.proofs.wilds.drop_wild.Goals as goal

pub returns-then-is_plain : goal.returns-then-is_plain
returns-then-is_plain g c = keeps-all g.K.Ord.cmp c.args.key.now c.args.wilds.now
