use Rattle.std.proofs.Common.{sym, ◌∙◌}
use Rattle.zt_tokens.proofs.Asked.{nobody-answered}
use Rattle.zt_tokens.proofs.answering.answer.Goals as goal

pub returns-in-Nobody : goal.returns-in-Nobody
returns-in-Nobody g c =
    c.new.ensures.items ∙ sym (nobody-answered g.K.Ord.cmp g.K.Key.matching c.args.face c.args.id c.args.expr.now c.args.g.now.faces (rw c.in-Nobody.is at c.asker.ensures.asker))
