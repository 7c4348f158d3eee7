use Rattle.std.proofs.Common.{◌∙◌}
use Rattle.zt_presence.proofs.TableLemmas.{answers_other, answers_own}
use Rattle.zt_presence.proofs.tables.answer_of.Goals as goal

pub returns-then-face-sent : goal.returns-then-face-sent
returns-then-face-sent g c = c.answered.ensures ∙ answers_own c.args.face c.args.id c.args.sent c.if-face-sent.true

pub returns-else-face-sent : goal.returns-else-face-sent
returns-else-face-sent g c = answers_other c.args.face c.args.id c.args.sent c.if-face-sent.false
