use Rattle.zt_check_lines.proofs.Causes.{told_there}
use Rattle.zt_check_lines.proofs.lines.line_cause.Goals as goal

pub returns : goal.returns
returns g c = told_there c.cause_with.result _ c.cause_with.ensures c.in_ok-made.ensures
