use Rattle.zt_check_trace.proofs.PartsLemmas.{line_none, line_found}
use Rattle.zt_check_trace.proofs.parts.first_line.Goals as goal

pub returns-in_err-end : goal.returns-in_err-end
returns-in_err-end c = rw c.from_residual.ensures (line_none c.args.text.now c.in_err-end.ensures)

pub returns : goal.returns
returns c = line_found c.args.text.now c.in_ok-end.end c.in_ok-end.ensures
