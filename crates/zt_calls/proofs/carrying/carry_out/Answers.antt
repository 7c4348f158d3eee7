use Rattle.std.proofs.Common.{sym, ◌∙◌}
use Rattle.zt_theorem_soundness.proofs.CallsRun.{call_runs}
use Rattle.zt_protocol.specs.Plain.{plain_call}
use Rattle.zt_calls.proofs.carrying.carry_out.Goals as goal

pub returns-clause-rows : goal.returns-clause-rows
returns-clause-rows g c = c.in_ok-do_parts.ensures.rows ∙ sym (call_runs g.K.Ord.cmp g.K.Key.matching (plain_call c.args.call.now) c.args.g.now)
