use Rattle.zt_theorem_soundness.proofs.CallsRun.{call_runs}
use Rattle.zt_theorem_soundness.proofs.calls_run_their_parts.Goals as goal

pub returns : goal.returns
returns g c = λ call rows. call_runs g.K.Ord.cmp g.K.Key.matching call rows
