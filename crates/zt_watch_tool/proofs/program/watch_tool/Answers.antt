use Rattle.std.proofs.Common.{Err, refl, arith}
use Rattle.zt_protocol.specs.declared.errors.RunError.TheVariants as errors
use Rattle.zt_watch_tool.proofs.program.watch_tool.Goals as goal

pub returns-in-Err-clause-watches : goal.returns-in-Err-clause-watches
returns-in-Err-clause-watches g c = λ asked is. (Err errors.Alloc, refl, refl, record { source_is_calm = λ _. refl; sink_is_calm = λ _. refl; source_counts = omega arith; sink_counts = omega arith })
