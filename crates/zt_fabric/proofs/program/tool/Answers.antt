use Rattle.std.proofs.Common.{map, string_bytes, sym}
use Rattle.zt_fabric.proofs.MakeLemmas.{no_number}
use Rattle.zt_fabric.proofs.program.tool.Goals as goal

pub returns-then-asks_to_run-clause-makes : goal.returns-then-asks_to_run-clause-makes
returns-then-asks_to_run-clause-makes g c number is =
    absurd (no_number (map string_bytes c.args.words.now) number (sym c.if-asks_to_run.ensures) is)
