use Rattle.std.proofs.Common.{arith}
use Rattle.zt_streams.proofs.ScriptLemmas.{take-append-room}
use Rattle.zt_check_trace.proofs.input.take_chunk.Goals as goal

pub returns-clause-added : goal.returns-clause-added
returns-clause-added c =
    let old = c.args.bytes.now in
    rw (c.in_ok-extend_from_slice.ensures.items, c.min.ensures) (take-append-room 16777216 _ old.items c.args.chunk.now (omega (arith, old.ok.0)) (omega (arith, old.ok.0)))
