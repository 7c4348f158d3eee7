use Rattle.std.proofs.Common.{◌++◌, ◌+◌}
use Rattle.zt_streams.specs.Lines.{whole_lines}
use Rattle.zt_fabric.proofs.CarryLemmas.{stops-first}
use Rattle.zt_fabric.proofs.carrying.carry_piece.Goals as goal

pub returns-then-is_err-clause-err : goal.returns-then-is_err-clause-err
returns-then-is_err-clause-err g c =
    stops-first g.K.Ord.cmp g.K.Key.matching g.K.Key.reading g.K.Key.printed (whole_lines (c.args.feeder.now ++ c.args.piece.now)) c.args.run.now.fabric (c.args.run.now.report.lines + 1)
    (g.T.Sink.written c.args.sink.now) (g.T.Sink.faults c.args.sink.now)
