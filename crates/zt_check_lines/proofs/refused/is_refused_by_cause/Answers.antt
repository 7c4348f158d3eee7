use Rattle.zt_protocol.specs.Plain.{plain_line}
use Rattle.zt_check_lines.proofs.Refusing.{accepts, refuses_so}
use Rattle.zt_check_lines.proofs.refused.is_refused_by_cause.Goals as goal

pub returns-in-Ok : goal.returns-in-Ok
returns-in-Ok g c =
    accepts g.K.Ord.cmp g.K.Key.matching (plain_line c.args.line.now) c.args.fabric.now c.args.entry.now _ c.in_ok-cause.cause c.is_none.result c.in-Ok.is c.in_ok-cause.ensures c.is_none.ensures

pub returns-in-Err : goal.returns-in-Err
returns-in-Err g c =
    refuses_so g.K.Ord.cmp g.K.Key.matching (plain_line c.args.line.now) c.args.fabric.now c.args.entry.now c.in-Err.refusal c.in_ok-cause.cause c.is_refused_by.result c.in-Err.is c.in_ok-cause.ensures c.is_refused_by.ensures
