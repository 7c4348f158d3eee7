use Rattle.zt_streams.specs.Lines.{rest_of}
use Rattle.zt_plans.proofs.ReadLemmas.{last_one, rest_stops}
use Rattle.zt_plans.proofs.reading.take_rest.Goals as goal

pub returns-clause-err : goal.returns-clause-err
returns-clause-err g c =
    let rest = rest_of c.args.feeder.now in
    let line = c.in-Some.line.now in
    rest_stops g.K.Key.reading rest line c.args.reading.now c.take_line.result (last_one rest line c.in-Some.ensures.rest) c.take_line.ensures.err
