use Rattle.std.proofs.Common.{◌-◌, take, drop, Some, refl, arith}
use Rattle.zt_streams.specs.Lines.{TakesRest}
use Rattle.zt_streams.proofs.LineLemmas.{last_line-taken}
use Rattle.zt_streams.proofs.FeedLemmas.{TakesRest-kept}
use Rattle.zt_streams.proofs.pieces.Feeder.finish.Goals as goal

pub returns : goal.returns
returns c =
    let f = c.self.inside in
    let rest = take (c.len-end.result - f.start) (drop f.start c.deref.result.now) in
    let taken : TakesRest c.args.self.now (Some rest) (drop c.len-end.result f.bytes.items) =
    TakesRest-kept f.bytes.items c.deref.result.now c.args.self.now f.start f.seen c.len-end.result
    c.deref.ensures.value (omega (arith, c.len-end.ensures, f.bytes.ok.0)) c.self.view_is c.self.invariant c.if-start-end.false c.requires in
    ((refl, (λ _. tt), taken), record { rest = last_line-taken c.args.self.now (Some rest) (drop c.len-end.result f.bytes.items) taken; after = tt })
