use Rattle.std.proofs.Common.{◌≡◌, [], take, drop, ◌-◌, ◌+◌, Some, slice_get, refl, sym, ap, arith}
use Rattle.zt_streams.specs.Lines.{whole_lines, TakesLine}
use Rattle.zt_streams.proofs.LineLemmas.{whole_lines-given}
use Rattle.zt_streams.proofs.FeedLemmas.{IsReady-searched, whole_lines-searched, TakesLine-found}
use Rattle.zt_streams.proofs.pieces.Feeder.next_line.Goals as goal

pub invariant_of-self : goal.invariant_of-self
invariant_of-self c =
    let f = c.self.inside in
    IsReady-searched f.bytes.items c.deref.result.now f.start f.seen _ c.deref.ensures.value (omega (arith, f.bytes.ok.0)) c.self.invariant c.in-None.ensures

pub returns-in-None : goal.returns-in-None
returns-in-None c =
    let f = c.self.inside in
    let none : whole_lines c.args.self.now ≡ [] =
    whole_lines-searched f.bytes.items c.deref.result.now c.args.self.now f.start f.seen c.deref.ensures.value c.self.view_is c.self.invariant c.in-None.ensures in
    ((refl, (λ _. tt), (none, c.self.view_is)), record { first = ap (λ lines. slice_get lines 0) (sym none); after = tt })

pub returns-in-Some : goal.returns-in-Some
returns-in-Some c =
    let f = c.self.inside in
    let line = take (c.in-Some.end - f.start) (drop f.start c.deref-in-Some.result.now) in
    let after = drop (c.in-Some.end + 1) f.bytes.items in
    let taken : TakesLine c.args.self.now (Some line) after =
    TakesLine-found f.bytes.items c.deref.result.now c.deref-in-Some.result.now c.args.self.now f.start f.seen c.in-Some.end
    c.deref.ensures.value c.deref-in-Some.ensures.value c.self.view_is c.self.invariant c.in-Some.ensures in
    ((refl, (λ _. tt), taken), record { first = ap (λ lines. slice_get lines 0) (sym (whole_lines-given c.args.self.now line after taken)); after = tt })
