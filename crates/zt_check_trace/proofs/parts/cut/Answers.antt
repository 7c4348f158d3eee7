use Rattle.std.proofs.Common.{refl, sym, ◌∙◌}
use Rattle.std.proofs.lemmas.Slice.Eq.{bytes_eq-Decides}
use Rattle.zt_check_trace.proofs.PartsLemmas.{cut_at, cut_none, passed_line}
use Rattle.zt_check_trace.proofs.parts.cut.Goals as goal

pub returns-then-eq : goal.returns-then-eq
returns-then-eq c =
    let line = c.in-Some.line.now in
    cut_at c.args.input.now c.loop-line.start line c.in-Some.behind.now c.loop-line.invariant c.in-Some.ensures.1
    ((bytes_eq-Decides line _).0 (sym c.eq.ensures ∙ c.if-eq.true))

pub loop-line-preserved : goal.loop-line-preserved
loop-line-preserved c =
    passed_line c.args.input.now c.loop-line.start c.in-Some.line.now c.in-Some.behind.now c.loop-line.invariant c.in-Some.ensures.0 c.in-Some.ensures.1
    (sym c.eq.ensures ∙ c.if-eq.false)

pub returns : goal.returns
returns c = cut_none c.args.input.now c.loop-line.start _ c.loop-line.invariant refl c.in_default.ensures (sym c.eq-2.ensures ∙ c.if-eq-2.false)
