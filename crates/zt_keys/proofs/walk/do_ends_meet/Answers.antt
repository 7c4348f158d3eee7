use Rattle.std.proofs.Common.{◌≡◌, true, sym, ◌∙◌}
use Rattle.std.proofs.lemmas.Bool.{false≢true}
use Rattle.zt_keys.specs.Meet.{no_match}
use Rattle.zt_keys.proofs.Ends.{meet-before}
use Rattle.zt_keys.proofs.walk.do_ends_meet.Goals as goal

pub returns-then-not-meets : goal.returns-then-not-meets
returns-then-not-meets c _ = no_match (λ m.
    let w = meet-before c.loop-before_a.a.now c.loop-before_a.b.now c.in-Some-Some.before_a.now c.in-Some-Some.before_b.now c.in-Some-Some.x.now c.in-Some-Some.y.now c.in-Some-Some.ensures.last c.in-Some-Some.ensures'.last (sym c.is_double.ensures ∙ c.if-is_double.false) (sym c.is_double-else-is_double.ensures ∙ c.if-is_double-2.false) (c.loop-before_a.invariant m) in
    false≢true (sym c.if-not-meets.true ∙ c.meets.ensures ∙ w.0))

pub loop-before_a-preserved : goal.loop-before_a-preserved
loop-before_a-preserved c m =
    (meet-before c.loop-before_a.a.now c.loop-before_a.b.now c.in-Some-Some.before_a.now c.in-Some-Some.before_b.now c.in-Some-Some.x.now c.in-Some-Some.y.now c.in-Some-Some.ensures.last c.in-Some-Some.ensures'.last (sym c.is_double.ensures ∙ c.if-is_double.false) (sym c.is_double-else-is_double.ensures ∙ c.if-is_double-2.false) (c.loop-before_a.invariant m)).1
