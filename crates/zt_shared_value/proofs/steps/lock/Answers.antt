use Rattle.std.proofs.Common.{rules, sym, ◌∙◌, subst}
use Rattle.zt_shared_value.specs.Seats.{IsFree}
use Rattle.zt_shared_value.proofs.Allowed.{locks_at, tells_same, tells_other}
use Rattle.zt_shared_value.proofs.steps.lock.Goals as goal

pub compare_exchange-requires : goal.compare_exchange-requires
compare_exchange-requires g c = let free : IsFree c.loop.seat.me = subst IsFree (sym c.loop.invariant.1) c.requires.free in
    (search rules, search rules, locks_at _ _ _ _ _ _ _ free)

pub returns-then-compare_exchange-eq0-clause-taken : goal.returns-then-compare_exchange-eq0-clause-taken
returns-then-compare_exchange-eq0-clause-taken g c = λ p is.
    tells_same c.compare_exchange.result 0 _ _ c.if-compare_exchange-eq0.true (c.compare_exchange.ensures.2 p (c.loop.invariant.1 ∙ is))

pub loop-preserved : goal.loop-preserved
loop-preserved g c = let free = c.requires.free in let told = c.compare_exchange.ensures in let before = c.loop.invariant in
    ((told.0 ∙ before.0.0, told.1 ∙ before.0.1), tells_other c.compare_exchange.result 0 _ _ c.if-compare_exchange-eq0.false (told.2 free.0 (before.1 ∙ free.1)) ∙ sym free.1)
