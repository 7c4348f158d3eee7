use Rattle.std.proofs.Common.{sym, ap, ◌∙◌}
use Rattle.std.specs.Option.{option_map}
use Rattle.zt_keys.specs.Walking.{walked_one, walked_two}
use Rattle.zt_keys.proofs.Turns.{front-none, front-ended, turn-first, turn-second, says-none, says-some}
use Rattle.zt_keys.proofs.walk.walk_all.Goals as goal
use Rattle.zt_keys.proofs.walk.walk_all.Goals.{in-Some-after_double, in_default-after_double+in-Some-after_double-2}

pub returns-in_default-after_double-2 : goal.returns-in_default-after_double-2
returns-in_default-after_double-2 c =
    front-ended _ _ _ _ _ c.loop-x.invariant c.in-Some.ensures.rest
    (ap (option_map walked_one) (sym c.in_default-after_double.is) ∙ c.after_double.ensures.rest)
    (ap (option_map walked_one) (sym c.in_default-after_double-2.is) ∙ c.after_double-in_default-after_double.ensures.rest)

pub returns-in_default-passed : goal.returns-in_default-passed
returns-in_default-passed c =
    elim c.match-after_double.branch [
      | in-Some-after_double w ↦ says-none w.pass_double-passed.result _ _ w.passed-is c.in_default-passed.is (turn-first w.pass_double-passed.result _ _ _ _ _ _ c.loop-x.invariant c.in-Some.ensures.rest w.in-Some-after_double.ensures.rest w.pass_double-passed.ensures.rest)
      | in_default-after_double+in-Some-after_double-2 w ↦ says-none w.pass_double.result _ _ w.passed-is c.in_default-passed.is (turn-second w.pass_double.result _ _ _ _ _ _ c.loop-x.invariant c.in-Some.ensures.rest w.in-Some-after_double-2.ensures.rest w.pass_double.ensures.rest)
    ]

pub loop-x-preserved : goal.loop-x-preserved
loop-x-preserved c =
    elim c.match-after_double.branch [
      | in-Some-after_double w ↦ says-some w.pass_double-passed.result _ _ _ w.passed-is c.in-Some-passed.is (turn-first w.pass_double-passed.result _ _ _ _ _ _ c.loop-x.invariant c.in-Some.ensures.rest w.in-Some-after_double.ensures.rest w.pass_double-passed.ensures.rest)
      | in_default-after_double+in-Some-after_double-2 w ↦ says-some w.pass_double.result _ _ _ w.passed-is c.in-Some-passed.is (turn-second w.pass_double.result _ _ _ _ _ _ c.loop-x.invariant c.in-Some.ensures.rest w.in-Some-after_double-2.ensures.rest w.pass_double.ensures.rest)
    ]

pub returns : goal.returns
returns c = front-none _ _ _ c.loop-x.invariant (ap (option_map walked_two) (sym c.in_default.is) ∙ c.walk.ensures.rest)
