use Rattle.std.proofs.Common.{◌≡◌, map}
use Rattle.zt_dealing.specs.Dealing.{apart, part}
use Rattle.zt_plans.specs.Plans.{numbered}
use Rattle.zt_dealing.proofs.dealing.part_of.Given as goal

-- the calls so far are parted
abbrev pub invariant-loop-one : goal.invariant-loop-one
invariant-loop-one g l = record {
  own : map numbered l.own.items ≡ part l.workers l.worker (map numbered l.yielded);
  others : map numbered l.others.items ≡ apart l.workers l.worker (map numbered l.yielded);
}
