use Rattle.std.proofs.Common.{◌≡◌, [], map, vec_len}
use Rattle.zt_laws.specs.Sound.{EachFrom}
use Rattle.zt_dealing.specs.Dealing.{HasMade, IsJob}
use Rattle.zt_plans.specs.Plans.{numbered}
use Rattle.zt_dealing.proofs.DealLemmas.{left_from}
use Rattle.zt_dealing.proofs.dealing.deal.Given as goal

-- the workers before have their jobs, the pass is the next one's, and the calls of those behind are left
abbrev pub invariant-loop-worker : goal.invariant-loop-worker
invariant-loop-worker g l = record {
  jobs : EachFrom (IsJob l.shared l.fn.first.opening l.workers (map numbered l.fn.calls.items)) 0 l.jobs.items;
  long : vec_len l.jobs ≡ l.worker;
  pass : HasMade l.shared l.fn.first.opening l.worker [] l.pass;
  rest : map numbered l.rest.items ≡ left_from l.workers l.worker (map numbered l.fn.calls.items);
}
