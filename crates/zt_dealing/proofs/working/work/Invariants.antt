use Rattle.zt_dealing.proofs.WorkLemmas.{HasWorked}
use Rattle.zt_dealing.proofs.working.work.Given as goal

-- the calls so far were made
abbrev pub invariant-loop-one : goal.invariant-loop-one
invariant-loop-one g l = HasWorked l.fn.job.pass l.pass l.yielded l.lines.items
