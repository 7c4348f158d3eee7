use Rattle.std.proofs.Common.{map}
use Rattle.zt_protocol.specs.Plain.{plain_line}
use Rattle.zt_check.proofs.JudgingLemmas.{IsUnderway}
use Rattle.zt_check.proofs.judging.judge_claim.Given as goal

-- the entries of the lines before were read, these are their totals, and this is the fabric that they show
abbrev pub invariant-loop-line : goal.invariant-loop-line
invariant-loop-line g l =
    IsUnderway g.K.Ord.cmp g.K.Key.matching g.K.Key.printed (map plain_line l.lines) l.claimed l.rest l.report l.line-index l.fabric
