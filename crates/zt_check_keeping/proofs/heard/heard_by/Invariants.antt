use Rattle.std.proofs.Common.{◌≡◌, ◌++◌, drop}
use Rattle.zt_check_keeping.specs.Heard.{heard_by}
use Rattle.zt_check_keeping.proofs.heard.heard_by.Given as goal

-- those so far, and those that are left, are all
abbrev pub invariant-loop-sent : goal.invariant-loop-sent
invariant-loop-sent g l =
    l.tokens.items ++ heard_by l.fabric (drop l.sent-index l.sents) ≡ heard_by l.fabric l.sents
