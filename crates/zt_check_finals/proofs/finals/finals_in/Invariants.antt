use Rattle.std.proofs.Common.{◌≡◌, ◌+◌, ◌≤◌, drop}
use Rattle.zt_check_finals.specs.Finishing.{finals_from}
use Rattle.zt_check_finals.proofs.finals.finals_in.Given as goal

-- those so far are counted, and no more than were looked at
abbrev pub invariant-loop-sent : goal.invariant-loop-sent
invariant-loop-sent g l = record {
  so_far : l.count + finals_from l.id l.number (drop l.sent-index l.sents) ≡ finals_from l.id l.number l.sents;
  few : l.count ≤ l.sent-index;
}
