use Rattle.std.proofs.Common.{◌≡◌, ◌++◌, map, take, string_bytes}
use Rattle.zt_watchers.specs.Text.{plain_poll, polls_text}
use Rattle.zt_watchers.proofs.printing.write_polls.Given as goal

-- the lines of the polls so far were added
abbrev pub invariant-loop-poll : goal.invariant-loop-poll
invariant-loop-poll g l = string_bytes l.text ≡ string_bytes l.fn.text ++ polls_text g.K.Key.printed (map plain_poll (take l.poll-index l.polls))
