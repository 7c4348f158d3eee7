use Rattle.std.proofs.Common.{◌≡◌, ◌++◌, drop, flat_map}
use Rattle.zt_tokens.specs.Walks.{given_at, sent_to}
use Rattle.zt_tokens.proofs.walking.say_at.Given as goal

-- what is sent so far, and to the numbers left, is all
abbrev pub invariant-loop-number : goal.invariant-loop-number
invariant-loop-number g l =
    let given = given_at (sent_to (g.R.FaceRule.given l.rule l.g)) l.g.faces in
    l.sends.items ++ flat_map given (drop l.number-index l.numbers) ≡ flat_map given l.numbers
