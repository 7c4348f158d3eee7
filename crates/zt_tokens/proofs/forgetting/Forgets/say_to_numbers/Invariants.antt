use Rattle.std.proofs.Common.{◌≡◌, ◌≤◌, ◌++◌, drop, filter, flat_map, length, take}
use Rattle.zt_tokens.specs.Gone.{forget_told}
use Rattle.zt_tokens.specs.Walks.{given_at, is_told_at, sent_to}
use Rattle.zt_tokens.proofs.forgetting.Forgets.say_to_numbers.Given as goal

-- what is said so far, and to the numbers left, is all; so many of the faces so far were told the expression
abbrev pub invariant-loop-number : goal.invariant-loop-number
invariant-loop-number g l =
    let given = given_at (sent_to (forget_told g.K.Ord.cmp g.K.Key.matching l.self.is_gone l.g l.self.source l.self.expr.now l.self.told.now)) l.g.faces in
    record {
      said : l.sends.items ++ flat_map given (drop l.number-index l.numbers) ≡ flat_map given l.numbers;
      counted : l.count ≡ length (filter (is_told_at l.self.told.now l.g.faces) (take l.number-index l.numbers));
      few : l.count ≤ l.number-index;
    }
