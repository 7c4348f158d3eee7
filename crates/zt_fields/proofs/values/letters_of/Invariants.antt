use Rattle.std.proofs.Common.{◌≡◌, drop}
use Rattle.zt_fields.proofs.values.letters_of.Given as goal
use Rattle.zt_fields.specs.Values.{letters_after}

-- the letters so far stand for the bits so far
abbrev pub invariant-loop-letter : goal.invariant-loop-letter
invariant-loop-letter l = letters_after 0 l.letters ≡ letters_after l.bits (drop l.letter-index l.letters)
