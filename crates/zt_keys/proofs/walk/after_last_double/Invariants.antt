use Rattle.std.proofs.Common.{◌≡◌, ◌≤◌, length}
use Rattle.std.specs.Option.{option_map, option_or, IfSome}
use Rattle.zt_keys.specs.Walking.{last_many, walked, walked_one}
use Rattle.zt_keys.proofs.walk.after_last_double.Given as goal

abbrev pub invariant-loop-rest : goal.invariant-loop-rest
invariant-loop-rest l = record {
  last : option_or (last_many (walked l.rest)) (option_map walked_one l.last) ≡ last_many (walked l.text);
  rest : length l.rest ≤ length l.text;
  shorter : IfSome l.last (λ behind. length behind.now ≤ length l.text);
}

abbrev pub decreases-loop-rest : goal.decreases-loop-rest
decreases-loop-rest l = length l.rest
