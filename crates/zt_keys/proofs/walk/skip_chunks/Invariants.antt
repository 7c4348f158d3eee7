use Rattle.std.proofs.Common.{◌≡◌, ◌≤◌, length, drop}
use Rattle.zt_keys.specs.Walking.{walked}
use Rattle.zt_keys.proofs.walk.skip_chunks.Given as goal

abbrev pub invariant-loop : goal.invariant-loop
invariant-loop l = record {
  rest : walked l.rest ≡ drop l.counter (walked l.text);
  shorter : length l.rest ≤ length l.text;
}
