use Rattle.std.proofs.Common.{◌≡◌, ◌≤◌, length, drop}
use Rattle.zt_keys.specs.Walking.{width, walked}
use Rattle.zt_keys.proofs.walk.after_segment.Given as goal

abbrev pub invariant-loop-chunk : goal.invariant-loop-chunk
invariant-loop-chunk l = record {
  segment : drop (width (walked l.rest)) (walked l.rest) ≡ drop (width (walked l.text)) (walked l.text);
  shorter : length l.rest ≤ length l.text;
}

abbrev pub decreases-loop-chunk : goal.decreases-loop-chunk
decreases-loop-chunk l = length l.rest
