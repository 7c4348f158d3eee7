use Rattle.std.proofs.Common.{◌≡◌, ◌++◌, drop, take}
use Rattle.zt_samples.specs.Samples.{oldest_sample, without_sample}
use Rattle.zt_samples.proofs.taking.place_of_sample.Given as goal

-- the sample is none of those so far
abbrev pub invariant-loop-place : goal.invariant-loop-place
invariant-loop-place g l = record {
  oldest : oldest_sample l.session l.subscriber l.news ≡ oldest_sample l.session l.subscriber (drop l.place l.news);
  left : without_sample l.session l.subscriber l.news ≡ take l.place l.news ++ without_sample l.session l.subscriber (drop l.place l.news);
}
