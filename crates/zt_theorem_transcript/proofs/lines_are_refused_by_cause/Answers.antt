use Rattle.zt_theorem_transcript.proofs.Lacking.{turns_lack_by_call, turns_refused_by_cause}
use Rattle.zt_theorem_transcript.proofs.lines_are_refused_by_cause.Goals as goal

pub returns : goal.returns
returns g c = record {
  causes = λ lines s real sound. turns_refused_by_cause g.K.Ord.cmp g.K.Key.matching g.met.K.Ord.total g.met.K.Key.laws.equal_is_same lines s real sound;
  ids = λ lines s real sound. turns_lack_by_call g.K.Ord.cmp g.K.Key.matching g.met.K.Ord.total g.met.K.Key.laws.equal_is_same lines s real sound;
}
