use Rattle.zt_theorem_transcript.proofs.Whole.{turns_are_entries}
use Rattle.zt_theorem_transcript.proofs.entries_are_right.Goals as goal

pub returns : goal.returns
returns g c = λ lines s real named fine all. turns_are_entries g.K.Ord.cmp g.K.Key.matching g.met.K.Ord.total lines s real named fine all
