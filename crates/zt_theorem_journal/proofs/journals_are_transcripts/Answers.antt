use Rattle.zt_theorem_journal.proofs.Replay.{calls_come}
use Rattle.zt_theorem_journal.proofs.journals_are_transcripts.Goals as goal

pub returns : goal.returns
returns g c = calls_come g.K.Ord.cmp g.K.Key.matching g.met.K.Ord.total
