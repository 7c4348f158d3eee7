use Rattle.zt_theorem_journal.proofs.Replay.{journal_comes}
use Rattle.zt_theorem_journal.proofs.journals_with_sessions_are_transcripts.Goals as goal

pub returns : goal.returns
returns g c = journal_comes g.K.Ord.cmp g.K.Key.matching g.met.K.Ord.total
