use Rattle.zt_theorem_journal.proofs.Asked.{replayed_at}
use Rattle.zt_theorem_journal.proofs.entries_are_what_calls_come_to.Goals as goal

pub returns : goal.returns
returns g c = replayed_at g.K.Ord.cmp g.K.Key.matching
