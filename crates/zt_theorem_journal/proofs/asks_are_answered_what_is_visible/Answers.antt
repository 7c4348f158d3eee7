use Rattle.zt_theorem_journal.proofs.Asked.{visible_found, visible_in_order}
use Rattle.zt_theorem_journal.proofs.asks_are_answered_what_is_visible.Goals as goal

pub returns-clause-visible : goal.returns-clause-visible
returns-clause-visible g c = visible_found g.K.Ord.cmp g.K.Key.matching

pub returns-clause-ordered : goal.returns-clause-ordered
returns-clause-ordered g c = visible_in_order g.K.Ord.cmp g.K.Key.matching g.met.K.Ord.total
