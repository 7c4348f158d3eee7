use Rattle.zt_theorem_journal.proofs.Order.{is_reordered}
use Rattle.zt_theorem_journal.proofs.dealt_scripts_are_reordered.Goals as goal

pub returns : goal.returns
returns g c = λ workers first calls journal line makings dealt. is_reordered workers first calls journal dealt g.K.Ord.cmp g.K.Key.matching line makings
