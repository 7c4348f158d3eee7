use Rattle.zt_theorem_answers.proofs.AtOnce.{answered_at_once}
use Rattle.zt_theorem_answers.proofs.interests_are_answered_at_once.Goals as goal

pub returns : goal.returns
returns g c = λ n id mode options e f rows found. answered_at_once g.K.Ord.cmp g.K.Key.matching n id mode options e f rows found
