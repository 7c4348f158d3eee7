use Rattle.zt_laws.proofs.Registering.{declared_again}
use Rattle.zt_laws.proofs.effects.repeats_change_no_row.Goals as goal

pub returns : goal.returns
returns g c = λ n id node e live interest f rows ordered found at_ same_. declared_again g.K.Ord.cmp g.K.Key.matching g.met.K.Ord.total g.met.K.Key.laws.equal_is_same n id node e live interest f rows ordered.lists found at_ same_
