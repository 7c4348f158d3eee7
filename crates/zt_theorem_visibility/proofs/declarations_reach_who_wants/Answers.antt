use Rattle.zt_theorem_visibility.proofs.Reaching.{plain_reach, routed_reach}
use Rattle.zt_theorem_visibility.proofs.declarations_reach_who_wants.Goals as goal

pub returns : goal.returns
returns g c = record {
  plain = λ n id node e interest f rows ordered found plain registers_. plain_reach g.K.Ord.cmp g.K.Key.matching g.met.K.Ord.total n id node e interest f rows ordered found plain registers_;
  routed = λ spent n id node e interest f rows ordered accepted found routed. routed_reach g.K.Ord.cmp g.K.Key.matching g.met.K.Ord.total spent n id node e interest f rows ordered accepted found routed;
}
