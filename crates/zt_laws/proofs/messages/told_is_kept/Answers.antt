use Rattle.zt_laws.proofs.Keeping.{heard_leaves_rest, kept_pairs, next_is_sent, told_alone}
use Rattle.zt_laws.proofs.messages.told_is_kept.Goals as goal

pub returns : goal.returns
returns g c = record {
  pairs = λ now id e ms f. kept_pairs g.K.Ord.cmp g.met.K.Ord.total now id e ms f;
  next = λ now ms f. next_is_sent g.K.Ord.cmp now ms f;
  alone = λ now ms f. told_alone g.K.Ord.cmp now ms f;
  rest = λ now ms f. heard_leaves_rest g.K.Ord.cmp now ms f;
}
