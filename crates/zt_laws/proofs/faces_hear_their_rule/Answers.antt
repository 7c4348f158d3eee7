use Rattle.zt_laws.proofs.Hearing.{rows_heard-to_each, rows_heard-to_face}
use Rattle.zt_laws.proofs.faces_hear_their_rule.Goals as goal

pub returns : goal.returns
returns g c = record {
  each = λ rule rows rises. rows_heard-to_each g.K.Ord.cmp 1 rule rows rises;
  one = λ n rule rows rises. rows_heard-to_face g.K.Ord.cmp 1 n rule rows rises;
}
