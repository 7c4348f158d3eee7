use Rattle.zt_theorem_visibility.proofs.Exact.{turns_keep}
use Rattle.zt_theorem_transcript.proofs.Order.{entries_in_order}
use Rattle.zt_theorem_transcript.proofs.entries_stand_in_order.Goals as goal

pub returns : goal.returns
returns g c = record {
  keeps = λ lines s real sound. turns_keep g.K.Ord.cmp g.K.Key.matching g.met.K.Ord.total g.met.K.Key.laws.equal_is_same lines s real sound;
  in_order = λ lines s real sound. entries_in_order g.K.Ord.cmp g.K.Key.matching g.met.K.Ord.total lines s real sound.order;
}
