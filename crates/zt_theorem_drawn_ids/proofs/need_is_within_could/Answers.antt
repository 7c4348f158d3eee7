use Rattle.zt_theorem_drawn_ids.proofs.Within.{need_within_could, spends_could}
use Rattle.zt_theorem_drawn_ids.proofs.need_is_within_could.Goals as goal

pub returns : goal.returns
returns g c = record {
  each = λ call rows spent sound. need_within_could g.K.Ord.cmp g.K.Key.matching g.met.K.Ord.total g.met.K.Key.laws.equal_is_same call rows spent sound;
  spends = λ call rows spent sound draws short. spends_could g.K.Ord.cmp g.K.Key.matching g.met.K.Ord.total g.met.K.Key.laws.equal_is_same call rows draws (need_within_could g.K.Ord.cmp g.K.Key.matching g.met.K.Ord.total g.met.K.Key.laws.equal_is_same call rows spent sound) short;
}
