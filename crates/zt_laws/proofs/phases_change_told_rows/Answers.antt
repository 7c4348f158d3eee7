use Rattle.zt_laws.proofs.Forgetting.{heard_forget}
use Rattle.zt_laws.proofs.Interests.{heard_answers}
use Rattle.zt_laws.proofs.Telling.{heard_tell}
use Rattle.zt_laws.proofs.phases_change_told_rows.Goals as goal

pub returns : goal.returns
returns g c = record {
  telling = λ now rows source e f ordered. heard_tell g.K.Ord.cmp g.K.Key.matching now rows source e f ordered;
  forgetting = λ now rows source e f ordered. heard_forget g.K.Ord.cmp g.met.K.Ord.total g.K.Key.matching now rows source e f ordered;
  answering = λ now id mode es f ordered. (heard_answers g.K.Ord.cmp g.K.Key.matching now mode id es f ordered).0;
}
