use Rattle.zt_laws.proofs.CallsOrder.{in_order_after_any, in_order_after_call}
use Rattle.zt_laws.proofs.order.calls_keep_order.Goals as goal

pub returns : goal.returns
returns g c = record {
  accepted = λ call rows real ordered. in_order_after_call g.K.Ord.cmp g.K.Key.matching g.met.K.Ord.total call rows real ordered;
  any = λ call rows real ordered. in_order_after_any g.K.Ord.cmp g.K.Key.matching g.met.K.Ord.total call rows real ordered;
}
