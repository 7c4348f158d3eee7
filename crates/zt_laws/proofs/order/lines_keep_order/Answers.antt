use Rattle.zt_laws.proofs.AllLines.{in_order_after_line}
use Rattle.zt_laws.proofs.LinesOrder.{in_order_empty}
use Rattle.zt_laws.proofs.order.lines_keep_order.Goals as goal

pub returns : goal.returns
returns g c = record {
  start = in_order_empty g.K.Ord.cmp g.K.Key.matching;
  step = λ line s real fine. in_order_after_line g.K.Ord.cmp g.K.Key.matching g.met.K.Ord.total line s real fine;
}
