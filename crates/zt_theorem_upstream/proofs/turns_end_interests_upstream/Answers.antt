use Rattle.zt_model.specs.Fabric.{empty_fabric}
use Rattle.zt_laws.proofs.LinesOrder.{in_order_empty}
use Rattle.zt_theorem_upstream.proofs.Lasting.{turns_end}
use Rattle.zt_theorem_upstream.proofs.turns_end_interests_upstream.Goals as goal

pub returns : goal.returns
returns g c = λ lines real. turns_end g.K.Ord.cmp g.K.Key.matching g.met.K.Ord.total lines empty_fabric real (in_order_empty g.K.Ord.cmp g.K.Key.matching) tt
