use Rattle.zt_check_rows.proofs.Routing.{routed_dropped}
use Rattle.zt_check_rows.proofs.routers.RoutedRows.drop_row.Goals as goal

pub invariant_of-self : goal.invariant_of-self
invariant_of-self g c = record {
  hinted =
      routed_dropped g.K.Ord.cmp g.met.K.Key.laws.equal_is_same c.args.gone.now c.place_of-place.result c.expr.result.now c.self.inside.places c.drop_alike.new.self c.self.inside.rows.items c.drop_routed.new.rows.items c.place_of-place.ensures c.expr.ensures c.drop_alike.ensures.kept c.drop_alike.ensures.others c.drop_routed.ensures.gone c.self.invariant.hinted;
  rise = c.drop_routed.ensures.rise;
}
