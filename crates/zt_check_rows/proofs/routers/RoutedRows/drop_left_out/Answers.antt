use Rattle.std.proofs.Common.{not, subst, sym}
use Rattle.zt_model.specs.Trees.{counted_table, is_left_out, routed_order}
use Rattle.zt_check_rows.specs.Routed.{Rises}
use Rattle.zt_check_rows.proofs.Ordered.{rises_filter}
use Rattle.zt_check_rows.proofs.RoutedOrder.{routed_total}
use Rattle.zt_check_rows.proofs.Routing.{routed_left}
use Rattle.zt_check_rows.proofs.routers.RoutedRows.drop_left_out.Goals as goal

pub invariant_of-self : goal.invariant_of-self
invariant_of-self g c = record {
  hinted =
      routed_left g.K.Ord.cmp c.args.region (counted_table c.args.table.now) c.self.inside.places c.forget_left_out.new.places c.self.inside.rows.items c.drop_left_out.new.rows.items c.forget_left_out.ensures c.drop_left_out.ensures c.self.invariant.hinted;
  rise =
      let order = routed_order g.K.Ord.cmp in
      subst (Rises order) (sym c.drop_left_out.ensures)
      (rises_filter order (routed_total g.K.Ord.cmp g.met.K.Ord.total) (λ row. not (is_left_out g.K.Ord.cmp c.args.region (counted_table c.args.table.now) row)) c.self.inside.rows.items c.self.invariant.rise);
}
