use Rattle.std.proofs.Common.{subst, sym}
use Rattle.zt_model.specs.Rows.{Face}
use Rattle.zt_token_index.proofs.ToldAt.{count-told, ids-told}
use Rattle.zt_state.specs.Told.{AreToldIds}
use Rattle.zt_token_index.specs.Told.{AreRising}
use Rattle.zt_state.proofs.Sought.{numbers-sorted}
use Rattle.zt_state.proofs.gateway.GatewayState.told_at.Goals as goal

pub returns-clause-told : goal.returns-clause-told
returns-clause-told g c =
    let s = c.self.inside in
    let e = c.args.expr.now in
    let sorted = numbers-sorted (λ (x : Face g.row.K.Denot). x.number) s.faces c.self.invariant.rising in
    let are = c.self.invariant.seekers in
    let in_order = subst AreRising c.told_at.ensures.pairs c.told_at.ensures.in_order in
    rw (← c.self.view_is)
    (subst (λ pairs. AreToldIds g.K.Ord.cmp e pairs s.faces) (sym c.told_at.ensures.pairs) (record {
      ids = ids-told g.K.Ord.cmp e g.K.Key.anchored s.seekers s.faces sorted are;
      count = count-told g.K.Ord.cmp e g.K.Key.anchored s.seekers s.faces sorted are in_order;
    }))
