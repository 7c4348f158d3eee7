use Rattle.std.proofs.Common.{◌++◌, [], ◌∷◌, map, refl}
use Rattle.zt_gateway.specs.Declarers.{router_row}
use Rattle.zt_gateway.proofs.Walks.{rest_done, rest_more}
use Rattle.zt_gateway.proofs.listing.add_keys.Goals as goal

pub loop-expr-preserved : goal.loop-expr-preserved
loop-expr-preserved g c =
    let source = c.args.source in
    rest_more (λ e. router_row source e ∷ []) (map (router_row source)) (λ x xs. refl) c.loop-expr.expr-iterator c.next.new.self c.in-Some.expr.now c.loop-expr.rows.items c.push.new.self.items (c.args.rows.now.items ++ map (router_row source) c.args.keys.now.keys) c.loop-expr.invariant c.in-Some.ensures.steps (rw c.in_ok-copy.ensures at c.in_ok-push.ensures.items)

pub returns : goal.returns
returns g c =
    let source = c.args.source in
    rest_done (map (router_row source)) refl c.loop-expr.expr-iterator c.loop-expr.rows.items (c.args.rows.now.items ++ map (router_row source) c.args.keys.now.keys) c.in-None.ensures.steps.0 c.loop-expr.invariant
