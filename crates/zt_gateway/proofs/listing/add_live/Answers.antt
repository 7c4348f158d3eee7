use Rattle.std.proofs.Common.{ℕ, ◌∷◌, ◌++◌, [], map, refl, rules}
use Rattle.zt_model.specs.Sourced.{SourcedRow}
use Rattle.zt_gateway.proofs.Walks.{rest_done, rest_more}
use Rattle.zt_gateway.proofs.listing.add_live.Goals as goal

pub loop-expr-preserved : goal.loop-expr-preserved
loop-expr-preserved g c =
    let live = c.args.live.now in
    let row_of : ℕ × g.row.K.Denot → SourcedRow g.row.K.Denot = λ row. record { kind = c.args.kind; zid = c.args.zid; expr = row.1 } in
    rest_more (λ row. row_of row ∷ []) (map row_of) (λ x xs. refl) c.loop-expr.expr-iterator c.next.new.self (c.in-Some.field-0-0.now, c.in-Some.expr.now) c.loop-expr.rows.items c.push.new.self.items (c.args.rows.now.items ++ map row_of live) c.loop-expr.invariant c.in-Some.ensures.steps (search rules)

pub returns : goal.returns
returns g c =
    let live = c.args.live.now in
    let row_of : ℕ × g.row.K.Denot → SourcedRow g.row.K.Denot = λ row. record { kind = c.args.kind; zid = c.args.zid; expr = row.1 } in
    rest_done (map row_of) refl c.loop-expr.expr-iterator c.loop-expr.rows.items (c.args.rows.now.items ++ map row_of live) c.in-None.ensures.steps.0 c.loop-expr.invariant
