use Rattle.std.proofs.Common.{◌<◌, ◌≤◌, ◌∷◌, [], arith, length, map, refl}
use Rattle.zt_model.specs.Sourced.{PlainSources}
use Rattle.zt_gateway.specs.Declarers.{plain_found, sources_of}
use Rattle.zt_gateway.proofs.Walks.{walk_done, walk_more}
use Rattle.zt_gateway.proofs.sourced.list_sources.Goals as goal

pub loop-expr-preserved : goal.loop-expr-preserved
loop-expr-preserved g c =
    let exprs = c.args.exprs.now in
    let with_sources : g.row.K.Denot → g.row.K.Denot × PlainSources = λ e. (e, sources_of g.K.Ord.cmp c.args.rows.now e) in
    let within : c.loop-expr.expr-index < length exprs = omega arith in
    walk_more (λ e. with_sources e ∷ []) (map with_sources) (λ x xs. refl) exprs c.loop-expr.expr-index c.expr-item.result (plain_found c.loop-expr.found.items) (plain_found c.add_sources.new.found.items) (map with_sources exprs) within c.expr-item.is c.loop-expr.invariant c.in_ok-add_sources.ensures

pub returns : goal.returns
returns g c =
    let exprs = c.args.exprs.now in
    let with_sources : g.row.K.Denot → g.row.K.Denot × PlainSources = λ e. (e, sources_of g.K.Ord.cmp c.args.rows.now e) in
    let past : length exprs ≤ c.loop-expr.expr-index = omega arith in
    walk_done (map with_sources) refl exprs c.loop-expr.expr-index (plain_found c.loop-expr.found.items) (map with_sources exprs) past c.loop-expr.invariant
