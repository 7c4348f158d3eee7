use Rattle.std.proofs.Common.{◌≡◌, List, IfOk, ap, ap₂, map, subst, ◌∙◌}
use Rattle.zt_model.specs.Lists.{in_key_order}
use Rattle.zt_model.specs.Sourced.{PlainSources, SourcedRow, rows_sourced}
use Rattle.zt_model.specs.Strategy.{strategy_of}
use Rattle.zt_gateway.specs.Declarers.{plain_found, sources_of}
use Rattle.zt_gateway.proofs.Listed.{sourced_is}
use Rattle.zt_gateway.proofs.sourced.find_sources.Goals as goal

pub returns : goal.returns
returns g c =
    let cmp = g.K.Ord.cmp in
    let state = c.args.state.now in
    let all : List (SourcedRow g.row.K.Denot) = rows_sourced cmp (strategy_of state.mode c.args.region) state c.args.region in
    let exprs_of : List (SourcedRow g.row.K.Denot) → List g.row.K.Denot = λ rows. in_key_order cmp (map (λ row. row.expr) rows) in
    let listed : List (SourcedRow g.row.K.Denot) → List g.row.K.Denot → List (g.row.K.Denot × PlainSources) = λ rows exprs. map (λ e. (e, sources_of cmp rows e)) exprs in
    let first : c.as_slice.result.now ≡ all = c.as_slice.ensures.value ∙ c.in_ok-rows.ensures in
    let exprs : c.as_slice-2.result.now ≡ exprs_of all = c.as_slice-2.ensures.value ∙ (c.in_ok-exprs.ensures ∙ ap exprs_of first) in
    let rows : c.as_slice-3.result.now ≡ all = c.as_slice-3.ensures.value ∙ c.in_ok-rows.ensures in
    subst (λ (whole : List (g.row.K.Denot × PlainSources)). IfOk c.list_sources.result (λ found. plain_found found.items ≡ whole)) (ap₂ listed rows exprs ∙ sourced_is cmp state c.args.region) c.list_sources.ensures
