use Rattle.std.proofs.Common.{◌≡◌, ◌++◌, true, false, ap, map, rules, ◌∙◌}
use Rattle.std.specs.List.{flat_map}
use Rattle.std.specs.Option.{option_to_list}
use Rattle.zt_protocol.specs.Interest.{has_aggregate}
use Rattle.zt_model.specs.Entities.{aggregate_of, all_merged, info_of, queryable_of}
use Rattle.zt_model.specs.Lists.{in_key_order}
use Rattle.zt_entities.proofs.Together.{answered_each, answered_together}
use Rattle.zt_entities.proofs.queryables.add_queryables_for.Goals as goal

pub returns-then-asks_aggregate : goal.returns-then-asks_aggregate
returns-then-asks_aggregate g c =
    let cmp = g.K.Ord.cmp in
    let rows = c.args.g.now in
    let old = c.args.sends.now.items in
    let found = c.in_ok-found.found.items in
    let so : has_aggregate c.args.interest.now.options ≡ true = search rules in
    c.in_ok-add_aggregate.ensures
    ∙ ap (λ k. old ++ map (λ m. (c.args.face, m)) (aggregate_of cmp k (all_merged (map (λ q. q.1) c.deref.result.now)) (queryable_of cmp rows c.args.id))) c.expr.ensures
    ∙ ap (λ qs. old ++ map (λ m. (c.args.face, m)) (aggregate_of cmp c.args.interest.now.expr (all_merged (map (λ q. q.1) qs)) (queryable_of cmp rows c.args.id))) c.deref.ensures.value
    ∙ ap (λ ms. old ++ map (λ m. (c.args.face, m)) ms)
    (answered_together cmp g.K.Key.matching rows c.args.id c.args.interest.now c.args.f.now found c.in_ok-found.ensures so)

pub returns : goal.returns
returns g c =
    let cmp = g.K.Ord.cmp in
    let rows = c.args.g.now in
    let old = c.args.sends.now.items in
    let found = c.in_ok-found.found.items in
    let not_so : has_aggregate c.args.interest.now.options ≡ false = search rules in
    c.in_ok-add_all.ensures
    ∙ ap (λ qs. old ++ map (λ m. (c.args.face, m)) (flat_map (λ e. map (queryable_of cmp rows c.args.id e) (option_to_list (info_of cmp e qs))) (in_key_order cmp (map (λ q. q.0) qs)))) c.deref-2.ensures.value
    ∙ ap (λ ms. old ++ map (λ m. (c.args.face, m)) ms)
    (answered_each cmp g.K.Key.matching rows c.args.id c.args.interest.now c.args.f.now found c.in_ok-found.ensures not_so)
