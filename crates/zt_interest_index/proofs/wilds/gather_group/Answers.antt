use Rattle.std.proofs.Common.{ℕ, Bool, ◌||◌, ap, refl, sym, ◌∙◌}
use Rattle.std.proofs.lemmas.List.Folds.{list_any-append}
use Rattle.std.proofs.lemmas.Result.{on_ok_weaker}
use Rattle.std.specs.List.{list_any}
use Rattle.zt_indexes.specs.Grouped.{as_list}
use Rattle.zt_interest_index.specs.Holdings.{is_among}
use Rattle.zt_interest_index.specs.Wilds.{asks_in}
use Rattle.zt_interest_index.proofs.InOrder.{or_rest}
use Rattle.zt_interest_index.proofs.wilds.gather_group.Goals as goal

pub returns : goal.returns
returns g c =
    let asks : ℕ → g.row.K.Denot → Bool = λ n. asks_in g.K.Ord.cmp g.K.Key.matching c.args.expr.now n c.args.keyed.now.entries in
    let one = as_list c.parts.result.0.now in
    let more = c.parts.result.1.now in
    on_ok_weaker c.gather_more.result
    (λ added n.
    added n
    ∙ ap (λ b. b || list_any (asks n) more) (c.in_ok-gather_one.ensures n)
    ∙ or_rest (is_among n c.args.found.now.items) (list_any (asks n) one) _ _ refl
    ∙ ap (λ b. is_among n c.args.found.now.items || b) (sym (list_any-append (asks n) one more) ∙ ap (list_any (asks n)) (sym c.parts.ensures)))
    c.gather_more.ensures
