use Rattle.std.proofs.Common.{ℕ, Bool, ◌||◌, ap, sym, ◌∙◌}
use Rattle.std.proofs.lemmas.Result.{on_ok_weaker}
use Rattle.std.specs.List.{list_any}
use Rattle.zt_indexes.specs.Grouped.{as_list}
use Rattle.zt_interest_index.specs.Holdings.{is_among}
use Rattle.zt_interest_index.specs.Wilds.{asks_in}
use Rattle.zt_interest_index.proofs.Alike.{or_none}
use Rattle.zt_interest_index.proofs.wilds.gather_one.Goals as goal

pub returns-in-Some : goal.returns-in-Some
returns-in-Some g c =
    let asks : ℕ → g.row.K.Denot → Bool = λ n. asks_in g.K.Ord.cmp g.K.Key.matching c.args.expr.now n c.args.keyed.now.entries in
    on_ok_weaker c.gather_key.result
    (λ gathers n.
    gathers n
    ∙ ap (λ b. is_among n c.args.found.now.items || b) (or_none (asks n c.in-Some.key))
    ∙ ap (λ one. is_among n c.args.found.now.items || list_any (asks n) (as_list one)) (sym c.in-Some.is))
    c.gather_key.ensures
