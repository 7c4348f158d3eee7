use Rattle.std.proofs.Common.{ℕ, Bool, ◌&&◌, ◌||◌, ap, sym, ◌∙◌}
use Rattle.std.proofs.lemmas.Result.{on_ok_weaker}
use Rattle.std.specs.List.{list_any}
use Rattle.zt_interest_index.specs.Holdings.{asks_from, is_among}
use Rattle.zt_interest_index.specs.Index.{rows_of}
use Rattle.zt_interest_index.proofs.Alike.{or_none}
use Rattle.zt_interest_index.proofs.wilds.gather_key.Goals as goal

pub returns-then-matches : goal.returns-then-matches
returns-then-matches g c =
    let asks : ℕ → Bool = λ n. list_any (asks_from g.K.Key.matching c.args.expr.now n) (rows_of g.K.Ord.cmp c.args.key.now c.args.keyed.now.entries) in
    on_ok_weaker c.gather_from.result
    (λ gathers n. gathers n ∙ ap (λ b. is_among n c.args.found.now.items || (b && asks n)) (sym (sym c.matches.ensures ∙ c.if-matches.true)))
    c.gather_from.ensures

pub returns-else-matches : goal.returns-else-matches
returns-else-matches g c n =
    let asks = list_any (asks_from g.K.Key.matching c.args.expr.now n) (rows_of g.K.Ord.cmp c.args.key.now c.args.keyed.now.entries) in
    or_none (is_among n c.args.found.now.items)
    ∙ ap (λ b. is_among n c.args.found.now.items || (b && asks)) (sym (sym c.matches.ensures ∙ c.if-matches.false))
