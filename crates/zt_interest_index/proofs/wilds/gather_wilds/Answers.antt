use Rattle.std.proofs.Common.{◌≡◌, [], ℕ, Bool, ◌||◌, None, Some, ap, false, sym, ◌∙◌}
use Rattle.std.proofs.lemmas.Result.{on_ok_weaker}
use Rattle.std.specs.List.{list_any}
use Rattle.zt_indexes.specs.Grouped.{keys_at}
use Rattle.zt_interest_index.specs.Holdings.{is_among}
use Rattle.zt_interest_index.specs.Wilds.{asks_in}
use Rattle.zt_interest_index.proofs.Alike.{or_none}
use Rattle.zt_interest_index.proofs.Kept.{none-pass}
use Rattle.zt_interest_index.proofs.wilds.gather_wilds.Goals as goal

pub returns-then-not-has_numbers : goal.returns-then-not-has_numbers
returns-then-not-has_numbers g c n =
    let asks : g.row.K.Denot → Bool = asks_in g.K.Ord.cmp g.K.Key.matching c.args.expr.now n c.args.keyed.now.entries in
    let these : ℕ → Bool = λ number. list_any asks (keys_at (Some number) c.args.wilds.now) in
    let none : (number : ℕ) → keys_at (Some number) c.args.wilds.now ≡ [] = c.has_numbers.ensures c.if-not-has_numbers.true in
    c.in_ok-gather_group.ensures n
    ∙ ap (λ keys. is_among n c.args.found.now.items || list_any asks keys) c.free.ensures
    ∙ or_none (is_among n c.args.found.now.items || list_any asks (keys_at None c.args.wilds.now))
    ∙ ap (λ b. (is_among n c.args.found.now.items || list_any asks (keys_at None c.args.wilds.now)) || b)
    (sym (none-pass these (λ number. ap (list_any asks) (none number)) (g.K.Key.numbered c.args.expr.now)))

pub returns : goal.returns
returns g c =
    let asks : ℕ → g.row.K.Denot → Bool = λ n. asks_in g.K.Ord.cmp g.K.Key.matching c.args.expr.now n c.args.keyed.now.entries in
    let these : ℕ → ℕ → Bool = λ n number. list_any (asks n) (keys_at (Some number) c.args.wilds.now) in
    on_ok_weaker c.gather_numbers.result
    (λ added n.
    added n
    ∙ ap (λ b. b || list_any (these n) c.deref.result.now) (c.in_ok-gather_group.ensures n ∙ ap (λ keys. is_among n c.args.found.now.items || list_any (asks n) keys) c.free.ensures)
    ∙ ap (λ b. (is_among n c.args.found.now.items || list_any (asks n) (keys_at None c.args.wilds.now)) || b) (ap (list_any (these n)) c.deref.ensures.value ∙ c.in_ok-numbers.ensures (these n)))
    c.gather_numbers.ensures
