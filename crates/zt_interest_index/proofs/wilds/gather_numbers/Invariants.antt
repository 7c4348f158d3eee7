use Rattle.std.proofs.Common.{◌≡◌, ℕ, ◌||◌, Some, take}
use Rattle.std.specs.List.{list_any}
use Rattle.zt_indexes.specs.Grouped.{keys_at}
use Rattle.zt_interest_index.specs.Holdings.{is_among}
use Rattle.zt_interest_index.specs.Wilds.{asks_in}
use Rattle.zt_interest_index.proofs.wilds.gather_numbers.Given as goal

-- those at the numbers so far are found
abbrev pub invariant-loop-number : goal.invariant-loop-number
invariant-loop-number g l =
    (n : ℕ) → is_among n l.found.items ≡ (is_among n l.fn.found.items
    || list_any (λ number. list_any (asks_in g.K.Ord.cmp g.K.Key.matching l.expr n l.keyed.entries) (keys_at (Some number) l.wilds)) (take l.number-index l.numbers))
