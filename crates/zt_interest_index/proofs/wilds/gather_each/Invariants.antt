use Rattle.std.proofs.Common.{◌≡◌, ℕ, Bool, ◌||◌}
use Rattle.std.specs.List.{list_any}
use Rattle.zt_interest_index.specs.Holdings.{is_among}
use Rattle.zt_interest_index.specs.Wilds.{asks_in}
use Rattle.zt_interest_index.proofs.wilds.gather_each.Given as goal

-- those found and those of the keys left are those found before and those of all keys
abbrev pub invariant-loop-key : goal.invariant-loop-key
invariant-loop-key g l =
    let asks : ℕ → g.row.K.Denot → Bool = λ n. asks_in g.K.Ord.cmp g.K.Key.matching l.expr n l.keyed.entries in
    (n : ℕ) → (is_among n l.found.items || list_any (asks n) l.key-iterator) ≡ (is_among n l.fn.found.items || list_any (asks n) l.more.keys)
