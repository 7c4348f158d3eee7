use Rattle.std.proofs.Common.{◌≡◌, ℕ, ◌||◌, IfSome, take}
use Rattle.std.specs.List.{list_any}
use Rattle.zt_interest_index.specs.Holdings.{asks_from, is_about, is_among}
use Rattle.zt_interest_index.proofs.holdings.gather_in.Given as goal

-- those so far are found, and of the one that was tried last it is known whether it is about the key
abbrev pub invariant-loop-row : goal.invariant-loop-row
invariant-loop-row g l = record {
  found : (n : ℕ) → is_among n l.found.items ≡ (is_among n l.fn.found.items || list_any (asks_from g.K.Key.matching l.expr n) (take l.row-index l.rows));
  tried : IfSome l.tried (λ t. t.is_about ≡ is_about g.K.Key.matching t.about.now l.expr);
}
