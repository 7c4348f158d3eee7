use Rattle.std.proofs.Common.{◌≡◌, ◌++◌, ◌==◌, [], ◌∷◌, filter, not}
use Rattle.std.specs.List.{list_any}
use Rattle.std.specs.Vec.Iter.{into_iter_items, into_iter_len}
use Rattle.zt_links.proofs.unlinking.add_others.Given as goal

-- what is kept so far, and what is left, is all
abbrev pub invariant-loop-message : goal.invariant-loop-message
invariant-loop-message g l =
    l.kept.items ++ filter (λ m. not (list_any (λ face. face == m.face) (l.one ∷ l.two ∷ []))) (into_iter_items l.rest)
    ≡ l.fn.kept.items ++ filter (λ m. not (list_any (λ face. face == m.face) (l.one ∷ l.two ∷ []))) l.fn.sent.items

abbrev pub decreases-loop-message : goal.decreases-loop-message
decreases-loop-message g l = into_iter_len l.rest
