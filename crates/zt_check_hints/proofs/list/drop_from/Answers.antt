use Rattle.std.proofs.Common.{get_or, subst, sym, true, ◌≡◌}
use Rattle.zt_check_hints.proofs.Changed.{rest-removed}
use Rattle.zt_check_hints.specs.Hinted.{KeepsAllBut}
use Rattle.zt_check_hints.proofs.list.drop_from.Goals as goal

pub returns-then-is_at : goal.returns-then-is_at
returns-then-is_at g c =
    let hints = c.args.hints.now.items in
    let gone = g.H.Hint.alike c.args.gone.now in
    let at = c.near-place.result in
    let is : (d : g.row.H.Denot) → gone (get_or hints at d) ≡ true = λ d. rw c.as_slice-2.ensures.value at (c.is_at.ensures.alike d c.if-is_at.true) in
    subst (KeepsAllBut gone hints) (sym c.remove.ensures.items) (rest-removed gone hints at is)
