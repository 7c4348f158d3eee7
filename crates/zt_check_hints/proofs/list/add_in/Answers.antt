use Rattle.std.proofs.Common.{ap, get_or, refl, subst, sym, ◌∙◌, ◌≡◌, ◌<◌, length}
use Rattle.zt_check_hints.proofs.Changed.{has-there, kept-inserted}
use Rattle.zt_check_hints.specs.Hinted.{KeepsAll}
use Rattle.zt_check_hints.proofs.list.add_in.Goals as goal

pub returns-then-is_at-clause-has : goal.returns-then-is_at-clause-has
returns-then-is_at-clause-has g c =
    let hints = c.args.hints.now.items in
    let at = c.near-place.result in
    let within : at < length hints = rw c.as_slice-2.ensures.value at (c.is_at.ensures.within c.if-is_at.true) in
    let same = rw c.as_slice-2.ensures.value at (c.is_at.ensures.alike c.args.hint c.if-is_at.true) in
    has-there c.args.hint hints at within (g.met.H.Hint.alike_is_same c.args.hint (get_or hints at c.args.hint) same)

pub returns-clause-kept : goal.returns-clause-kept
returns-clause-kept g c =
    subst (KeepsAll c.args.hints.now.items) (sym c.in_ok-insert.ensures.items) (kept-inserted c.args.hint c.args.hints.now.items c.near-place.result)
