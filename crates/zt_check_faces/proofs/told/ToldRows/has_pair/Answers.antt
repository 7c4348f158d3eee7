use Rattle.std.proofs.Common.{ap, sym, false, rules, ◌≡◌, ◌==◌, ◌∙◌}
use Rattle.std.specs.List.{list_any}
use Rattle.zt_check_faces.proofs.Hinting.{pair-none}
use Rattle.zt_check_faces.proofs.told.ToldRows.has_pair.Goals as goal

pub returns-then-not-has_hint : goal.returns-then-not-has_hint
returns-then-not-has_hint g c =
    let none : c.has_hint.result ≡ false = search rules in
    rw (← c.self.view_is)
    (pair-none g.K.Ord.cmp c.args.id c.self.inside.ids c.self.inside.rows.items c.args.expr.now c.self.invariant.hinted
    (ap (list_any (λ hint. c.args.id == hint)) (sym c.at.ensures) ∙ sym c.has_hint.ensures ∙ none))
