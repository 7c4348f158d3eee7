use Rattle.std.proofs.Common.{[], ap, unwrap_or, ◌∙◌}
use Rattle.zt_check_hints.proofs.Changed.{lookup-tied_by}
use Rattle.zt_check_hints.proofs.hints.Hints.at.Goals as goal

pub returns-in-Some : goal.returns-in-Some
returns-in-Some g c =
    rw (← c.self.view_is)
    (c.hints.ensures ∙ ap (λ o. unwrap_or o []) (c.in-Some.ensures.value ∙ lookup-tied_by g.K.Ord.cmp g.met.K.Ord.matches_eq c.args.expr.now c.self.inside.places.entries))
