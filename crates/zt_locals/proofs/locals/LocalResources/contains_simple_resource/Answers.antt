use Rattle.std.proofs.Common.{◌∙◌, ap, is_ok}
use Rattle.zt_ordered.specs.Rows.{place}
use Rattle.zt_locals.proofs.Arms.{place_found}
use Rattle.zt_locals.proofs.locals.LocalResources.contains_simple_resource.Goals as goal

pub returns-clause-found : goal.returns-clause-found
returns-clause-found g c =
    rw (← c.self.view_is)
    (c.is_ok.ensures.value
    ∙ ap is_ok (c.place_of.ensures.place ∙ ap (place g.Res.Ord.cmp c.args.key.now) c.deref.ensures.value)
    ∙ place_found g.Res.Ord.cmp g.met.Res.Ord.total c.args.key.now c.self.inside.body.simple.items c.self.invariant.simple_in_order)
