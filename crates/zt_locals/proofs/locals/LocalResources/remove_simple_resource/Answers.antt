use Rattle.zt_locals.proofs.Arms.{sound_either, same_either}
use Rattle.zt_locals.proofs.locals.LocalResources.remove_simple_resource.Goals as goal

pub invariant_of-self : goal.invariant_of-self
invariant_of-self g c =
    let says = c.remove_simple.ensures in
    sound_either g.Res.Ord.cmp g.Res.LocalResourceTrait.matching g.Info.LocalResourceInfoTrait.aggregating c.self.inside.body.simple.items _ c.self.inside.body.aggregated.items _ c.remove_simple.result says.sound says.err_simple says.err_aggregated c.self.invariant

pub returns-clause-results : goal.returns-clause-results
returns-clause-results g c = rw (← c.self.view_is) c.remove_simple.ensures.results

pub returns-clause-err : goal.returns-clause-err
returns-clause-err g c =
    let says = c.remove_simple.ensures in
    rw (← c.self.view_is) (same_either c.self.inside.body.simple.items _ c.self.inside.body.aggregated.items _ c.remove_simple.result says.err_simple says.err_aggregated)

pub returns-clause-sound : goal.returns-clause-sound
returns-clause-sound g c =
    let says = c.remove_simple.ensures in
    sound_either g.Res.Ord.cmp g.Res.LocalResourceTrait.matching g.Info.LocalResourceInfoTrait.aggregating c.self.inside.body.simple.items _ c.self.inside.body.aggregated.items _ c.remove_simple.result says.sound says.err_simple says.err_aggregated c.self.invariant
