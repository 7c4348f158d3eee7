use Rattle.std.proofs.Common.{map, refl, ap, sym, ◌∙◌, subst}
use Rattle.zt_locals.specs.Ending.{unasked}
use Rattle.zt_locals.specs.Resources.{IsSound}
use Rattle.zt_locals.proofs.Aggregates.{sound_unasked}
use Rattle.zt_locals.proofs.ending.end_simple_interest.Goals as goal

pub returns : goal.returns
returns g c =
    let kept = rw c.deref.ensures.value at c.drop_going.ensures in
    let is = c.unask_each.ensures ∙ ap (map (unasked c.args.id)) kept in
    record {
      simple = is;
      aggregated = refl;
      sound = subst (λ l. IsSound g.Res.Ord.cmp g.Res.LocalResourceTrait.matching g.Info.LocalResourceInfoTrait.aggregating l c.args.body.now.aggregated.items) (sym is)
          (sound_unasked g.Res.Ord.cmp g.Res.LocalResourceTrait.matching g.Info.LocalResourceInfoTrait.aggregating c.args.id c.args.body.now.simple.items c.args.body.now.aggregated.items c.requires);
    }
