use Rattle.std.proofs.Common.{◌&&◌, Bool, ap, ◌∙◌}
use Rattle.std.specs.List.{list_any}
use Rattle.zt_region.specs.declared.region.Zid.{Zid}
use Rattle.zt_region.specs.Region.{zid_eq}
use Rattle.zt_link_state.proofs.kept.KeptTable.has_child.Goals as goal

pub returns : goal.returns
returns c =
    let test : Zid × Zid → Bool = λ x. zid_eq c.args.source x.0 && zid_eq c.args.router x.1 in
    rw (← c.self.view_is) (c.has_pair.ensures ∙ ap (list_any test) c.deref.ensures.value ∙ c.self.invariant.children_by_source.at c.args.source c.args.router)
