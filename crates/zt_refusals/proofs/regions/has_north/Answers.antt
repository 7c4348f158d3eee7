use Rattle.std.proofs.Common.{◌==◌, ap, length, not, ◌∙◌}
use Rattle.zt_region.specs.Region.{is_north}
use Rattle.zt_refusals.proofs.Passing.{some_pass}
use Rattle.zt_refusals.proofs.regions.has_north.Goals as goal

pub returns : goal.returns
returns g c =
    ap not (c.is_empty.ensures ∙ ap (λ numbers. length numbers == 0) c.north.ensures.north)
    ∙ some_pass (λ f. f.number) (λ f. is_north f.region) c.args.g.now.faces
