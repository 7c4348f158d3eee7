use Rattle.std.proofs.Common.{ap, ◌∙◌}
use Rattle.std.specs.List.{slice_get}
use Rattle.zt_model.specs.Rows.{Face}
use Rattle.zt_region.specs.Region.{is_north}
use Rattle.zt_links.proofs.Firsts.{first_kept}
use Rattle.zt_links.proofs.linking.north_face.Goals as goal

pub returns : goal.returns
returns g c =
    c.copied.ensures
    ∙ c.first.ensures.value
    ∙ ap (λ ns. slice_get ns 0) c.north.ensures.north
    ∙ first_kept (λ (f : Face g.row.K.Denot). is_north f.region) (λ f. f.number) c.args.rows.now.faces
