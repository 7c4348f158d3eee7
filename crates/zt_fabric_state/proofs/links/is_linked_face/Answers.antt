use Rattle.std.proofs.Common.{◌&&◌, ap, is_some, ◌∙◌}
use Rattle.zt_model.specs.Linking.{is_end_of}
use Rattle.zt_model.specs.Places.{Link}
use Rattle.zt_fabric_state.proofs.Firsts.{some_copied, some_first}
use Rattle.zt_fabric_state.proofs.links.is_linked_face.Goals as goal

pub returns : goal.returns
returns g c =
    c.is_some.ensures
    ∙ some_copied c.open_link_of.result
    ∙ ap is_some c.open_link_of.ensures
    ∙ some_first (λ (link : Link). link.is_open && is_end_of c.args.face link) c.args.s.now.links
