use Rattle.std.proofs.Common.{sym, ◌∙◌}
use Rattle.zt_protocol.specs.Plain.{plain_call}
use Rattle.zt_gateway.proofs.Accepted.{face_is_made}
use Rattle.zt_gateway.proofs.gateway.Gateway.make_face.Goals as goal

pub unreachable-requires : goal.unreachable-requires
unreachable-requires g c =
    face_is_made g.K.Ord.cmp g.K.Key.matching (plain_call c.args.call.now) c.args.self.now.rows c.in-Ok-None.ensures.accepted c.requires.opens (sym c.in-Ok-None.ensures.made ∙ c.in-Ok-None.field-0-is)
