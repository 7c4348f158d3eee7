use Rattle.std.proofs.Common.{◌==◌, ◌&&◌, ap, ◌∙◌}
use Rattle.std.specs.Option.{option_map}
use Rattle.zt_protocol.specs.Plain.{Trees}
use Rattle.zt_model.specs.Lists.{first_where}
use Rattle.zt_routers.proofs.tables.linked.Goals as goal

pub returns-in-Some : goal.returns-in-Some
returns-in-Some g c =
    c.router_behind.ensures
    ∙ ap (λ (t : Trees). option_map (λ l. l.2) (first_where (λ l. (l.0 == c.args.face) && (l.1 == c.args.node_id)) t.links)) c.in-Some.ensures.some
