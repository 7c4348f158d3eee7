use Rattle.std.proofs.Common.{sym, ap, ◌∙◌}
use Rattle.std.specs.Option.{is_none}
use Rattle.zt_model.specs.Lists.{nth}
use Rattle.zt_links.proofs.Unknown.{nothing_found}
use Rattle.zt_links.proofs.causes.is_unknown_gateway.Goals as goal

pub returns : goal.returns
returns g c =
    nothing_found c.is_none.result c.member_at.result (sym c.is_none.ensures)
    ∙ ap is_none (c.member_at.ensures ∙ ap (nth c.args.gateway) c.gateways.ensures)
