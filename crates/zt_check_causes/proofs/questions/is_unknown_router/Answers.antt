use Rattle.std.proofs.Common.{◌≡◌, ap, is_none, rules, sym, ◌∙◌}
use Rattle.zt_check_causes.proofs.Listed.{meant_is}
use Rattle.zt_check_causes.proofs.questions.is_unknown_router.Goals as goal

pub returns-then-is_routed : goal.returns-then-is_routed
returns-then-is_routed g c =
    let unknown : c.is_none.result ≡ is_none c.router_meant.result = search rules in
    unknown
    ∙ ap is_none c.router_meant.ensures
    ∙ meant_is c.args.rows.now c.args.face.now c.args.node_id (sym c.is_routed.ensures ∙ c.if-is_routed.true)
