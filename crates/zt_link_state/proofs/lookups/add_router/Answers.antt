use Rattle.std.proofs.Common.{◌∙◌, sym}
use Rattle.zt_link_state.proofs.Nodes.{node_new, node_there}
use Rattle.zt_link_state.proofs.lookups.add_router.Goals as goal

pub returns-then-contains_key-clause-router : goal.returns-then-contains_key-clause-router
returns-then-contains_key-clause-router c =
    sym (node_there c.args.routers.now.entries c.args.router.now c.requires (sym c.contains_key.ensures ∙ c.if-contains_key.true))

pub returns-clause-router : goal.returns-clause-router
returns-clause-router c =
    c.in_ok-insert.ensures.entries ∙ node_new c.args.routers.now.entries c.args.router.now (sym c.contains_key.ensures ∙ c.if-contains_key.false)
