use Rattle.std.proofs.Common.{◌≡◌, ◌≤◌, ◌∙◌, [], ap, arith, length, subst, sym}
use Rattle.std.proofs.lemmas.List.{drop_all}
use Rattle.zt_model.specs.Trees.{counted_beside, is_same_router}
use Rattle.zt_link_state.specs.Listed.{AreListed}
use Rattle.zt_link_state.proofs.Looked.{listed_by}
use Rattle.zt_link_state.proofs.counting.counted_routers.Goals as goal

pub returns-clause-listed : goal.returns-clause-listed
returns-clause-listed c =
    let routers = c.args.routers.now in
    let counted = c.loop-router.counted.items in
    let past : length routers ≤ c.loop-router.router-index = omega arith in
    let all : counted ≡ counted_beside is_same_router [] routers =
    ap (counted_beside is_same_router counted) (sym (drop_all c.loop-router.router-index routers past)) ∙ c.loop-router.invariant.counts in
    subst (AreListed c.loop-router.nodes.entries) all (listed_by c.loop-router.nodes.entries counted c.loop-router.invariant.nodes)
