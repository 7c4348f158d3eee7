use Rattle.std.proofs.Common.{◌<◌, ◌≤◌, arith, length}
use Rattle.zt_model.specs.Trees.{counted_table}
use Rattle.zt_routers.specs.Reached.{is_at_new_child}
use Rattle.zt_routers.proofs.Noted.{notes_done, notes_next, notes_none}
use Rattle.zt_routers.proofs.greeting.note_new_children.Goals as goal

pub loop-child-init : goal.loop-child-init
loop-child-init g c = notes_none (is_at_new_child c.args.g.now c.args.region (counted_table c.args.before.now)) c.args.children.now c.args.numbers.now.items

pub loop-child-preserved : goal.loop-child-preserved
loop-child-preserved g c =
    let children = c.args.children.now in
    let within : c.loop-child.child-index < length children = omega arith in
    notes_next (is_at_new_child c.args.g.now c.args.region (counted_table c.args.before.now)) children c.loop-child.child-index _ _ _ _ within c.loop-child.invariant c.in_ok-note_new_child.ensures

pub returns : goal.returns
returns g c =
    let children = c.args.children.now in
    let past : length children ≤ c.loop-child.child-index = omega arith in
    notes_done (is_at_new_child c.args.g.now c.args.region (counted_table c.args.before.now)) children c.loop-child.child-index _ _ past c.loop-child.invariant
