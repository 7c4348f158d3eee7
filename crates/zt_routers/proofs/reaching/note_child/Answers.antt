use Rattle.zt_routers.proofs.Noted.{child_noted, child_unnoted}
use Rattle.zt_routers.proofs.reaching.note_child.Goals as goal

pub returns-in_ok-push : goal.returns-in_ok-push
returns-in_ok-push g c =
    rw (c.in_ok-push.ensures.items, c.number.ensures)
    (child_noted c.args.g.now c.args.region c.args.child.now c.in-Some.f.now c.in-Some.ensures c.args.numbers.now.items)

pub returns-in_default : goal.returns-in_default
returns-in_default g c = child_unnoted c.args.g.now c.args.region c.args.child.now c.in_default.ensures c.args.numbers.now.items
