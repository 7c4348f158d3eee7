use Rattle.std.proofs.Common.{rules, map, take, length, subst, sym, arith}
use Rattle.std.proofs.lemmas.List.{length-map}
use Rattle.zt_shared.specs.Recorded.{journalled}
use Rattle.zt_dealing.specs.Dealing.{HaveLines}
use Rattle.zt_dealing.proofs.LineLemmas.{AreTaken, front_all, front_more, have_lines, taken_next, taken_none}
use Rattle.zt_dealing.proofs.ordering.lines_in_order.Goals as goal

pub loop-entry-init : goal.loop-entry-init
loop-entry-init g c =
    taken_none (map (λ queue. queue.items) c.args.queues.now) c.in_ok-taken.taken.items c.new-lines.result.items _
    (omega (arith, c.in_ok-taken.taken.ok.0, c.in_ok-taken.ensures.len, length-map c.args.queues.now (λ queue. queue.items)))
    (c.in_ok-taken.ensures.items_if_clones_equal (λ y h. h)) (search rules)

pub loop-entry-preserved : goal.loop-entry-preserved
loop-entry-preserved g c =
    let queues = map (λ queue. queue.items) c.args.queues.now in
    let front = front_more journalled c.args.entries.now c.loop-entry.entry-index c.entry-item.result c.loop-entry-test.true c.entry-item.is in
    subst (λ es. AreTaken queues c.next_line.new.taken.items es c.push.new.self.items) (sym front)
    (taken_next queues c.loop-entry.taken.items c.next_line.new.taken.items (map journalled (take c.loop-entry.entry-index c.args.entries.now)) (journalled c.entry-item.result)
    c.loop-entry.lines.items c.push.new.self.items c.in-Some.line c.loop-entry.invariant c.in-Some.ensures c.in_ok-push.ensures.items)

pub returns : goal.returns
returns g c =
    let queues = map (λ queue. queue.items) c.args.queues.now in
    subst (λ es. HaveLines queues es c.loop-entry.lines.items) (front_all journalled c.args.entries.now c.loop-entry.entry-index c.loop-entry-test.false)
    (have_lines queues c.loop-entry.taken.items (map journalled (take c.loop-entry.entry-index c.args.entries.now)) c.loop-entry.lines.items c.loop-entry.invariant)
