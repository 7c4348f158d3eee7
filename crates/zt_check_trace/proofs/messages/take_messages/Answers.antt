use Rattle.std.proofs.Common.{sym, ◌∙◌}
use Rattle.zt_check_trace.proofs.MessageLemmas.{taken_next, unended, unread}
use Rattle.zt_check_trace.proofs.messages.take_messages.Goals as goal

pub returns-in_default : goal.returns-in_default
returns-in_default g c =
    unended g.K.Ord.cmp g.K.Key.matching g.K.Key.reading g.K.Key.printed g.K.Key.anchored g.met.K.Key.laws c.args.text.now c.loop-alloc.sents.items c.loop-alloc.rest.now
    c.loop-alloc.invariant (sym c.begins_with_mark.ensures ∙ c.loop-alloc-test.true) c.in_default.ensures

pub returns-in_default-2 : goal.returns-in_default-2
returns-in_default-2 g c =
    unread g.K.Ord.cmp g.K.Key.matching g.K.Key.reading g.K.Key.printed g.K.Key.anchored g.met.K.Key.laws c.args.text.now c.loop-alloc.sents.items c.loop-alloc.rest.now c.in-Some.line.now c.in-Some.behind.now
    c.loop-alloc.invariant (sym c.begins_with_mark.ensures ∙ c.loop-alloc-test.true) c.in-Some.ensures.0 c.in-Some.ensures.1 (rw c.in_default-2.is at c.in_ok-sent.ensures)

pub loop-alloc-preserved : goal.loop-alloc-preserved
loop-alloc-preserved g c =
    rw c.in_ok-push.ensures.items
    (taken_next g.K.Ord.cmp g.K.Key.matching g.K.Key.reading g.K.Key.printed g.K.Key.anchored g.met.K.Key.laws c.requires.spelling c.args.text.now c.loop-alloc.sents.items c.loop-alloc.rest.now
    c.in-Some.line.now c.in-Some.behind.now c.in-Some-2.sent c.loop-alloc.invariant c.in-Some.ensures.1 (rw c.in-Some-2.is at c.in_ok-sent.ensures))
