use Rattle.std.proofs.Common.{◌≡◌, ◌||◌, true, false, rules, refl, sym, ◌∙◌, arith}
use Rattle.zt_check_asks.specs.Answering.{are_answered_by}
use Rattle.zt_check_asks.proofs.Walked.{all_left, bad_next, none_left, passes_next, passes_none, passes_now}
use Rattle.zt_check_asks.proofs.answers.are_answered_by_all.Goals as goal

pub loop-sent-init : goal.loop-sent-init
loop-sent-init g c = record { so_far = refl; again = passes_none g.K.Ord.cmp g.K.Key.matching c.args.fabric.now c.args.told.now }

pub returns-then-not-branch : goal.returns-then-not-branch
returns-then-not-branch g c =
    let x = c.args in
    let cmp = g.K.Ord.cmp in
    let matching = g.K.Key.matching in
    let bad : c.in_ok-are_answered_next.field-0 ≡ false = search (rules, c.if-not-branch.true) in
    none_left (are_answered_by cmp matching x.fabric.now x.told.now) x.sents.now c.loop-sent.sent-index c.sent-item.result (omega arith) c.sent-item.is
    (bad_next cmp matching x.fabric.now x.told.now c.loop-sent.last c.answered_there-here.result c.sent-item.result (sym c.in_ok-are_answered_next.ensures ∙ bad)) c.loop-sent.invariant.so_far

pub loop-sent-preserved : goal.loop-sent-preserved
loop-sent-preserved g c =
    let x = c.args in
    let cmp = g.K.Ord.cmp in
    let matching = g.K.Key.matching in
    let ok : c.in_ok-are_answered_next.field-0 ≡ true = search (rules, c.if-not-branch.false) in
    let passes = passes_now cmp matching x.fabric.now x.told.now c.loop-sent.last c.answered_there-here.result c.sent-item.result c.answered_there-here.ensures c.loop-sent.invariant.again (sym c.in_ok-are_answered_next.ensures ∙ ok) in
    record {
      so_far = all_left (are_answered_by cmp matching x.fabric.now x.told.now) x.sents.now c.loop-sent.sent-index c.sent-item.result (omega arith) c.sent-item.is passes c.loop-sent.invariant.so_far;
      again = passes_next cmp matching x.fabric.now x.told.now c.answered_there-here.result c.sent-item.result c.answered_there-here.ensures passes;
    }
