use Rattle.std.proofs.Common.{drop, refl}
use Rattle.std.specs.Ordering.{nat_cmp}
use Rattle.zt_check_faces.specs.Placed.{BeginsEqual, BeginsLess, IsBehind}
use Rattle.zt_check_faces.proofs.Answered.{found_answered, none_answered}
use Rattle.zt_check_faces.proofs.Risen.{rise_set}
use Rattle.zt_check_faces.proofs.hearing.answer_row.Goals as goal

pub returns-in_err-answer-clause-rise : goal.returns-in_err-answer-clause-rise
returns-in_err-answer-clause-rise g c =
    let row = c.index_mut-ask.result.now in
    rise_set c.args.asks.now.items c.in-Ok.place row (row.0, c.answer.new.self) c.requires c.index_mut-ask.ensures.value refl

pub returns-in_ok-answer-clause-answered : goal.returns-in_ok-answer-clause-answered
returns-in_ok-answer-clause-answered g c =
    let asks = c.args.asks.now.items in
    let found : IsBehind (λ row. nat_cmp c.args.id row.0) asks c.in-Ok.place × BeginsEqual (λ row. nat_cmp c.args.id row.0) (drop c.in-Ok.place asks) = rw c.as_slice.ensures.value at c.in-Ok.ensures.place in
    found_answered g.K.Ord.cmp c.args.id c.args.expr.now asks c.in-Ok.place c.index_mut-ask.result.now c.answer.new.self c.requires found c.index_mut-ask.ensures.value c.in_ok-answer.ensures

pub returns-in_ok-answer-clause-rise : goal.returns-in_ok-answer-clause-rise
returns-in_ok-answer-clause-rise g c =
    let row = c.index_mut-ask.result.now in
    rise_set c.args.asks.now.items c.in-Ok.place row (row.0, c.answer.new.self) c.requires c.index_mut-ask.ensures.value refl

pub returns-in_default-clause-answered : goal.returns-in_default-clause-answered
returns-in_default-clause-answered g c =
    let asks = c.args.asks.now.items in
    let found : IsBehind (λ row. nat_cmp c.args.id row.0) asks c.in_default.field-0 × BeginsLess (λ row. nat_cmp c.args.id row.0) (drop c.in_default.field-0 asks) = rw c.as_slice.ensures.value at c.in_default.ensures.place in
    none_answered g.K.Ord.cmp c.args.id c.args.expr.now asks c.in_default.field-0 c.requires found
