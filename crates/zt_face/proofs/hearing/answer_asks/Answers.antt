use Rattle.std.proofs.Common.{◌≡◌, Some, None, ap, sym, ◌∙◌}
use Rattle.std.proofs.lemmas.Result.{on_ok_weaker}
use Rattle.std.specs.FinMap.Entries.{put}
use Rattle.std.specs.Ordering.{nat_cmp}
use Rattle.zt_face.proofs.Answered.{answered_at, answered_nowhere}
use Rattle.zt_rows.proofs.Found.{absent_kept, put_again, put_there}
use Rattle.zt_model.specs.Lists.{at_id}
use Rattle.zt_face.proofs.hearing.answer_asks.Goals as goal

pub returns-in-None : goal.returns-in-None
returns-in-None g c =
    let rows = c.args.asks.now in
    let absent : at_id c.args.id rows ≡ None = sym c.in-None.ensures.row in
    c.take.ensures.rest ∙ absent_kept c.args.id rows absent ∙ answered_nowhere g.K.Ord.cmp c.args.id c.args.expr.now rows absent

pub returns-in_ok-answer-in-Some : goal.returns-in_ok-answer-in-Some
returns-in_ok-answer-in-Some g c =
    let id = c.args.id in
    let rows = c.args.asks.now in
    let ask = c.in-Some.ask in
    let after = c.answer.new.self in
    let there : at_id id rows ≡ Some ask = sym c.in-Some.ensures.row in
    let ordered = c.take.ensures.ordered in
    on_ok_weaker c.put.result
    (λ stored.
    stored
    ∙ ap (put nat_cmp id after) c.take.ensures.rest
    ∙ put_again id after rows ordered
    ∙ put_there id ask after rows ordered there
    ∙ answered_at g.K.Ord.cmp id c.args.expr.now rows ask after ordered there c.in_ok-answer-in-Some.ensures)
    c.put.ensures.ok
