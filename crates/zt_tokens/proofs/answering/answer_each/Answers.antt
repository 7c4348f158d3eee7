use Rattle.std.proofs.Common.{◌≡◌, ◌∙◌}
use Rattle.zt_token_index.specs.Told.{id_of}
use Rattle.zt_model.specs.Parts.{told_id}
use Rattle.zt_model.specs.Telling.{answer_to}
use Rattle.zt_state.proofs.Walks.{to_each_done, to_each_more}
use Rattle.zt_tokens.specs.Answered.{answer_told}
use Rattle.zt_tokens.proofs.Answers.{answers-by}
use Rattle.zt_tokens.proofs.Chosen.{each-then, each_alike}
use Rattle.zt_tokens.proofs.answering.answer_each.Goals as goal

pub loop-f-preserved : goal.loop-f-preserved
loop-f-preserved g c =
    let rule = answer_told g.K.Ord.cmp g.K.Key.matching c.args.face c.args.id c.args.expr.now c.told_at-told.result.now in
    to_each_more rule _ _ c.in-Some.f.now c.loop-f.sends.items _ _ c.in-Some.ensures.steps c.loop-f.invariant c.in_ok-answer_to.ensures

pub returns : goal.returns
returns g c =
    let cmp = g.K.Ord.cmp in
    let matching = g.K.Key.matching in
    let e = c.args.expr.now in
    let pairs = c.told_at-told.result.now in
    let by = answer_told cmp matching c.args.face c.args.id e pairs in
    let rule = answer_to cmp matching c.args.face c.args.id e in
    to_each_done by _ c.loop-f.sends.items _ c.in-None.ensures.steps.0 c.loop-f.invariant
    ∙ each_alike rule by c.args.g.now.faces
    (each-then (λ f. id_of f.number pairs ≡ told_id cmp e f.told) (λ f. by f ≡ rule f) (answers-by cmp matching c.args.face c.args.id e pairs) c.args.g.now.faces c.told_at-told.ensures.told.ids)
