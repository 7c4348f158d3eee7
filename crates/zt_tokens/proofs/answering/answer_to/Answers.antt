use Rattle.std.proofs.Common.{◌++◌, ap, flat_map, map, sym, ◌∙◌}
use Rattle.std.proofs.lemmas.List.{append-nil}
use Rattle.zt_tokens.proofs.Answers.{rows_one_less}
use Rattle.zt_tokens.specs.Answered.{answer_of}
use Rattle.zt_tokens.proofs.answering.answer_to.Goals as goal

pub loop-under-preserved : goal.loop-under-preserved
loop-under-preserved g c =
    let f = c.args.f.now in
    rows_one_less (λ m. (f.number, m)) (answer_of g.K.Ord.cmp g.K.Key.matching c.args.face c.args.id c.args.expr.now c.args.told.now f) _ _ _ _ _ _ c.loop-under.invariant c.in-Some.ensures.steps c.in_ok-answer_ask.ensures

pub returns : goal.returns
returns g c =
    let f = c.args.f.now in
    let rule = answer_of g.K.Ord.cmp g.K.Key.matching c.args.face c.args.id c.args.expr.now c.args.told.now f in
    sym (append-nil c.loop-under.sends.items)
    ∙ ap (λ rows. c.loop-under.sends.items ++ map (λ m. (f.number, m)) (flat_map rule rows)) (sym c.in-None.ensures.steps.0)
    ∙ c.loop-under.invariant
