use Rattle.std.proofs.Common.{◌≡◌, ◌+◌, length, arith}
use Rattle.zt_workers.specs.Answers.{answered}
use Rattle.zt_workers.proofs.AnswerLemmas.{refused_long, three_more}
use Rattle.zt_workers.proofs.answering.all_refused.Goals as goal

pub refuse-requires-3 : goal.refuse-requires-3
refuse-requires-3 g c =
    let many : length c.refuse-2.new.answers.items ≡ 1 + length c.args.makings.now =
    refused_long answered c.new-answers.result.items c.refuse.new.answers.items c.refuse-2.new.answers.items _ _ c.args.makings.now c.new-answers.ensures.items c.in_ok-refuse.ensures c.in_ok-refuse-2.ensures
    in
    omega arith

pub returns : goal.returns
returns g c =
    three_more answered c.new-answers.result.items c.refuse.new.answers.items c.refuse-2.new.answers.items c.refuse-3.new.answers.items _ _ _
    c.new-answers.ensures.items c.in_ok-refuse.ensures c.in_ok-refuse-2.ensures c.in_ok-refuse-3.ensures
