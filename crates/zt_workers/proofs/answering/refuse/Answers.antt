use Rattle.std.proofs.Common.{◌+◌, Err, length, refl, arith}
use Rattle.zt_workers.specs.Answers.{answered}
use Rattle.zt_workers.proofs.AnswerLemmas.{alike_more}
use Rattle.zt_workers.proofs.answering.refuse.Goals as goal

pub loop-preserved : goal.loop-preserved
loop-preserved g c =
    let inv = c.loop.invariant in
    record {
      answers =
          alike_more answered (length c.args.answers.now.items + 1) c.loop.index (c.len.result + 1) (Err c.args.refusal) c.args.lines.now c.args.answers.now.items c.loop.answers.items c.push.new.self.items _
          inv.answers c.in_ok-push.ensures.items c.loop-test.true (omega (arith, inv.many, c.len.ensures)) refl;
      many = omega (arith, inv.many, c.in_ok-push.ensures.len, c.loop.answers.ok.0, c.push.new.self.ok.0);
    }
