use Rattle.std.proofs.Common.{◌<◌, ◌∙◌, [], ◌∷◌, ap, arith, length, sym}
use Rattle.zt_link_queues.specs.Waiting.{grown_from}
use Rattle.zt_link_queues.proofs.Growing.{grown_more, grown_nothing}
use Rattle.zt_link_queues.proofs.queues.add_all.Goals as goal

pub loop-done-init : goal.loop-done-init
loop-done-init g c = record {
  within = omega arith;
  added = sym (grown_nothing 1 c.args.queues.now.items);
}

pub returns-in-Err-clause-err : goal.returns-in-Err-clause-err
returns-in-Err-clause-err g c = c.drop_all.ensures c.args.queues.now.items (c.in-Err.ensures.err ∙ c.loop-done.invariant.added)

pub loop-done-preserved : goal.loop-done-preserved
loop-done-preserved g c =
    let sent = c.args.sent.now in
    let one = c.index-sent-done.result in
    let within : c.loop-done.done < length sent = omega arith in
    record {
      within = omega arith;
      added = c.in_default.ensures.ok ∙ ap (grown_from 1 (one ∷ [])) c.loop-done.invariant.added ∙ sym (grown_more sent one c.loop-done.done c.args.queues.now.items within c.index-sent-done.is);
    }
