use Rattle.std.proofs.Common.{◌≡◌, ◌<◌, ◌+◌, ◌-◌, ◌∙◌, [], ◌∷◌, ap, arith, length, subst, take}
use Rattle.zt_protocol.specs.declared.entries.Sent.{Sent}
use Rattle.zt_link_queues.specs.Waiting.{grown_from}
use Rattle.zt_link_queues.proofs.Growing.{grown_more, grown_nothing}
use Rattle.zt_link_queues.proofs.queues.drop_all.Goals as goal

pub loop-left-preserved : goal.loop-left-preserved
loop-left-preserved g c =
    let sent = c.args.sent.now in
    let left = c.loop-left.left in
    let one = c.index-sent-left.result in
    let within : left - 1 < length sent = omega arith in
    let back : left - 1 + 1 ≡ left = omega arith in
    record {
      within = omega arith;
      added = λ before grown.
          let more = subst (λ n. grown_from 1 (take n sent) before ≡ grown_from 1 (one ∷ []) (grown_from 1 (take (left - 1) sent) before)) back (grown_more sent one (left - 1) before within c.index-sent-left.is) in
          c.drop_last.ensures (grown_from 1 (take (left - 1) sent) before) one (ap (λ (m : Sent _). m.face) c.index-sent-left.is) (c.loop-left.invariant.added before grown ∙ more);
    }

pub returns : goal.returns
returns g c before grown =
    let none : c.loop-left.left ≡ 0 = omega arith in
    c.loop-left.invariant.added before grown ∙ ap (λ n. grown_from 1 (take n c.args.sent.now) before) none ∙ grown_nothing 1 before
