use Rattle.std.proofs.Common.{refl, subst}
use Rattle.zt_model.specs.Transcript.{StandInOrderOfFace}
use Rattle.zt_check_trace.proofs.MessageLemmas.{out_of_order}
use Rattle.zt_check_trace.proofs.entries.accepted.Goals as goal

pub returns-then-not-stand_in_order : goal.returns-then-not-stand_in_order
returns-then-not-stand_in_order g c =
    out_of_order g.K.Ord.cmp g.K.Key.matching g.K.Key.reading g.K.Key.printed g.K.Key.anchored g.met.K.Key.laws c.args.text.now c.in-Some.sents.items c.deref.result.now c.in-Some.rest.now
    c.stand_in_order.result (rw c.in-Some.is at c.in_ok-sents.ensures) c.deref.ensures.value c.stand_in_order.ensures c.if-not-stand_in_order.true

pub returns : goal.returns
returns g c = (
  c.in-Some.sents.items,
  refl,
  rw c.in-Some.is at c.in_ok-sents.ensures,
  subst StandInOrderOfFace c.deref.ensures.value (c.stand_in_order.ensures.0 c.if-not-stand_in_order.false),
)
