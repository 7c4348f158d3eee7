use Rattle.std.proofs.Common.{arith, refl}
use Rattle.zt_model.specs.Fabric.{after_hearing}
use Rattle.zt_check_fabric.proofs.Heard.{hear_all, hear_more, place_more}
use Rattle.zt_check_fabric.proofs.fabric.ShownFabric.hear.Goals as goal

pub loop-sent-init : goal.loop-sent-init
loop-sent-init g c = record { placed = λ p. p; rest = λ p. refl }

pub loop-sent-preserved : goal.loop-sent-preserved
loop-sent-preserved g c = record {
  placed = λ p. place_more g.K.Ord.cmp c.args.sents.now c.loop-sent.sent-index c.sent-item.result c.loop-sent.self c.tell.new.self (c.loop-sent.invariant.placed p) c.in_ok-tell.ensures;
  rest =
      λ p. hear_more g.K.Ord.cmp c.args.sents.now c.loop-sent.sent-index c.sent-item.result c.loop-sent.self c.tell.new.self (after_hearing g.K.Ord.cmp c.args.sents.now c.args.self.now) (omega arith) c.sent-item.is
      (c.loop-sent.invariant.placed p) c.in_ok-tell.ensures (c.loop-sent.invariant.rest p);
}

pub returns : goal.returns
returns g c =
    λ p. hear_all g.K.Ord.cmp c.args.sents.now c.loop-sent.sent-index c.loop-sent.self (after_hearing g.K.Ord.cmp c.args.sents.now c.args.self.now) (omega arith) (c.loop-sent.invariant.rest p)
