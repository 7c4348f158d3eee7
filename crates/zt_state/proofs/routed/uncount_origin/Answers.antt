use Rattle.std.proofs.Common.{[], subst, sym}
use Rattle.zt_region.specs.Region.{zid_eq}
use Rattle.zt_indexes.specs.Recounts.{Recounts, recounts-none}
use Rattle.zt_state.proofs.Unrouted.{other-rows, own-rows, turned-false, turned-true}
use Rattle.zt_state.proofs.routed.uncount_origin.Goals as goal

pub returns-then-ne : goal.returns-then-ne
returns-then-ne g c =
    let other = turned-false (zid_eq c.args.origin.source c.args.zid) c.ne.result c.ne.ensures c.if-ne.true in
    subst (λ rows. Recounts g.K.Ord.cmp rows [] c.args.live.now c.uncount_keys.new.live) (sym (other-rows g.K.Ord.cmp c.args.zid c.args.origin other c.args.keys.now.keys)) c.uncount_keys.ensures

pub returns-else-ne : goal.returns-else-ne
returns-else-ne g c =
    let own = turned-true (zid_eq c.args.origin.source c.args.zid) c.ne.result c.ne.ensures c.if-ne.false in
    subst (λ rows. Recounts g.K.Ord.cmp rows [] c.args.live.now c.args.live.now) (sym (own-rows g.K.Ord.cmp c.args.zid c.args.origin own c.args.keys.now.keys)) (recounts-none g.K.Ord.cmp [] c.args.live.now)
