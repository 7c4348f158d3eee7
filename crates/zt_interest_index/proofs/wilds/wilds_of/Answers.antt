use Rattle.zt_interest_index.proofs.Kept.{gathered-all, gathered-more, gathered-start}
use Rattle.zt_interest_index.proofs.wilds.wilds_of.Goals as goal

pub loop-key-init : goal.loop-key-init
loop-key-init g c = rw c.into_iter-key-iterator.ensures.into_iter_gives.0 (gathered-start g.K.Ord.cmp g.K.Key.anchored g.K.Key.numbered c.args.keyed.now.entries c.new-wilds.result)

pub loop-key-preserved : goal.loop-key-preserved
loop-key-preserved g c =
    gathered-more g.K.Ord.cmp g.K.Key.anchored g.K.Key.numbered g.met.K.Key.laws.equal_is_same (c.in-Some.key.now, c.in-Some.field-0-1.now) c.next.new.self c.args.keyed.now.entries c.loop-key.wilds c.put_wild.new.wilds
    (rw c.in-Some.ensures.steps at c.loop-key.invariant) c.in_ok-put_wild.ensures.grows c.in_ok-put_wild.ensures.covered

pub returns : goal.returns
returns g c = gathered-all g.K.Ord.cmp g.K.Key.anchored g.K.Key.numbered c.args.keyed.now.entries c.loop-key.wilds (rw c.in-None.ensures.steps.0 at c.loop-key.invariant)
