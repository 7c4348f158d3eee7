use Rattle.zt_state.proofs.Kept.{indexed-none}
use Rattle.zt_state.proofs.gateway.GatewayState.new.Goals as goal

pub invariant_of-result : goal.invariant_of-result
invariant_of-result g c =
    rw (c.new-4.ensures, c.new-6.ensures, c.new-7.ensures, c.new-8.ensures)
    (indexed-none g.K.Ord.cmp g.K.Key.anchored c.args.zid 0)
