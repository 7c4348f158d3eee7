use Rattle.std.proofs.Common.{◌<◌, ◌≤◌, arith, length, map, option_copied}
use Rattle.zt_gateway.specs.Lookups.{nearer_in, next_above}
use Rattle.zt_gateway.proofs.Next.{next_in}
use Rattle.zt_gateway.proofs.Walks.{back_more}
use Rattle.zt_rows.specs.Places.{rows_in}
use Rattle.zt_gateway.proofs.lookups.next_above.Goals as goal

pub loop-left-preserved : goal.loop-left-preserved
loop-left-preserved g c =
    let cmp = g.K.Ord.cmp in
    let after = option_copied c.args.after in
    let places = c.args.places.now in
    let within : c.loop-left.left ≤ length places = c.loop-left.invariant.within in
    let pos : 0 < c.loop-left.left = c.loop-left-test.true in
    record {
      within = omega arith;
      nearest = back_more (λ place best. nearer_in cmp after place.1 best) (λ places. next_above cmp after (map (λ row. row.1) (rows_in places)))
          (next_in cmp g.met.K.Ord.total g.met.K.Key.laws.equal_is_same after)
          places c.loop-left.left c.index-places-left.result (option_copied c.loop-left.best) (option_copied c.nearer_in-best.result) pos within c.index-places-left.is c.loop-left.invariant.nearest c.nearer_in-best.ensures;
    }
