use Rattle.std.proofs.lemmas.Option.{IfSome_then}
use Rattle.std.proofs.lemmas.Result.{IfOk-weaker}
use Rattle.std.proofs.Common.{flat_map}
use Rattle.zt_token_index.specs.Seekers.{token_rows}
use Rattle.zt_token_index.proofs.SeekersChanged.{seekers-found}
use Rattle.zt_token_index.proofs.seekers.Seekers.find.Goals as goal

pub returns : goal.returns
returns g c =
    IfOk-weaker c.holders_and.result _ _
    (λ found is.
    IfSome_then found is
    (λ numbers holders fs rising are.
    let there = rw (← c.self.view_is) at are in
    let are_holders = holders (flat_map token_rows fs) there.index in
    seekers-found g.K.Ord.cmp g.K.Key.anchored g.K.Key.matching c.args.expr.now _ numbers.items fs rising there are_holders.in_order (rw c.deref.ensures.value at are_holders.among)))
    c.holders_and.ensures
