use Rattle.std.proofs.Common.{ap, map, sym, ◌∙◌}
use Rattle.std.proofs.lemmas.Result.{IfOk-weaker}
use Rattle.std.specs.Option.{option_copied}
use Rattle.zt_rows.specs.Places.{rows_in}
use Rattle.zt_rows.proofs.Places.{last-empty, last-row, none-left}
use Rattle.zt_tokens.proofs.Gathering.{in_key_order_is, with_keys-last}
use Rattle.zt_interests.proofs.untelling.told_in_order.Goals as goal

pub loop-place-preserved-in-Continue-1 : goal.loop-place-preserved-in-Continue-1
loop-place-preserved-in-Continue-1 g c =
    let place = c.in-Some.place.now in
    let places = c.loop-place.place-iterator.iter.rest.now in
    let front = c.next.new.self.iter.rest.now in
    let stands = sym c.row.ensures ∙ ap option_copied c.in-Some-row.is in
    let last = last-row places front place c.in-Some-row.expr.now c.in-Some.ensures.steps stands in
    rw c.in_ok-insert.ensures (with_keys-last g.K.Ord.cmp (λ row. row.1) (rows_in places) (rows_in front) (place.0, c.in-Some-row.expr.now) c.loop-place.exprs last ∙ c.loop-place.invariant)

pub loop-place-preserved : goal.loop-place-preserved
loop-place-preserved g c =
    let place = c.in-Some.place.now in
    let places = c.loop-place.place-iterator.iter.rest.now in
    let front = c.next.new.self.iter.rest.now in
    let empty = sym c.row.ensures ∙ ap option_copied c.in_default.is in
    rw (← last-empty places front place c.in-Some.ensures.steps empty) c.loop-place.invariant

pub returns : goal.returns
returns g c =
    let left = rw (none-left c.loop-place.place-iterator.iter.rest.now c.in-None.ensures.steps.0) at c.loop-place.invariant in
    IfOk-weaker c.into_vec.result _ _ (λ keys is. is ∙ left ∙ in_key_order_is g.K.Ord.cmp (map (λ row. row.1) c.args.f.now.told)) c.into_vec.ensures
