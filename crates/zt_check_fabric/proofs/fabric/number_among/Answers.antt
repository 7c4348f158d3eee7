use Rattle.std.proofs.Common.{arith, sym, ◌∙◌}
use Rattle.zt_model.specs.Places.{number_from}
use Rattle.zt_check_fabric.proofs.Numbers.{number_here, number_later, number_never}
use Rattle.zt_check_fabric.proofs.fabric.number_among.Goals as goal

pub returns-then-is_place : goal.returns-then-is_place
returns-then-is_place c =
    let x = c.args in
    number_here x.gateway x.face x.places.now c.loop-index.index c.index-places-index.result (omega arith) c.index-places-index.is (number_from 1 x.gateway x.face x.places.now)
    (sym c.is_place.ensures ∙ c.if-is_place.true) c.loop-index.invariant

pub loop-index-preserved : goal.loop-index-preserved
loop-index-preserved c =
    let x = c.args in
    number_later x.gateway x.face x.places.now c.loop-index.index c.index-places-index.result (omega arith) c.index-places-index.is (number_from 1 x.gateway x.face x.places.now)
    (sym c.is_place.ensures ∙ c.if-is_place.false) c.loop-index.invariant

pub returns : goal.returns
returns c =
    let x = c.args in
    number_never x.gateway x.face x.places.now c.loop-index.index (number_from 1 x.gateway x.face x.places.now) (omega arith) c.loop-index.invariant
