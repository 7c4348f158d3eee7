use Rattle.std.proofs.Common.{◌+◌, ap, arith, drop, sym, ◌∙◌}
use Rattle.std.specs.Option.{option_copied}
use Rattle.zt_rows.proofs.Places.{left-done, left-empty, left-row}
use Rattle.zt_rows.specs.Places.{rows_in}
use Rattle.zt_token_index.proofs.Retold.{leaves-all, leaves-less, leaves-none}
use Rattle.zt_token_index.proofs.hearing.untell_all.Goals.{in-Some, in_default}
use Rattle.zt_token_index.proofs.hearing.untell_all.Goals as goal

pub loop-place-init : goal.loop-place-init
loop-place-init g c =
    let f = c.args.f.now in
    rw (c.places-place-items.ensures, c.told.ensures) (leaves-all g.K.Ord.cmp f.number f.told c.args.told.now)

pub loop-place-preserved : goal.loop-place-preserved
loop-place-preserved g c =
    let f = c.args.f.now in
    let places = c.places-place-items.result.now in
    let i = c.loop-place.place-index in
    let place = c.place-item.result in
    elim c.match-row.branch [
      | in-Some w ↦
          let e = w.in-Some.expr.now in
          let stands = sym c.row.ensures ∙ ap option_copied w.in-Some.is in
          let left = rw (left-row places i place e c.loop-place-test.true c.place-item.is stands) at c.loop-place.invariant in
          rw w.told-is
          (leaves-less g.K.Ord.cmp f.number g.met.K.Ord.total g.met.K.Key.laws.equal_is_same f.told (place.0, e) (rows_in (drop (i + 1) places)) c.args.told.now c.loop-place.told w.untell.new.self left (rw w.number.ensures at w.untell.ensures.less))
      | in_default w ↦
          let empty = sym c.row.ensures ∙ ap option_copied w.in_default.is in
          rw (w.told-is, ← left-empty places i place c.loop-place-test.true c.place-item.is empty) c.loop-place.invariant
    ]

pub returns : goal.returns
returns g c =
    let f = c.args.f.now in
    let left = rw (left-done c.places-place-items.result.now c.loop-place.place-index (omega (arith, c.loop-place-test.false))) at c.loop-place.invariant in
    leaves-none g.K.Ord.cmp f.number f.told c.args.told.now c.loop-place.told left
