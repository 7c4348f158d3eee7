use Rattle.std.proofs.Common.{◌++◌, append_assoc, ap, sym, ◌∙◌}
use Rattle.std.specs.Option.{option_copied}
use Rattle.zt_rows.proofs.Places.{left-empty, left-row}
use Rattle.zt_face.proofs.local_tokens.LocalTokens.copy.Goals.{in-Some+in_ok-copy+in_ok-push, in_default}
use Rattle.zt_face.proofs.local_tokens.LocalTokens.copy.Goals as goal

pub loop-place-preserved : goal.loop-place-preserved
loop-place-preserved g c =
    let places = c.places-place-items.result.now in
    let i = c.loop-place.place-index in
    let rows = c.loop-place.rows in
    let place = c.place-item.result in
    elim c.match-row.branch [
      | in-Some+in_ok-copy+in_ok-push w ↦
          let e = w.in-Some.expr.now in
          let stands = sym c.row.ensures ∙ ap option_copied w.in-Some.is in
          let whole = ap (λ left. rows ++ left) (sym (left-row places i place e c.loop-place-test.true c.place-item.is stands)) ∙ c.loop-place.invariant in
          rw (w.rows-is, w.in_ok-push.ensures.ok, w.in_ok-copy.ensures, w.id.ensures, append_assoc) whole
      | in_default w ↦
          let empty = sym c.row.ensures ∙ ap option_copied w.in_default.is in
          rw (w.rows-is, ← left-empty places i place c.loop-place-test.true c.place-item.is empty) c.loop-place.invariant
    ]
