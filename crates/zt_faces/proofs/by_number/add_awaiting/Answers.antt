use Rattle.std.proofs.Common.{subst, sym}
use Rattle.std.proofs.lemmas.Result.{on_ok_weaker}
use Rattle.zt_faces.specs.Slots.{faces_in}
use Rattle.zt_faces.specs.Timed.{AreTimed, IsAwaitedIn}
use Rattle.zt_faces.proofs.Times.{one-awaited, timed-awaited}
use Rattle.zt_faces.proofs.by_number.add_awaiting.Goals as goal

pub returns-clause-timed : goal.returns-clause-timed
returns-clause-timed g c =
    let addition = c.args.addition.now in
    let n = c.args.number in
    let keys = c.await_final.new.times.rows.keys in
    let known = c.in_ok-await_final.ensures in
    let awaited = subst (IsAwaitedIn keys n) (sym c.requires.awaited) (one-awaited keys n c.args.since c.args.id known.here) in
    on_ok_weaker c.add_in.result
    (λ made. subst (AreTimed keys) (sym made)
    (timed-awaited n (g.C.FaceAddition.awaited addition) (g.C.FaceAddition.added addition) (g.met.C.FaceAddition.keeps_number addition) (g.met.C.FaceAddition.awaits_only addition) keys (faces_in c.args.slots.now.items)
    awaited (rw c.as_slice.ensures.value at known.timed)))
    c.add_in.ensures.ok
