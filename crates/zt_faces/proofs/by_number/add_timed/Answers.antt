use Rattle.std.proofs.Common.{subst, sym}
use Rattle.std.proofs.lemmas.Result.{on_ok_weaker}
use Rattle.zt_faces.specs.Slots.{faces_in}
use Rattle.zt_faces.specs.Timed.{AreTimed, IsAwaitedIn}
use Rattle.zt_faces.proofs.Times.{nothing-awaited, timed-awaited}
use Rattle.zt_faces.proofs.by_number.add_timed.Goals as goal

pub returns-in-None-clause-timed : goal.returns-in-None-clause-timed
returns-in-None-clause-timed g c =
    let addition = c.args.addition.now in
    let n = c.args.number in
    let keys = c.args.times.now.rows.keys in
    let awaited = subst (IsAwaitedIn keys n) c.in-None.ensures (nothing-awaited keys n) in
    on_ok_weaker c.add_in.result
    (λ made. subst (AreTimed keys) (sym made)
    (timed-awaited n (g.C.FaceAddition.awaited addition) (g.C.FaceAddition.added addition) (g.met.C.FaceAddition.keeps_number addition) (g.met.C.FaceAddition.awaits_only addition) keys (faces_in c.args.slots.now.items)
    awaited c.requires.timed))
    c.add_in.ensures.ok
