use Rattle.std.proofs.Common.{◌≡◌, true}
use Rattle.std.proofs.lemmas.List.{drop_all}
use Rattle.zt_faces.specs.Asked.{knows}
use Rattle.zt_faces.proofs.Known.{noted-all}
use Rattle.zt_faces.proofs.asked.note_all.Goals as goal

pub returns-clause-here : goal.returns-clause-here
returns-clause-here c =
    noted-all (λ askers p. knows (askers p) c.args.face c.args.id ≡ true) _ _ _ c.args.pendings.now (drop_all c.loop-sent.sent-index c.args.pendings.now c.loop-sent-test.false) c.loop-sent.invariant
