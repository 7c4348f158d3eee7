use Rattle.std.proofs.lemmas.Result.{on_ok_weaker}
use Rattle.zt_faces.specs.Slots.{faces_in}
use Rattle.zt_faces.proofs.Known.{asked-more}
use Rattle.zt_faces.proofs.by_number.know.Goals as goal

pub returns-clause-asked : goal.returns-clause-asked
returns-clause-asked g c =
    on_ok_weaker c.note_ask.result (λ here. asked-more _ _ c.note_ask.ensures.kept (faces_in c.args.slots.now) c.in_ok-tidy.ensures) c.note_ask.ensures.here
