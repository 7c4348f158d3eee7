use Rattle.std.proofs.Common.{◌≡◌, length, refl, ap}
use Rattle.zt_protocol.specs.Plain.{plain_call}
use Rattle.zt_shared.specs.Recorded.{Recorded, entered, entry_of}
use Rattle.zt_shared.proofs.Sharing.{tells_of}
use Rattle.zt_shared.proofs.recording.JournaledRecorder.enter.Goals as goal

pub returns-in-Ok-clause-ok : goal.returns-in-Ok-clause-ok
returns-in-Ok-clause-ok g c =
    let cmp = g.K.Ord.cmp in
    let matching = g.K.Key.matching in
    let j = c.args.self.now in
    let call = plain_call c.args.call in
    let done : c.enter.new.self ≡ entered cmp matching c.args.pass call j = c.in-Ok.ensures.done in (
      entry_of cmp matching c.args.pass call j.gateway.rows,
      ap (λ (r : Recorded g.row.K.Denot). r.entries) done,
      refl,
      refl,
      tells_of cmp matching (length j.entries) c.args.pass call j.gateway.rows c.in-Ok.receipt c.in-Ok.ensures.place c.in-Ok.ensures.answer,
      c.enter.ensures.room,
    )
