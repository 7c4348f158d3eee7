use Rattle.std.proofs.Common.{arith, ◌+◌, ◌<◌, ◌^◌, [], ◌∷◌, length, refl, sym, ap, ◌∙◌, subst, length-append}
use Rattle.zt_shared_value.specs.Plays.{part_locked, part_entered}
use Rattle.zt_shared_value.proofs.steps.call.Goals as goal

pub enter-requires-clause-value : goal.enter-requires-clause-value
enter-requires-clause-value g c = let free = c.requires.free in let taken = c.lock.ensures.taken free.0 free.1 in
    (part_locked taken.0 free.0, (taken.0, taken.1))

pub publish-place-requires-clause-ahead : goal.publish-place-requires-clause-ahead
publish-place-requires-clause-ahead g c = let free = c.requires.free in let taken = c.lock.ensures.taken free.0 free.1 in
    let done = c.in-Ok.ensures.ok (part_locked taken.0 free.0) taken.0 taken.1 in record {
      part = part_locked taken.0 free.0;
      value = done.0;
      entry = done.3.0;
      is = done.1;
      locked = refl;
      grown = done.3.1;
      by = done.3.2 ∙ sym free.3;
      opened = done.2 ∙ taken.2.opened;
      room = done.3.6;
    }

pub release-requires-clause-may : goal.release-requires-clause-may
release-requires-clause-may g c = let free = c.requires.free in let taken = c.lock.ensures.taken free.0 free.1 in
    let done = c.in-Ok.ensures.ok (part_locked taken.0 free.0) taken.0 taken.1 in
    let told = c.publish-place.ensures.told (part_locked taken.0 free.0) done.0 done.1 in record {
      part = part_entered (c.publish-place.result + 1) done.0 (part_locked taken.0 free.0);
      value = done.0;
      is = told.0;
      locked = refl;
      kept = refl;
      opened = done.2 ∙ taken.2.opened;
    }

pub release-requires-in-Err-clause-may : goal.release-requires-in-Err-clause-may
release-requires-in-Err-clause-may g c = let free = c.requires.free in let taken = c.lock.ensures.taken free.0 free.1 in
    let failed = c.in-Err.ensures.err (part_locked taken.0 free.0) taken.0 taken.1 in record {
      part = part_locked taken.0 free.0;
      value = failed.0;
      is = failed.1;
      locked = refl;
      kept = failed.3;
      opened = failed.2 ∙ taken.2.opened;
    }

pub returns-in-Ok-clause-ok : goal.returns-in-Ok-clause-ok
returns-in-Ok-clause-ok g c = λ p same. let taken = c.lock.ensures.taken p same in
    let done = c.in-Ok.ensures.ok (part_locked taken.0 p) taken.0 taken.1 in
    let told = c.publish-place.ensures.told (part_locked taken.0 p) done.0 done.1 in
    let entry = done.3.0 in
    let long = ap length done.3.1 in
    let longer = length-append (g.J.Recorder.journal taken.0) (entry ∷ []) in
    let placed = told.1 in
    let short = done.3.6 in
    let room : c.publish-place.result + 1 < 2 ^ 64 = omega arith in (
      entry,
      record {
        taken = taken.0;
        left = done.0;
        continues = taken.2;
        placed = placed;
        added = done.3.1;
        opened = done.2 ∙ taken.2.opened;
        room = room;
        is = c.release.ensures.told (part_entered (c.publish-place.result + 1) done.0 (part_locked taken.0 p)) done.0 told.0;
      },
      done.3.2,
      done.3.3,
      subst (λ place. g.J.Recorder.tells place entry c.in-Ok.receipt) (sym placed) done.3.4,
      done.3.5,
    )

pub returns-in-Err-clause-err : goal.returns-in-Err-clause-err
returns-in-Err-clause-err g c = λ p same. let taken = c.lock.ensures.taken p same in
    let failed = c.in-Err.ensures.err (part_locked taken.0 p) taken.0 taken.1 in
    let J = g.J.Recorder in (
      record {
        taken = taken.0;
        continues = taken.2;
        is = c.release-in-Err.ensures.told (part_locked taken.0 p) failed.0 failed.1;
      },
      subst (λ state. J.is_replay state (J.journal taken.0)) failed.2 (subst (λ log. J.is_replay (J.state failed.0) log) failed.3 failed.4),
    )
