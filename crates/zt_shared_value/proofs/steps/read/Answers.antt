use Rattle.std.proofs.Common.{[], ◌∷◌, refl, ap, ◌∙◌}
use Rattle.zt_shared_value.specs.Plays.{part_locked, part_looked}
use Rattle.zt_shared_value.proofs.steps.read.Goals as goal

pub look-length-requires-clause-one : goal.look-length-requires-clause-one
look-length-requires-clause-one g c = let free = c.requires.free in let taken = c.lock.ensures.taken free.0 free.1 in
    (part_locked taken.0 free.0, ap (λ m. m.0) taken.1)

pub copy-entry-requires-clause-value : goal.copy-entry-requires-clause-value
copy-entry-requires-clause-value g c = let free = c.requires.free in let taken = c.lock.ensures.taken free.0 free.1 in
    let told = c.look-length.ensures.told (part_locked taken.0 free.0) (ap (λ m. m.0) taken.1) in
    let looked = part_looked c.look-length.result (part_locked taken.0 free.0) in
    (looked, (taken.0, told.0 ∙ ap (λ carried. (looked ∷ [], carried)) (ap (λ m. m.1) taken.1)))

pub release-requires-clause-may : goal.release-requires-clause-may
release-requires-clause-may g c = let free = c.requires.free in let taken = c.lock.ensures.taken free.0 free.1 in
    let told = c.look-length.ensures.told (part_locked taken.0 free.0) (ap (λ m. m.0) taken.1) in
    let looked = part_looked c.look-length.result (part_locked taken.0 free.0) in record {
      part = looked;
      value = taken.0;
      is = c.copy-entry.ensures.same ∙ (told.0 ∙ ap (λ carried. (looked ∷ [], carried)) (ap (λ m. m.1) taken.1));
      locked = refl;
      kept = refl;
      opened = taken.2.opened;
    }

pub returns-clause-told : goal.returns-clause-told
returns-clause-told g c = λ p same. let taken = c.lock.ensures.taken p same in
    let told = c.look-length.ensures.told (part_locked taken.0 p) (ap (λ m. m.0) taken.1) in
    let looked = part_looked c.look-length.result (part_locked taken.0 p) in
    let has = told.0 ∙ ap (λ carried. (looked ∷ [], carried)) (ap (λ m. m.1) taken.1) in (
      record {
        taken = taken.0;
        continues = taken.2;
        whole = told.2 refl;
        is = c.release.ensures.told looked taken.0 (c.copy-entry.ensures.same ∙ has);
      },
      c.copy-entry.ensures.copied looked taken.0 has,
      c.copy-entry.ensures.replay looked taken.0 has,
    )
