use Rattle.std.proofs.Common.{arith, [], ◌∷◌, ap, ◌∙◌, refl}
use Rattle.zt_shared_value.specs.Plays.{part_looked}
use Rattle.zt_shared_value.proofs.shared.SharedRecorder.front.Goals as goal

pub look-length-requires-clause-one : goal.look-length-requires-clause-one
look-length-requires-clause-one g c = let one = c.pass.inside.one in (one.0, ap (λ m. m.0) one.1.0)

pub invariant_of-pass-inside : goal.invariant_of-pass-inside
invariant_of-pass-inside g c =
    let one = c.pass.inside.one in
    let told = c.look-length.ensures.told one.0 (ap (λ m. m.0) one.1.0) in
    ((part_looked c.look-length.result one.0, (told.0 ∙ ap (λ carried. (part_looked c.look-length.result one.0 ∷ [], carried)) (ap (λ m. m.1) one.1.0), (one.1.1.0, (refl, (one.1.1.1.1.0, one.1.1.1.1.1))))), tt)

pub returns-clause-later : goal.returns-clause-later
returns-clause-later g c =
    let one = c.pass.inside.one in
    let told = c.look-length.ensures.told one.0 (ap (λ m. m.0) one.1.0) in
    let seen = ap (λ pass. pass.seen) c.pass.view_is in
    let later = told.1 in omega arith
