use Rattle.std.proofs.Common.{◌≡◌, ◌<◌, List, [], ◌∷◌, ◌++◌, ap, arith, length, sym, ◌∙◌}
use Rattle.std.proofs.lemmas.Bool.{eqb-true}
use Rattle.std.specs.Option.{option_copied}
use Rattle.zt_faces.proofs.Gaps.{none-left, passed-back, some-left, stepped-back}
use Rattle.zt_faces.proofs.walk.OpenFacesDoubleEndedIterator.next_back.Goals as goal

one-more : {A : Type 0} (xs : List A) (x : A) → length xs < length (xs ++ x ∷ [])
one-more [] x = omega arith
one-more (y ∷ xs) x = let rest = one-more xs x in omega (arith, rest)

shorter : {A : Type 0} (all left : List A) (x : A) → all ≡ left ++ x ∷ [] → length left < length all
shorter all left x is = rw is (one-more left x)

pub returns-in-Some-clause-steps : goal.returns-in-Some-clause-steps
returns-in-Some-clause-steps g c =
    let slots = c.loop-self.self-inside.slots.now in
    let read = sym c.face.ensures ∙ ap option_copied c.in-Some.is in
    stepped-back slots c.index-slots-last.result c.in-Some.f.now c.args.self.now (some-left _ c.loop-self-test.ensures) c.index-slots-last.is read c.loop-self.invariant

pub returns-in-Some-clause-goes : goal.returns-in-Some-clause-goes
returns-in-Some-clause-goes g c =
    record { on = λ _. (tt, tt, shorter c.args.self.now _ c.in-Some.f.now (returns-in-Some-clause-steps g c)); keeps = tt; rests = λ _. tt }

pub loop-self-preserved : goal.loop-self-preserved
loop-self-preserved g c =
    let slots = c.loop-self.self-inside.slots.now in
    let read = sym c.face.ensures ∙ ap option_copied c.in_default.is in
    passed-back slots c.index-slots-last.result c.args.self.now (some-left _ c.loop-self-test.ensures) c.index-slots-last.is read c.loop-self.invariant

pub returns-clause-steps : goal.returns-clause-steps
returns-clause-steps g c =
    none-left c.loop-self.self-inside.slots.now c.args.self.now (eqb-true _ _ (sym c.loop-self-test.ensures)) c.loop-self.invariant
