use Rattle.std.proofs.Common.{ap, sym, ◌∙◌}
use Rattle.std.proofs.lemmas.Bool.{eqb-true}
use Rattle.std.specs.Map.Iter.{deref_pair}
use Rattle.std.specs.Option.{option_map}
use Rattle.zt_rows.proofs.Mapped.{none-behind, passed-back, shorter, some-left, stepped-back}
use Rattle.zt_rows.proofs.walk.IterDoubleEndedIterator.next_back.Goals as goal

pub returns-in-Some-entry-clause-steps : goal.returns-in-Some-entry-clause-steps
returns-in-Some-entry-clause-steps g c =
    let places = c.loop-self.self-inside.places.now in
    let read = sym c.entry.ensures ∙ ap (option_map deref_pair) c.in-Some-entry.is in
    stepped-back places c.index-places-last.result (deref_pair c.in-Some-entry.row) c.loop-self.self-inside.mapped c.args.self.now (some-left _ c.loop-self-test.ensures) c.index-places-last.is read c.loop-self.invariant

pub returns-in-Some-entry-clause-goes : goal.returns-in-Some-entry-clause-goes
returns-in-Some-entry-clause-goes g c =
    record { on = λ _. (tt, tt, shorter c.args.self.now _ (deref_pair c.in-Some-entry.row) (returns-in-Some-entry-clause-steps g c)); keeps = tt; rests = λ _. tt }

pub loop-self-preserved : goal.loop-self-preserved
loop-self-preserved g c =
    let places = c.loop-self.self-inside.places.now in
    let read = sym c.entry.ensures ∙ ap (option_map deref_pair) c.in_default-entry.is in
    passed-back places c.index-places-last.result c.loop-self.self-inside.mapped c.args.self.now (some-left _ c.loop-self-test.ensures) c.index-places-last.is read c.loop-self.invariant

pub returns-clause-steps : goal.returns-clause-steps
returns-clause-steps g c =
    none-behind c.loop-self.self-inside.places.now c.loop-self.self-inside.mapped c.args.self.now (eqb-true _ _ (sym c.loop-self-test.ensures)) c.loop-self.invariant
