use Rattle.std.proofs.Common.{◌∙◌, ◌++◌, ◌==◌, ℕ, ap, not, subst, sym}
use Rattle.zt_model.specs.Lists.{without_id}
use Rattle.zt_rows.specs.ById.{IsInOrder}
use Rattle.zt_rows.specs.Places.{rows_in}
use Rattle.zt_rows.proofs.ById.{at_is, remove_is}
use Rattle.zt_rows.proofs.Found.{some_ordered}
use Rattle.zt_rows.proofs.Mapped.{at-behind, at-front, behind-ordered, without-both, without-front}
use Rattle.zt_rows.proofs.rows.RowsById.take.Goals as goal

pub returns-in-None-clause-row : goal.returns-in-None-clause-row
returns-in-None-clause-row g c =
    let rows = rows_in c.self.inside.places.items in
    rw (← c.self.view_is) (c.remove.ensures.value ∙ at_is c.args.id c.self.inside.mapped.entries ∙ sym (at-behind c.args.id rows c.self.inside.mapped.entries (sym c.in-None.ensures.row)))

pub returns-in-None-clause-rest : goal.returns-in-None-clause-rest
returns-in-None-clause-rest g c =
    let rows = rows_in c.self.inside.places.items in
    let mapped = c.self.inside.mapped.entries in
    rw (← c.self.view_is)
    (ap (λ front. front ++ c.remove.new.self.entries) c.in-None.ensures.rest
    ∙ ap (λ rest. without_id c.args.id rows ++ rest) (c.remove.ensures.entries ∙ remove_is c.args.id mapped (behind-ordered rows mapped c.self.invariant.1)) ∙ sym (without-both c.args.id rows mapped))

pub returns-in-Some-clause-row : goal.returns-in-Some-clause-row
returns-in-Some-clause-row g c =
    let rows = rows_in c.self.inside.places.items in
    rw (← c.self.view_is) (sym (at-front c.args.id c.in-Some.row rows c.self.inside.mapped.entries (sym c.in-Some.ensures.row)))

pub returns-in-Some-clause-rest : goal.returns-in-Some-clause-rest
returns-in-Some-clause-rest g c =
    let rows = rows_in c.self.inside.places.items in
    let mapped = c.self.inside.mapped.entries in
    rw (← c.self.view_is)
    (ap (λ front. front ++ mapped) (c.tidy-self-inside.ensures.rows ∙ c.in-Some.ensures.rest) ∙ sym (without-front c.args.id c.in-Some.row rows mapped c.self.invariant.1 (sym c.in-Some.ensures.row)))

pub invariant_of-self : goal.invariant_of-self
invariant_of-self g c =
    let rest = some_ordered (λ (row : ℕ × g.row.X.Denot). not (c.args.id == row.0)) c.args.self.now (subst IsInOrder c.self.view_is c.self.invariant.1) in
    (c.in-None.ensures.rising, subst IsInOrder (sym (returns-in-None-clause-rest g c)) rest)

pub invariant_of-self-in-Some : goal.invariant_of-self-in-Some
invariant_of-self-in-Some g c =
    let rest = some_ordered (λ (row : ℕ × g.row.X.Denot). not (c.args.id == row.0)) c.args.self.now (subst IsInOrder c.self.view_is c.self.invariant.1) in
    (c.tidy-self-inside.ensures.rising, subst IsInOrder (sym (returns-in-Some-clause-rest g c)) rest)
