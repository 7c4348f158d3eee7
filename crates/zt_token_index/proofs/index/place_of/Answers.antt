use Rattle.std.proofs.Common.{sym, ◌∙◌}
use Rattle.zt_token_index.proofs.Placed.{stands-found, stands-nowhere, stands-there}
use Rattle.zt_token_index.proofs.index.place_of.Goals as goal

pub returns-then-eq-clause-found : goal.returns-then-eq-clause-found
returns-then-eq-clause-found g c =
    let there = rw c.as_slice.ensures.entries at c.in-Some.ensures.entry in
    stands-there g.K.Ord.cmp g.met.K.Ord.matches_eq g.met.K.Key.laws.equal_is_same g.met.K.Eq.laws c.args.expr.now c.args.faces.now.entries c.args.last (c.in-Some.key.now, c.in-Some.field-0-1.now) c.as_slice.ensures.unique there (sym c.if-eq.true ∙ c.eq.ensures)

pub returns-clause-found : goal.returns-clause-found
returns-clause-found g c = stands-found g.K.Ord.cmp g.met.K.Ord.matches_eq g.met.K.Key.laws.equal_is_same c.args.expr.now c.args.faces.now.entries c.get_index_of.result c.get_index_of.ensures.index

pub returns-clause-none : goal.returns-clause-none
returns-clause-none g c = stands-nowhere g.K.Ord.cmp g.met.K.Ord.matches_eq c.args.expr.now c.args.faces.now.entries c.get_index_of.result c.get_index_of.ensures.index
