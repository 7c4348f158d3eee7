use Rattle.std.proofs.Common.{Some, None, ◌∙◌}
use Rattle.zt_token_index.proofs.Changed.{told-found}
use Rattle.zt_token_index.proofs.index.pairs_at.Goals as goal

pub returns-in-None-clause-pairs : goal.returns-in-None-clause-pairs
returns-in-None-clause-pairs g c = told-found g.K.Ord.cmp g.met.K.Ord.matches_eq None c.args.expr.now c.args.faces.now.entries c.in-None.ensures.value

pub returns-in-Some-clause-pairs : goal.returns-in-Some-clause-pairs
returns-in-Some-clause-pairs g c =
    c.as_slice.ensures.pairs ∙ told-found g.K.Ord.cmp g.met.K.Ord.matches_eq (Some c.in-Some.told.now) c.args.expr.now c.args.faces.now.entries c.in-Some.ensures.value
