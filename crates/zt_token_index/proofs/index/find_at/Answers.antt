use Rattle.std.proofs.Common.{Some, None, ap, ◌∙◌}
use Rattle.zt_token_index.specs.Told.{id_of}
use Rattle.zt_token_index.proofs.Changed.{told-found}
use Rattle.zt_token_index.proofs.index.find_at.Goals as goal

pub returns-in-None : goal.returns-in-None
returns-in-None g c = ap (id_of c.args.face) (told-found g.K.Ord.cmp g.met.K.Ord.matches_eq None c.args.expr.now c.args.faces.now.entries c.in-None.ensures.value)

pub returns-in-Some : goal.returns-in-Some
returns-in-Some g c =
    c.id_of.ensures ∙ ap (id_of c.args.face) (told-found g.K.Ord.cmp g.met.K.Ord.matches_eq (Some c.in-Some.told.now) c.args.expr.now c.args.faces.now.entries c.in-Some.ensures.value)
