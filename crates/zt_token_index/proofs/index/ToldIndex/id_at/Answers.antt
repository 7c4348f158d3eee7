use Rattle.std.proofs.Common.{ap, sym, ◌∙◌}
use Rattle.zt_token_index.specs.Told.{id_of}
use Rattle.zt_token_index.proofs.Ordered.{told-ordered}
use Rattle.zt_token_index.proofs.index.ToldIndex.id_at.Goals as goal

pub returns : goal.returns
returns g c =
    rw (← c.self.view_is)
    (c.find_at.ensures ∙ ap (id_of c.args.face) (sym (told-ordered g.K.Ord.cmp g.met.K.Ord.total c.args.expr.now c.self.inside.faces.entries)))
