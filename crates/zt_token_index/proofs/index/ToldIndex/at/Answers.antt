use Rattle.std.proofs.Common.{sym, ◌∙◌}
use Rattle.zt_token_index.proofs.Ordered.{told-ordered}
use Rattle.zt_token_index.proofs.index.ToldIndex.at.Goals as goal

pub returns-clause-told : goal.returns-clause-told
returns-clause-told g c =
    rw (← c.self.view_is)
    (c.pairs_at.ensures.pairs ∙ sym (told-ordered g.K.Ord.cmp g.met.K.Ord.total c.args.expr.now c.self.inside.faces.entries))
