use Rattle.std.proofs.Common.{◌≡◌, ap, sym, ◌∙◌}
use Rattle.std.proofs.lemmas.Result.{IfOk-weaker, on_ok_weaker}
use Rattle.zt_token_index.specs.Held.{index_in_order}
use Rattle.zt_token_index.specs.Told.{id_of, told_at, with_face}
use Rattle.zt_token_index.proofs.Ordered.{changes-ordered, told-ordered}
use Rattle.zt_token_index.proofs.index.ToldIndex.tell.Goals as goal

pub returns-clause-ok : goal.returns-clause-ok
returns-clause-ok g c =
    rw (← c.self.view_is)
    (on_ok_weaker c.put_at.result
    (λ changes. changes-ordered g.K.Ord.cmp g.met.K.Ord.total c.args.expr.now (with_face c.args.face c.args.id) c.self.inside.faces.entries c.put_at.new.faces.entries changes)
    c.put_at.ensures.ok)

pub returns-clause-known : goal.returns-clause-known
returns-clause-known g c =
    let cmp = g.K.Ord.cmp in
    let expr = c.args.expr.now in
    let own = c.self.inside.faces.entries in
    let found = ap (id_of c.args.face) (sym (told-ordered cmp g.met.K.Ord.total expr own)) in
    rw (← c.self.view_is)
    (IfOk-weaker c.put_at.result (λ known. known ≡ id_of c.args.face (told_at cmp expr own)) (λ known. known ≡ id_of c.args.face (told_at cmp expr (index_in_order cmp own))) (λ known is. is ∙ found) c.put_at.ensures.known)
