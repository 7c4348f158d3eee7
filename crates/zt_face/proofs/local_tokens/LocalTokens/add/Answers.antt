use Rattle.std.proofs.Common.{◌++◌, ◌∷◌, [], ap, sym, ◌∙◌}
use Rattle.std.proofs.lemmas.Result.{on_ok_weaker}
use Rattle.std.specs.Cmp.{eq_by_cmp_equiv}
use Rattle.zt_face.proofs.Told.{with_known, with_new}
use Rattle.zt_face.proofs.local_tokens.LocalTokens.add.Goals as goal

pub returns-in_ok-copy-in-None : goal.returns-in_ok-copy-in-None
returns-in_ok-copy-in-None g c =
    let rows = c.self.inside.rows in
    let id = c.args.id in
    rw (← c.self.view_is)
    (on_ok_weaker c.push.result
    (λ put. put ∙ ap (λ e. rows ++ (id, e) ∷ []) c.in_ok-copy-in-None.ensures ∙ with_new g.K.Ord.cmp id c.args.expr.now rows c.in-None.ensures.row)
    c.push.ensures.ok)

pub returns-in-Some : goal.returns-in-Some
returns-in-Some g c =
    let e = c.args.expr.now in
    let known = c.in-Some.known.now in
    let tied = (eq_by_cmp_equiv g.met.K.Ord.total).symm e known ∙ sym (g.met.K.Ord.matches_eq known e) ∙ sym c.eq.ensures ∙ c.if-eq.true in
    rw (← c.self.view_is) (with_known g.K.Ord.cmp c.args.id e known c.self.inside.rows c.in-Some.ensures.row tied)
