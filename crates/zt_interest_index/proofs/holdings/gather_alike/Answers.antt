use Rattle.std.proofs.Common.{◌||◌, ap, sym, ◌∙◌}
use Rattle.std.proofs.lemmas.Result.{on_ok_weaker}
use Rattle.zt_interest_index.specs.Holdings.{is_among}
use Rattle.zt_interest_index.proofs.Alike.{asked-alike, or_none, unasked-alike}
use Rattle.zt_interest_index.proofs.holdings.gather_alike.Goals as goal

pub returns-then-is_about : goal.returns-then-is_about
returns-then-is_about g c =
    let asked = sym c.is_about.ensures ∙ c.if-is_about.true in
    on_ok_weaker c.add_faces.result
    (λ adds n.
    adds n
    ∙ ap (λ b. is_among n c.args.found.now.items || b)
    (asked-alike g.K.Key.matching c.args.expr.now n c.args.rows.now c.in-Some.first.now c.in-Some.ensures.value c.requires asked))
    c.add_faces.ensures

pub returns-else-is_about : goal.returns-else-is_about
returns-else-is_about g c n =
    let asked = sym c.is_about.ensures ∙ c.if-is_about.false in
    or_none (is_among n c.args.found.now.items)
    ∙ ap (λ b. is_among n c.args.found.now.items || b)
    (sym (unasked-alike g.K.Key.matching c.args.expr.now n c.args.rows.now c.in-Some.first.now c.in-Some.ensures.value c.requires asked))
