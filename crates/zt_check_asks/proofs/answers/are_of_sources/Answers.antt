use Rattle.std.proofs.Common.{not, ap, sym, ◌∙◌}
use Rattle.zt_check_asks.specs.Answering.{are_of_faces}
use Rattle.zt_check_asks.proofs.Found.{missing_tried}
use Rattle.zt_check_asks.proofs.answers.are_of_sources.Goals as goal

pub returns-in-Some : goal.returns-in-Some
returns-in-Some g c =
    let x = c.args in
    let cmp = g.K.Ord.cmp in
    let matching = g.K.Key.matching in
    ap not c.any_near.ensures
    ∙ (missing_tried cmp matching x.own c.in-Some.key x.answers.now x.rows.now.faces ∙ ap (λ asked. are_of_faces cmp matching x.own asked x.answers.now x.rows.now.faces) (sym c.in-Some.is))
