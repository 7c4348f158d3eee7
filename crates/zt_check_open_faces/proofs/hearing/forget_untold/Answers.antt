use Rattle.std.proofs.Common.{◌≡◌, false, rules, sym, ◌∙◌}
use Rattle.zt_check_open_faces.specs.Found.{was_told}
use Rattle.zt_check_open_faces.proofs.Telling.{passes_part, told_forgotten}
use Rattle.zt_check_open_faces.proofs.hearing.forget_untold.Goals as goal

pub returns-then-not-is_told_in : goal.returns-then-not-is_told_in
returns-then-not-is_told_in g c =
    let cmp = g.K.Ord.cmp in
    let none : c.is_told_in.result ≡ false = search rules in
    let off = sym (passes_part (was_told cmp c.args.expr.now) c.args.number c.part_of.result.now c.args.faces.now c.part_of.ensures) ∙ (sym c.is_told_in.ensures ∙ none) in
    told_forgotten cmp g.met.K.Key.laws.equal_is_same c.args.number c.args.expr.now c.args.told.now c.drop_alike.new.self c.args.faces.now off c.drop_alike.ensures.kept c.drop_alike.ensures.others c.requires.told
