use Rattle.std.proofs.Common.{ℕ, None, ap, ◌∙◌}
use Rattle.std.specs.List.{list_any}
use Rattle.zt_model.specs.Lists.{is_some_and}
use Rattle.zt_model.specs.Parts.{find_face}
use Rattle.zt_refusals.specs.Lacking.{lacks_among}
use Rattle.zt_refusals.proofs.Seekers.{seekers_lack}
use Rattle.zt_refusals.proofs.spending.do_seekers_lack.Goals as goal

pub returns-in-Some : goal.returns-in-Some
returns-in-Some g c =
    let rows = c.args.g.now in
    let pairs = c.told_at-told.result.now in
    let lacking = lacks_among g.K.Ord.cmp g.K.Key.matching c.args.face None c.args.expr.now rows pairs in
    let numbers = c.deref.ensures.value ∙ rw c.in-Some.is at c.in_ok-numbers.ensures.found in
    c.do_numbers_lack.ensures
    ∙ ap (list_any (λ (n : ℕ). is_some_and (find_face n rows) lacking)) numbers
    ∙ seekers_lack g.K.Ord.cmp g.K.Key.matching c.args.face c.args.expr.now c.args.from.now rows c.requires pairs c.in_ok-numbers.ensures.rising c.told_at-told.ensures.told.ids
