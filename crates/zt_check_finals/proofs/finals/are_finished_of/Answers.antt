use Rattle.std.proofs.Common.{◌≡◌, ◌==◌, ◌||◌, not, true, rules, sym, ap, ◌∙◌, eq-eqb}
use Rattle.std.specs.List.{list_all}
use Rattle.zt_check_finals.specs.Finishing.{is_finished_at}
use Rattle.zt_check_finals.proofs.finals.are_finished_of.Goals as goal

pub returns-else-number : goal.returns-else-number
returns-else-number g c =
    let x = c.args in
    let same : x.number ≡ x.face.now.number = search (rules, c.if-number.false, c.number.ensures) in
    let own : (x.number == x.face.now.number) ≡ true = eq-eqb x.number x.face.now.number same in
    c.are_finished_among.ensures
    ∙ sym (ap (λ b. not b || list_all (is_finished_at x.fabric.now x.finalised x.sents.now x.gateway x.rows.now x.face.now x.id) x.face.now.asks) own)
