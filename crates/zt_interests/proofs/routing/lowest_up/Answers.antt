use Rattle.std.proofs.Common.{ℕ, Option, ap, sym, ◌∙◌}
use Rattle.zt_model.specs.Lists.{first_where, is_some_and}
use Rattle.zt_model.specs.Parts.{find_face}
use Rattle.zt_model.specs.Routing.{leads_up}
use Rattle.zt_interests.proofs.North.{first-here, first-later, first-none, lowest-up}
use Rattle.zt_interests.proofs.routing.lowest_up.Goals as goal

pub returns-then-leads_up_at : goal.returns-then-leads_up_at
returns-then-leads_up_at g c =
    let rows = c.args.g.now in
    let items = c.north-number-items.result.now in
    let leads = λ (n : ℕ). is_some_and (find_face n rows) (leads_up rows.mode) in
    let here = first-here leads items c.loop-number.number-index 0 c.loop-number-test.true (sym c.leads_up_at.ensures ∙ c.if-leads_up_at.true) in
    sym here ∙ c.loop-number.invariant ∙ ap (first_where leads) c.north-number-items.ensures.north ∙ lowest-up rows c.north-number-items.ensures.rising

pub loop-number-preserved : goal.loop-number-preserved
loop-number-preserved g c =
    let rows = c.args.g.now in
    let leads = λ (n : ℕ). is_some_and (find_face n rows) (leads_up rows.mode) in
    first-later leads c.north-number-items.result.now c.loop-number.number-index 0 c.loop-number-test.true (sym c.leads_up_at.ensures ∙ c.if-leads_up_at.false) ∙ c.loop-number.invariant

pub returns : goal.returns
returns g c =
    let rows = c.args.g.now in
    let leads = λ (n : ℕ). is_some_and (find_face n rows) (leads_up rows.mode) in
    let gone = first-none leads c.north-number-items.result.now c.loop-number.number-index c.loop-number-test.false in
    sym gone ∙ c.loop-number.invariant ∙ ap (first_where leads) c.north-number-items.ensures.north ∙ lowest-up rows c.north-number-items.ensures.rising
