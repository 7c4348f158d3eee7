use Rattle.std.proofs.Common.{ap, filter, ◌∙◌}
use Rattle.std.proofs.lemmas.Result.{on_ok_weaker}
use Rattle.zt_calls.proofs.Doing.{does-alter, does-both}
use Rattle.zt_model.specs.Parts.{to_each}
use Rattle.zt_model.specs.Rows.{Rows}
use Rattle.zt_model.specs.Trees.{is_newly_shown, router_regions, show_to, with_own_rows}
use Rattle.zt_calls.proofs.tokens.show_token.Goals as goal

pub returns : goal.returns
returns g c =
    let cmp = g.K.Ord.cmp in
    let e = c.args.expr.now in
    let source = c.args.source in
    let change : Rows g.row.K.Denot → Rows g.row.K.Denot = λ h. with_own_rows cmp (filter (is_newly_shown cmp h source e) (router_regions h)) e h in
    let one = c.in_ok-say.ensures (λ h. to_each (show_to cmp h source e) h.faces) c.in_ok-shown.ensures in
    let named = c.deref.ensures.value ∙ c.in_ok-regions.ensures in
    on_ok_weaker c.add_own_rows.result (λ added. does-both one (does-alter change (added ∙ ap (λ regions. with_own_rows cmp regions e c.say.new.g) named))) c.add_own_rows.ensures
