use Rattle.std.proofs.Common.{ap, ◌∙◌}
use Rattle.zt_calls.proofs.Doing.{does-alter, does-both}
use Rattle.zt_calls.proofs.OwnRowsGo.{own_rows_go}
use Rattle.zt_model.specs.Parts.{to_each}
use Rattle.zt_model.specs.Trees.{hide_to, without_own_rows}
use Rattle.zt_state.specs.OwnRows.{without_own_in}
use Rattle.zt_calls.proofs.tokens.hide_token.Goals as goal

pub returns : goal.returns
returns g c =
    let cmp = g.K.Ord.cmp in
    let e = c.args.expr.now in
    let source = c.args.source in
    let named = c.deref.ensures.value ∙ c.in_ok-regions.ensures in
    let gone = c.drop_own_rows.ensures ∙ ap (λ regions. without_own_in cmp regions e c.say.new.g) named ∙ own_rows_go cmp source e c.say.new.g in
    does-both (c.in_ok-say.ensures (λ h. to_each (hide_to cmp h source e) h.faces) c.in_ok-hidden.ensures) (does-alter (without_own_rows cmp source e) gone)
