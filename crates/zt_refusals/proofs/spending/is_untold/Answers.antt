use Rattle.std.proofs.Common.{◌≡◌, Bool, true, false, not, ap, is_some, refl, sym, ◌∙◌}
use Rattle.zt_tokens.proofs.Told.{told_is_some}
use Rattle.zt_refusals.proofs.spending.is_untold.Goals as goal

turned : (a b : Bool) → a ≡ not b → b ≡ not a
turned a true h = rw h refl
turned a false h = rw h refl

pub returns : goal.returns
returns g c = λ f open_.
    let told = rw open_ at c.told_id.ensures in
    turned _ c.is_none.result (sym (ap is_some told ∙ told_is_some g.K.Ord.cmp c.args.expr.now f.told) ∙ c.is_none.ensures)
