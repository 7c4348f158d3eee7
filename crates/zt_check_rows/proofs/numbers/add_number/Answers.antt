use Rattle.std.proofs.Common.{◌≡◌, true, false, [], ◌∷◌, ◌++◌, ap, sym, ◌∙◌}
use Rattle.zt_model.specs.Lists.{is_among}
use Rattle.zt_check_rows.proofs.Counted.{number_known, number_new}
use Rattle.zt_check_rows.proofs.numbers.add_number.Goals as goal

pub returns-then-is_among : goal.returns-then-is_among
returns-then-is_among g c =
    let there : is_among g.K.Ord.cmp c.args.expr.now c.args.known.now.items ≡ true = rw c.as_slice.ensures.value at (sym c.is_among.ensures ∙ c.if-is_among.true) in
    number_known g.K.Ord.cmp c.args.expr.now c.args.known.now.items there

pub returns : goal.returns
returns g c =
    let new : is_among g.K.Ord.cmp c.args.expr.now c.args.known.now.items ≡ false = rw c.as_slice.ensures.value at (sym c.is_among.ensures ∙ c.if-is_among.false) in
    c.in_ok-push.ensures.items ∙ ap (λ (e : g.row.K.Denot). c.args.known.now.items ++ e ∷ []) c.in_ok-copy.ensures ∙ number_new g.K.Ord.cmp c.args.expr.now c.args.known.now.items new
