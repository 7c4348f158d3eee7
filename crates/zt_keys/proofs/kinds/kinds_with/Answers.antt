use Rattle.std.proofs.Common.{ap, sym, ◌∙◌, bit_and}
use Rattle.zt_keys.proofs.Agree.{double-kinds, named-kinds, single-kinds}
use Rattle.zt_keys.proofs.kinds.kinds_with.Goals as goal
use Rattle.zt_keys.proofs.kinds.kinds_with.Goals.{then-is_double-via-then-is_double, then-is_double-via-else-is_double+then-is_single}

pub returns-then-is_double : goal.returns-then-is_double
returns-then-is_double c =
    elim c.then-is_double.branch [
      | then-is_double-via-then-is_double w ↦ double-kinds _ _ (sym c.is_double.ensures ∙ w.if-is_double.true)
      | then-is_double-via-else-is_double+then-is_single w ↦ single-kinds _ _ (sym c.is_double.ensures ∙ w.if-is_double.false) (sym w.is_single.ensures ∙ w.if-is_single.true)
    ]

pub returns : goal.returns
returns c = ap (bit_and c.args.kinds) c.other_kinds.ensures ∙ named-kinds _ _ (sym c.is_double.ensures ∙ c.if-is_double.false) (sym c.is_single.ensures ∙ c.if-is_single.false)
