use Rattle.std.proofs.Common.{ap, sym, ◌∙◌}
use Rattle.std.specs.Prelude.{Some}
use Rattle.zt_keys.proofs.Listed.{number-double, number-single, number-named}
use Rattle.zt_keys.proofs.chunk_numbers.chunk_number.Goals as goal
use Rattle.zt_keys.proofs.chunk_numbers.chunk_number.Goals.{then-is_double-via-then-is_double, then-is_double-via-else-is_double+then-is_single}

pub returns-then-is_double : goal.returns-then-is_double
returns-then-is_double c =
    elim c.then-is_double.branch [
      | then-is_double-via-then-is_double w ↦ number-double _ (sym c.is_double.ensures ∙ w.if-is_double.true)
      | then-is_double-via-else-is_double+then-is_single w ↦ number-single _ (sym c.is_double.ensures ∙ w.if-is_double.false) (sym w.is_single.ensures ∙ w.if-is_single.true)
    ]

pub returns : goal.returns
returns c = ap Some c.hash_of.ensures ∙ number-named _ (sym c.is_double.ensures ∙ c.if-is_double.false) (sym c.is_single.ensures ∙ c.if-is_single.false)
