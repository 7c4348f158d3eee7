-- Written by tools/premises_to_antt.py; change the scripts or the tool, and not this file.
use Rattle.zt_promises_test.proofs.Lacking as law
use Rattle.zt_promises_test.proofs.premises.asks_get_more.Goals as goal

pub returns : goal.returns
returns g = record {
  answered_from_above = law.answered_from_above;
  gone_and_still_told = law.gone_and_still_told;
}
