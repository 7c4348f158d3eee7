-- Written by tools/premises_to_antt.py; change the scripts or the tool, and not this file.
use Rattle.zt_promises_test.proofs.Lacking as law
use Rattle.zt_promises_test.proofs.premises.asks_get_less.Goals as goal

pub returns : goal.returns
returns g = record {
  answer_without_an_id = law.answer_without_an_id;
  ended_before_the_final = law.ended_before_the_final;
  linked_after_the_asking = law.linked_after_the_asking;
  moment_before_the_final = law.moment_before_the_final;
  pair_refused = law.pair_refused;
  token_still_on_its_way = law.token_still_on_its_way;
  token_that_moves = law.token_that_moves;
  unlinked_before_the_final = law.unlinked_before_the_final;
}
