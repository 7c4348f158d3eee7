-- Written by tools/wrong_to_antt.py; change the transcripts or the tool, and not this file.
use Rattle.zt_promises_test.proofs.Part2 as law
use Rattle.zt_promises_test.proofs.part_2_is_refused.Goals as goal

pub returns : goal.returns
returns g = record {
  everybody_is_told = law.everybody_is_told;
  faces_out_of_order = law.faces_out_of_order;
  final_at_expiry_and_again = law.final_at_expiry_and_again;
  final_at_once_and_nobody_asked = law.final_at_once_and_nobody_asked;
  final_at_once = law.final_at_once;
  final_before_the_last_pending = law.final_before_the_last_pending;
  final_never = law.final_never;
  first_line_only = law.first_line_only;
  future_interest_finished = law.future_interest_finished;
  id_passed_over = law.id_passed_over;
  ids_spent_by_an_undeclaration = law.ids_spent_by_an_undeclaration;
  later_tokens_not_told = law.later_tokens_not_told;
  never_ended_upstream = law.never_ended_upstream;
  never_recorded = law.never_recorded;
  never_undeclared = law.never_undeclared;
  no_initial_final = law.no_initial_final;
  nobody_is_told = law.nobody_is_told;
  node_of_another_router = law.node_of_another_router;
  node_outside_router_regions = law.node_outside_router_regions;
  opened_without_interests = law.opened_without_interests;
}
