-- Written by tools/wrong_to_antt.py; change the transcripts or the tool, and not this file.
use Rattle.zt_promises_test.proofs.Part1 as law
use Rattle.zt_promises_test.proofs.part_1_is_refused.Goals as goal

pub returns : goal.returns
returns g = record {
  all_faces_unknown = law.all_faces_unknown;
  all_ids_spent = law.all_ids_spent;
  answer_after_the_final = law.answer_after_the_final;
  answer_lost = law.answer_lost;
  answer_to_no_token_ask = law.answer_to_no_token_ask;
  answered_by_a_stranger = law.answered_by_a_stranger;
  answered_twice = law.answered_twice;
  answered_what_is_nowhere = law.answered_what_is_nowhere;
  asked_twice = law.asked_twice;
  closed_face_named = law.closed_face_named;
  declared_anew_at_each_call = law.declared_anew_at_each_call;
  earlier_cause_passed_over = law.earlier_cause_passed_over;
  ended_what_never_stood = law.ended_what_never_stood;
  ended_while_another_mode_holds = law.ended_while_another_mode_holds;
  ended_while_another_region_holds = law.ended_while_another_region_holds;
  entities_out_of_order = law.entities_out_of_order;
  entity_after_the_final = law.entity_after_the_final;
  entity_answered_twice = law.entity_answered_twice;
  entity_left_out = law.entity_left_out;
}
