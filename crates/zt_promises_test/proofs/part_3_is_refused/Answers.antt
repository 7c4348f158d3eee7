-- Written by tools/wrong_to_antt.py; change the transcripts or the tool, and not this file.
use Rattle.zt_promises_test.proofs.Part3 as law
use Rattle.zt_promises_test.proofs.part_3_is_refused.Goals as goal

pub returns : goal.returns
returns g = record {
  opened_without_tokens = law.opened_without_tokens;
  other_gateway_named = law.other_gateway_named;
  stands_when_its_declarer_closes = law.stands_when_its_declarer_closes;
  tokens_of_routers_not_told = law.tokens_of_routers_not_told;
  told_rows_dropped_in_silence = law.told_rows_dropped_in_silence;
  told_though_refused = law.told_though_refused;
  told_under_id_zero = law.told_under_id_zero;
  totals_of_zeros = law.totals_of_zeros;
  undeclared_by_expression_though_kept = law.undeclared_by_expression_though_kept;
  undeclared_by_expression_under_an_id = law.undeclared_by_expression_under_an_id;
  undeclared_for_who_wants_nothing = law.undeclared_for_who_wants_nothing;
  undeclared_unkept = law.undeclared_unkept;
  undeclared_with_the_first_declarer = law.undeclared_with_the_first_declarer;
  unknown_face_accepted = law.unknown_face_accepted;
  untold_what_is_wanted = law.untold_what_is_wanted;
  upstream_under_another_id = law.upstream_under_another_id;
  upstream_under_another_id_keeps = law.upstream_under_another_id_keeps;
  visible_undeclared = law.visible_undeclared;
}
