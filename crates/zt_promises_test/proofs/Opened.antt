-- What evaluation opens: the definitions of zt_model that are closed otherwise.
-- Written by tools/wrong_to_antt.py; change the transcripts or the tool, and not this file.
use Rattle.std.specs.Prelude.{ℕ}
use Rattle.zt_model.specs.Entities.{numbered_with, subscribers_for, queryables_for, entities_for}
use Rattle.zt_model.specs.Fabric.{call_of, line_causes, with_sent, sorted_by_face, printed_for, gateways_after_hearing, opened_ends, opening_calls, said_opening, closed_ends, said_closing, altered_by_line, said_by_line, fabric_after, entry_of, entries_from}
use Rattle.zt_model.specs.Hearing.{heard_all, messages_for, rows_heard}
use Rattle.zt_model.specs.Linking.{end_region, climbs_to}
use Rattle.zt_model.specs.Parts.{to_each, with_face, told_id, to_face, said_by, altered_by, unsaid_to}
use Rattle.zt_model.specs.Places.{number_from}
use Rattle.zt_model.specs.Promises.{turns_from, calls_in}
use Rattle.zt_model.specs.Refusals.{first_cause, need, spends_ids, call_causes, could, could_spend_ids}
use Rattle.zt_model.specs.Routing.{is_target, route_to, sent_as, is_held_south, untell_to, end_upstream_to, finish_to, interests_from, tokens_from, held_south}
use Rattle.zt_model.specs.Says.{parts_of}
use Rattle.zt_model.specs.Seen.{is_interested, may_hear, is_owed, is_seen, is_seen_and_admitted}
use Rattle.zt_model.specs.Shown.{rows_shown}
use Rattle.zt_model.specs.Telling.{tell_to, forget_to, answers_from, answered_expressions, answer_to}
use Rattle.zt_model.specs.Transcript.{face_numbered, with_openings, openings, with_closings, fabric_with, fabric_shown, report_of}
use Rattle.zt_model.specs.Trees.{counted_table, table_of, source_of, is_child, with_routed, without_routed, pass_to, unpass_to, is_newly_shown, show_to, with_own_rows, is_hidden, hide_to, without_own_rows, greet_to}
use Rattle.zt_model.specs.Visible.{is_visible, is_admitted, visible_expressions}
use Rattle.zt_model.specs.Wants.{wants, covers, seeks}
use Rattle.zt_theorem_exact_messages.specs.Entities.{subscribers_due, queryables_due, entities_asked}

unfoldable pub opened : ℕ
unfolding numbered_with subscribers_for queryables_for entities_for call_of line_causes with_sent sorted_by_face printed_for gateways_after_hearing opened_ends opening_calls said_opening closed_ends said_closing altered_by_line said_by_line fabric_after entry_of entries_from heard_all messages_for rows_heard end_region climbs_to to_each with_face told_id to_face said_by altered_by unsaid_to number_from turns_from calls_in first_cause need spends_ids call_causes could could_spend_ids is_target route_to sent_as is_held_south untell_to end_upstream_to finish_to interests_from tokens_from held_south parts_of is_interested may_hear is_owed is_seen is_seen_and_admitted rows_shown tell_to forget_to answers_from answered_expressions answer_to face_numbered with_openings openings with_closings fabric_with fabric_shown report_of counted_table table_of source_of is_child with_routed without_routed pass_to unpass_to is_newly_shown show_to with_own_rows is_hidden hide_to without_own_rows greet_to is_visible is_admitted visible_expressions wants covers seeks subscribers_due queryables_due entities_asked
opened = 0
