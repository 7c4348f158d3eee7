-- The laws of these wrong transcripts, by evaluation.
-- Written by tools/wrong_to_antt.py; change the transcripts or the tool, and not this file.
use Rattle.std.proofs.Common.{Some, refl}
use Rattle.zt_protocol.specs.declared.interests.InterestMode.TheVariants.{Future}
use Rattle.zt_model.specs.Promises.{IsSparing, TellsTheFuture, AnswersAsks, SendsFinals, FinishesInitial, SendsUpstream, EndsUpstream, DrawsNextIds}
use Rattle.zt_model_test.specs.Script.{options}
use Rattle.zt_promises_test.specs.Wrong.{Refuses, GivenNodes, LacksItsIds, IsInForm, KeepsRightly, LacksEntries}
use Rattle.zt_promises_test.specs.Part2 as part
use Rattle.zt_promises_test.proofs.Apart.{never, differ, other_number, other_list, other_cause}
use Rattle.zt_promises_test.proofs.Opened.{opened}

-- tells every visible token to every face, interests ignored
pub everybody_is_told : Refuses IsSparing 4 part.everybody_is_told
unfolding opened
everybody_is_told = λ h. never ((h.0 refl).1) refl

-- prints messages out of order of face
pub faces_out_of_order : Refuses IsInForm 6 part.faces_out_of_order
unfolding opened
faces_out_of_order = λ h. never h.in_order.0 refl

-- sends a second final after expiry
pub final_at_expiry_and_again : Refuses SendsFinals 6 part.final_at_expiry_and_again
unfolding opened
final_at_expiry_and_again = λ h. never h.no_others.0 refl

-- sends every final at once and asks nobody north
pub final_at_once_and_nobody_asked : Refuses SendsUpstream 4 part.final_at_once_and_nobody_asked
unfolding opened
final_at_once_and_nobody_asked = λ h. other_list _ _ h.0.0 refl

-- asks north and sends the final at once
pub final_at_once : Refuses SendsFinals 4 part.final_at_once
unfolding opened
final_at_once = λ h. other_number _ _ h.asks.0.1.0.0 refl

-- ends an ask with the first of two pendings
pub final_before_the_last_pending : Refuses SendsFinals 6 part.final_before_the_last_pending
unfolding opened
final_before_the_last_pending = λ h. other_number _ _ h.asks.0.1.1.0.0 refl

-- never sends the final
pub final_never : Refuses SendsFinals 5 part.final_never
unfolding opened
final_never = λ h. other_number _ _ h.asks.0.1.0.0 refl

-- prints the entry of the first line alone
pub first_line_only : LacksEntries part.first_line_only
unfolding opened
first_line_only = λ h. h.3

-- finishes an interest that asked for nothing
pub future_interest_finished : Refuses SendsFinals 3 part.future_interest_finished
unfolding opened
future_interest_finished = λ h. never h.no_others.0 refl

-- passes over an id
pub id_passed_over : Refuses DrawsNextIds 4 part.id_passed_over
unfolding opened
id_passed_over = λ h. never h.0.0.0 refl

-- refuses a call for want of ids that draws none
pub ids_spent_by_an_undeclaration : Refuses LacksItsIds 7 part.ids_spent_by_an_undeclaration
unfolding opened
ids_spent_by_an_undeclaration = λ h. other_cause _ _ (h refl).0 refl

-- tells a subscriber without history nothing
pub later_tokens_not_told : Refuses TellsTheFuture 4 part.later_tokens_not_told
unfolding opened
later_tokens_not_told = λ h. never ((h.0 refl).0 refl refl refl refl) refl

-- never ends an upstream interest
pub never_ended_upstream : Refuses EndsUpstream 5 part.never_ended_upstream
unfolding opened
never_ended_upstream = λ h. differ _ _ (h.0.0 refl (record { mode = Future; options = (options 8); expr = Some 0 })) refl

-- accepts declarations and never records them: the ask is answered nothing
pub never_recorded : Refuses AnswersAsks 4 part.never_recorded
unfolding opened
never_recorded = λ h. differ _ _ ((h.0.0.0 refl).at_once refl 0) refl

-- never undeclares
pub never_undeclared : Refuses KeepsRightly 5 part.never_undeclared
unfolding opened
never_undeclared = λ h. never ((h.0.0 refl).kept_is_visible 0 refl) refl

-- sends a new mutual peer no final of its initial interest
pub no_initial_final : Refuses FinishesInitial 2 part.no_initial_final
unfolding opened
no_initial_final = λ h. other_number _ _ (h.0.0 refl) refl

-- sends nothing: a declared token is told to nobody
pub nobody_is_told : Refuses KeepsRightly 4 part.nobody_is_told
unfolding opened
nobody_is_told = λ h. never ((h.0.0 refl).admitted_is_kept 0 refl refl) refl

-- sends a token along a tree with the node id of another router
pub node_of_another_router : Refuses GivenNodes 5 part.node_of_another_router
unfolding opened
node_of_another_router = λ h. never h.0 refl

-- tells a session a token with a node id
pub node_outside_router_regions : Refuses GivenNodes 5 part.node_outside_router_regions
unfolding opened
node_outside_router_regions = λ h. never h.0 refl

-- sends a new face to the north no interests
pub opened_without_interests : Refuses SendsUpstream 4 part.opened_without_interests
unfolding opened
opened_without_interests = λ h. other_list _ _ h.0.1.0 refl
