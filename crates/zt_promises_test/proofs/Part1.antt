-- The laws of these wrong transcripts, by evaluation.
-- Written by tools/wrong_to_antt.py; change the transcripts or the tool, and not this file.
use Rattle.std.proofs.Common.{⊎_elim, Some, refl, ap}
use Rattle.zt_protocol.specs.Refusal.{number_of}
use Rattle.zt_protocol.specs.declared.interests.InterestMode.TheVariants.{Future}
use Rattle.zt_model.specs.Promises.{IsSparing, AnswersAsks, SendsFinals, SendsUpstream, EndsUpstream, EndsWhatStands}
use Rattle.zt_model_test.specs.Script.{options}
use Rattle.zt_promises_test.specs.Wrong.{Refuses, EntitiesDue, HasItsCause, NamesOpen, IsNotTheMachines}
use Rattle.zt_promises_test.specs.Part1 as part
use Rattle.zt_promises_test.proofs.Apart.{never, differ, other_number, other_list, other_cause, first_number, messages_of_all}
use Rattle.zt_promises_test.proofs.Opened.{opened}

-- refuses every call with UnknownFace
pub all_faces_unknown : Refuses HasItsCause 3 part.all_faces_unknown
unfolding opened
all_faces_unknown = λ h. ⊎_elim (λ e. other_cause _ _ e refl) (λ p. other_number _ _ (ap number_of p.0) refl) h

-- refuses every call with IdsSpent
pub all_ids_spent : Refuses HasItsCause 3 part.all_ids_spent
unfolding opened
all_ids_spent = λ h. ⊎_elim (λ e. other_cause _ _ e refl) (λ p. never p.2 refl) h

-- answers an ask after its final
pub answer_after_the_final : Refuses SendsFinals 4 part.answer_after_the_final
unfolding opened
answer_after_the_final = λ h. never refl h.come_last.0.0.0

-- hands on no answer from above
pub answer_lost : Refuses AnswersAsks 5 part.answer_lost
unfolding opened
answer_lost = λ h. never ((h.0.1.0.0 refl).each_declared 0 refl refl) refl

-- answers tokens to an ask for subscribers
pub answer_to_no_token_ask : Refuses IsSparing 4 part.answer_to_no_token_ask
unfolding opened
answer_to_no_token_ask = λ h. never (h.0 refl) refl

-- answers an ask later what was declared under none of its pendings
pub answered_by_a_stranger : Refuses AnswersAsks 5 part.answered_by_a_stranger
unfolding opened
answered_by_a_stranger = λ h. never ((h.0.1.0.0 refl).only_declared refl 0 refl) refl

-- answers one expression twice from two upstreams
pub answered_twice : Refuses AnswersAsks 7 part.answered_twice
unfolding opened
answered_twice = λ h. never (h.0.1.1.0.0 refl).once refl

-- answers with id 0 an expression that is live nowhere
pub answered_what_is_nowhere : Refuses AnswersAsks 4 part.answered_what_is_nowhere
unfolding opened
answered_what_is_nowhere = λ h. differ _ _ ((h.0.0.0 refl).at_once refl 0) refl

-- asks one upstream twice
pub asked_twice : Refuses SendsUpstream 4 part.asked_twice
unfolding opened
asked_twice = λ h. other_list _ _ h.0.0 refl

-- prints a message for a closed face
pub closed_face_named : Refuses NamesOpen 5 part.closed_face_named
unfolding opened
closed_face_named = λ h. never h.0 refl

-- undeclares and declares everything again at each call
pub declared_anew_at_each_call : IsNotTheMachines part.declared_anew_at_each_call
unfolding opened
declared_anew_at_each_call = λ h. other_number _ _ (ap messages_of_all h) refl

-- answers with a later cause than the first
pub earlier_cause_passed_over : Refuses HasItsCause 3 part.earlier_cause_passed_over
unfolding opened
earlier_cause_passed_over = λ h. ⊎_elim (λ e. other_cause _ _ e refl) (λ p. other_number _ _ (ap number_of p.0) refl) h

-- ends an upstream interest that never stood
pub ended_what_never_stood : Refuses EndsWhatStands 5 part.ended_what_never_stood
unfolding opened
ended_what_never_stood = λ h. never h.0.0.1.0 refl

-- ends an upstream interest while another mode holds its pair
pub ended_while_another_mode_holds : Refuses EndsUpstream 6 part.ended_while_another_mode_holds
unfolding opened
ended_while_another_mode_holds = λ h. differ _ _ (h.0.0 refl (record { mode = Future; options = (options 8); expr = Some 0 })) refl

-- ends an upstream interest while another region holds its pair
pub ended_while_another_region_holds : Refuses EndsUpstream 7 part.ended_while_another_region_holds
unfolding opened
ended_while_another_region_holds = λ h. differ _ _ (h.0.0 refl (record { mode = Future; options = (options 8); expr = Some 0 })) refl

-- answers subscribers out of order of their expressions
pub entities_out_of_order : Refuses EntitiesDue 5 part.entities_out_of_order
unfolding opened
entities_out_of_order = λ h. other_number _ _ (ap first_number h.0.0) refl

-- answers an interest a subscriber after its final
pub entity_after_the_final : Refuses EntitiesDue 5 part.entity_after_the_final
unfolding opened
entity_after_the_final = λ h. other_list _ _ h.0.0 refl

-- answers one queryable twice
pub entity_answered_twice : Refuses EntitiesDue 5 part.entity_answered_twice
unfolding opened
entity_answered_twice = λ h. other_list _ _ h.0.0 refl

-- answers an interest in subscribers one of two
pub entity_left_out : Refuses EntitiesDue 5 part.entity_left_out
unfolding opened
entity_left_out = λ h. other_list _ _ h.0.0 refl
