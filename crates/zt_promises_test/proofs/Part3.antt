-- The laws of these wrong transcripts, by evaluation.
-- Written by tools/wrong_to_antt.py; change the transcripts or the tool, and not this file.
use Rattle.std.proofs.Common.{refl, ap}
use Rattle.zt_model.specs.Promises.{KeepsExactly, IsSparing, IsMoreSparing, TellsOfRouters, SendsFinals, UndeclaresWhatIsGone, UndeclaresWhatWasKept, DrawsNextIds}
use Rattle.zt_promises_test.specs.Wrong.{Refuses, Allows, ToWhoWants, HasItsCause, NamesOpen, KeepsRightly, HasOtherTotals}
use Rattle.zt_promises_test.specs.Part3 as part
use Rattle.zt_promises_test.proofs.Apart.{never, differ, other_number, other_cause, lines_of}
use Rattle.zt_promises_test.proofs.Opened.{opened}

-- tells a new face to the north nothing of what is there
pub opened_without_tokens : Refuses KeepsExactly 4 part.opened_without_tokens
unfolding opened
opened_without_tokens = λ h. differ _ _ (h.0.1.0 refl refl 0 refl) refl

-- names another gateway than that of the face
pub other_gateway_named : Refuses NamesOpen 5 part.other_gateway_named
unfolding opened
other_gateway_named = λ h. never h.0 refl

-- lets a token stand when its declarer closes
pub stands_when_its_declarer_closes : Refuses KeepsRightly 6 part.stands_when_its_declarer_closes
unfolding opened
stands_when_its_declarer_closes = λ h. never ((h.0.0 refl).kept_is_visible 0 refl) refl

-- tells a subscriber without history nothing that a router declares
pub tokens_of_routers_not_told : Refuses TellsOfRouters 6 part.tokens_of_routers_not_told
unfolding opened
tokens_of_routers_not_told = λ h. never ((h.0 refl).1.0 refl refl refl refl) refl

-- drops its told rows at an interest's final and sends nothing
pub told_rows_dropped_in_silence : Refuses KeepsRightly 5 part.told_rows_dropped_in_silence
unfolding opened
told_rows_dropped_in_silence = λ h. never ((h.0.0 refl).kept_is_sought 0 refl) refl

-- tells what the admission table refuses
pub told_though_refused : Refuses IsMoreSparing 5 part.told_though_refused
unfolding opened
told_though_refused = λ h. never (h.0 refl refl) refl

-- tells a token under the id 0
pub told_under_id_zero : Refuses IsSparing 4 part.told_under_id_zero
unfolding opened
told_under_id_zero = λ h. never ((h.0 refl).0) refl

-- prints totals of zeros
pub totals_of_zeros : HasOtherTotals part.totals_of_zeros
unfolding opened
totals_of_zeros = λ h. other_number _ _ (ap lines_of h) refl

-- undeclares by expression what the face keeps under an id
pub undeclared_by_expression_though_kept : Refuses ToWhoWants 6 part.undeclared_by_expression_though_kept
unfolding opened
undeclared_by_expression_though_kept = λ h. never h.0.1.0.0 refl

-- undeclares by expression under an id other than 0
pub undeclared_by_expression_under_an_id : Refuses ToWhoWants 6 part.undeclared_by_expression_under_an_id
unfolding opened
undeclared_by_expression_under_an_id = λ h. never h.0.1.0.0 refl

-- tells a session that wants nothing that a token is gone
pub undeclared_for_who_wants_nothing : Refuses ToWhoWants 5 part.undeclared_for_who_wants_nothing
unfolding opened
undeclared_for_who_wants_nothing = λ h. never h.0.1.0.0 refl

-- undeclares by an id that the face never kept
pub undeclared_unkept : Refuses UndeclaresWhatWasKept 5 part.undeclared_unkept
unfolding opened
undeclared_unkept = λ h. never h.1.0 refl

-- undeclares when any one of several declarers leaves
pub undeclared_with_the_first_declarer : Refuses KeepsRightly 7 part.undeclared_with_the_first_declarer
unfolding opened
undeclared_with_the_first_declarer = λ h. never ((h.0.0 refl).admitted_is_kept 0 refl refl) refl

-- accepts what has a cause
pub unknown_face_accepted : Refuses HasItsCause 3 part.unknown_face_accepted
unfolding opened
unknown_face_accepted = λ h. other_cause _ _ h refl

-- at an interest's final also undeclares what another held interest of the face wants
pub untold_what_is_wanted : Refuses KeepsRightly 6 part.untold_what_is_wanted
unfolding opened
untold_what_is_wanted = λ h. never ((h.0.0 refl).admitted_is_kept 0 refl refl) refl

-- asks upstream under another id than the next one; all finals hold
pub upstream_under_another_id : Refuses DrawsNextIds 4 part.upstream_under_another_id
unfolding opened
upstream_under_another_id = λ h. never h.0.0.0 refl

-- asks upstream under another id than the next one; all finals hold
pub upstream_under_another_id_keeps : Allows SendsFinals 5 part.upstream_under_another_id
unfolding opened
upstream_under_another_id_keeps = record { asks = ((tt, ((refl, tt), tt)), tt); no_others = (refl, tt); come_last = ((tt, ((refl, tt), tt)), tt) }

-- undeclares by expression what is visible
pub visible_undeclared : Refuses UndeclaresWhatIsGone 6 part.visible_undeclared
unfolding opened
visible_undeclared = λ h. never refl (h.0 refl)
