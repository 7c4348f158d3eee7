-- The laws of these scripts, by evaluation.
-- Written by tools/scripts_to_antt.py; change the scripts or the tool, and not this file.
use Rattle.std.specs.Prelude.{refl}
use Rattle.zt_model_test.specs.Script.{ComesOut}
use Rattle.zt_model_test.specs.Part1 as part
use Rattle.zt_model_test.proofs.Opened.{opened}

pub admission : ComesOut part.admission
unfolding opened
admission = (refl, refl)

pub aggregates : ComesOut part.aggregates
unfolding opened
aggregates = (refl, refl)

pub answers : ComesOut part.answers
unfolding opened
answers = (refl, refl)

pub asks_after_a_final_0 : ComesOut part.asks_after_a_final_0
unfolding opened
asks_after_a_final_0 = (refl, refl)

pub asks_in_a_tree : ComesOut part.asks_in_a_tree
unfolding opened
asks_in_a_tree = (refl, refl)

pub bad_byte : ComesOut part.bad_byte
unfolding opened
bad_byte = (refl, refl)

pub bad_byte_unended : ComesOut part.bad_byte_unended
unfolding opened
bad_byte_unended = (refl, refl)

pub bad_word : ComesOut part.bad_word
unfolding opened
bad_word = (refl, refl)

pub cancelling_across_regions : ComesOut part.cancelling_across_regions
unfolding opened
cancelling_across_regions = (refl, refl)

pub client_token_repropagation : ComesOut part.client_token_repropagation
unfolding opened
client_token_repropagation = (refl, refl)

pub closing_amid_asks : ComesOut part.closing_amid_asks
unfolding opened
closing_amid_asks = (refl, refl)

pub concurrent_interests : ComesOut part.concurrent_interests
unfolding opened
concurrent_interests = (refl, refl)

pub concurrent_interests_client_both : ComesOut part.concurrent_interests_client_both
unfolding opened
concurrent_interests_client_both = (refl, refl)

pub concurrent_interests_client_faces : ComesOut part.concurrent_interests_client_faces
unfolding opened
concurrent_interests_client_faces = (refl, refl)

pub concurrent_interests_client_gateway : ComesOut part.concurrent_interests_client_gateway
unfolding opened
concurrent_interests_client_gateway = (refl, refl)

pub current_interest_finalized_client : ComesOut part.current_interest_finalized_client
unfolding opened
current_interest_finalized_client = (refl, refl)

pub current_interest_finalized_peer : ComesOut part.current_interest_finalized_peer
unfolding opened
current_interest_finalized_peer = (refl, refl)

pub current_interest_finalized_router : ComesOut part.current_interest_finalized_router
unfolding opened
current_interest_finalized_router = (refl, refl)

pub current_token_repropagation : ComesOut part.current_token_repropagation
unfolding opened
current_token_repropagation = (refl, refl)

pub empty_script : ComesOut part.empty_script
unfolding opened
empty_script = (refl, refl)

pub entities : ComesOut part.entities
unfolding opened
entities = (refl, refl)

pub entities_of_a_region : ComesOut part.entities_of_a_region
unfolding opened
entities_of_a_region = (refl, refl)

pub equal_ids_at_two_faces : ComesOut part.equal_ids_at_two_faces
unfolding opened
equal_ids_at_two_faces = (refl, refl)
