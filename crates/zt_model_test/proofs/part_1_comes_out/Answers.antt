-- Written by tools/scripts_to_antt.py; change the scripts or the tool, and not this file.
use Rattle.zt_model_test.proofs.Part1 as law
use Rattle.zt_model_test.proofs.part_1_comes_out.Goals as goal

pub returns : goal.returns
returns g = record {
  admission = law.admission;
  aggregates = law.aggregates;
  answers = law.answers;
  asks_after_a_final_0 = law.asks_after_a_final_0;
  asks_in_a_tree = law.asks_in_a_tree;
  bad_byte = law.bad_byte;
  bad_byte_unended = law.bad_byte_unended;
  bad_word = law.bad_word;
  cancelling_across_regions = law.cancelling_across_regions;
  client_token_repropagation = law.client_token_repropagation;
  closing_amid_asks = law.closing_amid_asks;
  concurrent_interests = law.concurrent_interests;
  concurrent_interests_client_both = law.concurrent_interests_client_both;
  concurrent_interests_client_faces = law.concurrent_interests_client_faces;
  concurrent_interests_client_gateway = law.concurrent_interests_client_gateway;
  current_interest_finalized_client = law.current_interest_finalized_client;
  current_interest_finalized_peer = law.current_interest_finalized_peer;
  current_interest_finalized_router = law.current_interest_finalized_router;
  current_token_repropagation = law.current_token_repropagation;
  empty_script = law.empty_script;
  entities = law.entities;
  entities_of_a_region = law.entities_of_a_region;
  equal_ids_at_two_faces = law.equal_ids_at_two_faces;
}
