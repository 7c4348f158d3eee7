-- Written by tools/scripts_to_antt.py; change the scripts or the tool, and not this file.
use Rattle.zt_model_test.proofs.Part3 as law
use Rattle.zt_model_test.proofs.part_3_comes_out.Goals as goal

pub returns : goal.returns
returns g = record {
  peer_linked_to_itself = law.peer_linked_to_itself;
  peers_finalised = law.peers_finalised;
  peers_not_finalised = law.peers_not_finalised;
  router_disconnect = law.router_disconnect;
  sessions_alone = law.sessions_alone;
  tables_and_their_trees = law.tables_and_their_trees;
  three_routers = law.three_routers;
  token_of_a_router_and_a_session = law.token_of_a_router_and_a_session;
  tree_echo = law.tree_echo;
  two_declarers_one_holder = law.two_declarers_one_holder;
  two_links_of_a_face = law.two_links_of_a_face;
  undeclaring_the_untold = law.undeclaring_the_untold;
  what_matches_is_answered = law.what_matches_is_answered;
  who_may_have_a_face = law.who_may_have_a_face;
  who_may_not_speak = law.who_may_not_speak;
  word_run = law.word_run;
}
