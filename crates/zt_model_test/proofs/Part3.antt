-- The laws of these scripts, by evaluation.
-- Written by tools/scripts_to_antt.py; change the scripts or the tool, and not this file.
use Rattle.std.specs.Prelude.{refl}
use Rattle.zt_model_test.specs.Script.{ComesOut}
use Rattle.zt_model_test.specs.Part3 as part
use Rattle.zt_model_test.proofs.Opened.{opened}

pub peer_linked_to_itself : ComesOut part.peer_linked_to_itself
unfolding opened
peer_linked_to_itself = (refl, refl)

pub peers_finalised : ComesOut part.peers_finalised
unfolding opened
peers_finalised = (refl, refl)

pub peers_not_finalised : ComesOut part.peers_not_finalised
unfolding opened
peers_not_finalised = (refl, refl)

pub router_disconnect : ComesOut part.router_disconnect
unfolding opened
router_disconnect = (refl, refl)

pub sessions_alone : ComesOut part.sessions_alone
unfolding opened
sessions_alone = (refl, refl)

pub tables_and_their_trees : ComesOut part.tables_and_their_trees
unfolding opened
tables_and_their_trees = (refl, refl)

pub three_routers : ComesOut part.three_routers
unfolding opened
three_routers = (refl, refl)

pub token_of_a_router_and_a_session : ComesOut part.token_of_a_router_and_a_session
unfolding opened
token_of_a_router_and_a_session = (refl, refl)

pub tree_echo : ComesOut part.tree_echo
unfolding opened
tree_echo = (refl, refl)

pub two_declarers_one_holder : ComesOut part.two_declarers_one_holder
unfolding opened
two_declarers_one_holder = (refl, refl)

pub two_links_of_a_face : ComesOut part.two_links_of_a_face
unfolding opened
two_links_of_a_face = (refl, refl)

pub undeclaring_the_untold : ComesOut part.undeclaring_the_untold
unfolding opened
undeclaring_the_untold = (refl, refl)

pub what_matches_is_answered : ComesOut part.what_matches_is_answered
unfolding opened
what_matches_is_answered = (refl, refl)

pub who_may_have_a_face : ComesOut part.who_may_have_a_face
unfolding opened
who_may_have_a_face = (refl, refl)

pub who_may_not_speak : ComesOut part.who_may_not_speak
unfolding opened
who_may_not_speak = (refl, refl)

pub word_run : ComesOut part.word_run
unfolding opened
word_run = (refl, refl)
