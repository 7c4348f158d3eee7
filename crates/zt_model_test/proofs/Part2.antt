-- The laws of these scripts, by evaluation.
-- Written by tools/scripts_to_antt.py; change the scripts or the tool, and not this file.
use Rattle.std.specs.Prelude.{refl}
use Rattle.zt_model_test.specs.Script.{ComesOut}
use Rattle.zt_model_test.specs.Part2 as part
use Rattle.zt_model_test.proofs.Opened.{opened}

pub expiry_at_the_timeout : ComesOut part.expiry_at_the_timeout
unfolding opened
expiry_at_the_timeout = (refl, refl)

pub finalised_interest_forgotten : ComesOut part.finalised_interest_forgotten
unfolding opened
finalised_interest_forgotten = (refl, refl)

pub hostile_01 : ComesOut part.hostile_01
unfolding opened
hostile_01 = (refl, refl)

pub hostile_02 : ComesOut part.hostile_02
unfolding opened
hostile_02 = (refl, refl)

pub hostile_03 : ComesOut part.hostile_03
unfolding opened
hostile_03 = (refl, refl)

pub hostile_04 : ComesOut part.hostile_04
unfolding opened
hostile_04 = (refl, refl)

pub hostile_05 : ComesOut part.hostile_05
unfolding opened
hostile_05 = (refl, refl)

pub hostile_06 : ComesOut part.hostile_06
unfolding opened
hostile_06 = (refl, refl)

pub hostile_07 : ComesOut part.hostile_07
unfolding opened
hostile_07 = (refl, refl)

pub hostile_08 : ComesOut part.hostile_08
unfolding opened
hostile_08 = (refl, refl)

pub hostile_09 : ComesOut part.hostile_09
unfolding opened
hostile_09 = (refl, refl)

pub hostile_10 : ComesOut part.hostile_10
unfolding opened
hostile_10 = (refl, refl)

pub hostile_11 : ComesOut part.hostile_11
unfolding opened
hostile_11 = (refl, refl)

pub hostile_12 : ComesOut part.hostile_12
unfolding opened
hostile_12 = (refl, refl)

pub interests_at_opening_and_closing : ComesOut part.interests_at_opening_and_closing
unfolding opened
interests_at_opening_and_closing = (refl, refl)

pub interests_sent_at_opening_client_client : ComesOut part.interests_sent_at_opening_client_client
unfolding opened
interests_sent_at_opening_client_client = (refl, refl)

pub interests_sent_at_opening_client_peer : ComesOut part.interests_sent_at_opening_client_peer
unfolding opened
interests_sent_at_opening_client_peer = (refl, refl)

pub interests_sent_at_opening_peer_client : ComesOut part.interests_sent_at_opening_peer_client
unfolding opened
interests_sent_at_opening_peer_client = (refl, refl)

pub interests_sent_at_opening_peer_peer : ComesOut part.interests_sent_at_opening_peer_peer
unfolding opened
interests_sent_at_opening_peer_peer = (refl, refl)

pub last_id : ComesOut part.last_id
unfolding opened
last_id = (refl, refl)

pub loops_and_links : ComesOut part.loops_and_links
unfolding opened
loops_and_links = (refl, refl)

pub no_echo_to_source : ComesOut part.no_echo_to_source
unfolding opened
no_echo_to_source = (refl, refl)

pub north_face_closes : ComesOut part.north_face_closes
unfolding opened
north_face_closes = (refl, refl)

pub one_declarer_leaves : ComesOut part.one_declarer_leaves
unfolding opened
one_declarer_leaves = (refl, refl)

pub own_token_shown : ComesOut part.own_token_shown
unfolding opened
own_token_shown = (refl, refl)

pub peer_asks : ComesOut part.peer_asks
unfolding opened
peer_asks = (refl, refl)
