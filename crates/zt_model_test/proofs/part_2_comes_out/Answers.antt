-- Written by tools/scripts_to_antt.py; change the scripts or the tool, and not this file.
use Rattle.zt_model_test.proofs.Part2 as law
use Rattle.zt_model_test.proofs.part_2_comes_out.Goals as goal

pub returns : goal.returns
returns g = record {
  expiry_at_the_timeout = law.expiry_at_the_timeout;
  finalised_interest_forgotten = law.finalised_interest_forgotten;
  hostile_01 = law.hostile_01;
  hostile_02 = law.hostile_02;
  hostile_03 = law.hostile_03;
  hostile_04 = law.hostile_04;
  hostile_05 = law.hostile_05;
  hostile_06 = law.hostile_06;
  hostile_07 = law.hostile_07;
  hostile_08 = law.hostile_08;
  hostile_09 = law.hostile_09;
  hostile_10 = law.hostile_10;
  hostile_11 = law.hostile_11;
  hostile_12 = law.hostile_12;
  interests_at_opening_and_closing = law.interests_at_opening_and_closing;
  interests_sent_at_opening_client_client = law.interests_sent_at_opening_client_client;
  interests_sent_at_opening_client_peer = law.interests_sent_at_opening_client_peer;
  interests_sent_at_opening_peer_client = law.interests_sent_at_opening_peer_client;
  interests_sent_at_opening_peer_peer = law.interests_sent_at_opening_peer_peer;
  last_id = law.last_id;
  loops_and_links = law.loops_and_links;
  no_echo_to_source = law.no_echo_to_source;
  north_face_closes = law.north_face_closes;
  one_declarer_leaves = law.one_declarer_leaves;
  own_token_shown = law.own_token_shown;
  peer_asks = law.peer_asks;
}
