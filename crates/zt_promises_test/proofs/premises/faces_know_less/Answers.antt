-- Written by tools/premises_to_antt.py; change the scripts or the tool, and not this file.
use Rattle.zt_promises_test.proofs.Lacking as law
use Rattle.zt_promises_test.proofs.premises.faces_know_less.Goals as goal

pub returns : goal.returns
returns g = record {
  known_only_after_the_step = law.known_only_after_the_step;
  peer_alone = law.peer_alone;
  region_of_peers = law.region_of_peers;
  router_gone_rows_stay = law.router_gone_rows_stay;
  routers_without_tables = law.routers_without_tables;
  token_without_an_id = law.token_without_an_id;
}
