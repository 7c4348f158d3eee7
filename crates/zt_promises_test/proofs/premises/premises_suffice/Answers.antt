use Rattle.zt_promises_test.proofs.Suffices.{suffice_for_knowledge, suffice_for_what_stays, suffice_for_what_was}
use Rattle.zt_promises_test.proofs.premises.premises_suffice.Goals as goal

pub returns : goal.returns
returns g = record {
  what_stays = λ cmp matching. suffice_for_what_stays cmp matching;
  what_was = λ cmp matching. suffice_for_what_was cmp matching;
  knowledge = λ cmp matching. suffice_for_knowledge cmp matching;
}
