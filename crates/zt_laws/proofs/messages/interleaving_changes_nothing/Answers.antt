use Rattle.zt_laws.proofs.Interleaving.{hearing_alike, rows_alike, waiting_alike}
use Rattle.zt_laws.proofs.Sorting.{printed_sorted}
use Rattle.zt_model.specs.Fabric.{sorted_by_face}
use Rattle.zt_laws.proofs.messages.interleaving_changes_nothing.Goals as goal

pub returns : goal.returns
returns g c = record {
  hearing = λ ms ns s same_. hearing_alike g.K.Ord.cmp ms ns s same_;
  waiting = λ ms ns s same_. waiting_alike ms ns s same_;
  rows = λ ss ts rows same_. rows_alike g.K.Ord.cmp ss ts rows same_;
  sorted = λ ms s. hearing_alike g.K.Ord.cmp (sorted_by_face ms) ms s (λ n. printed_sorted n ms);
  sorted_waiting = λ ms s. waiting_alike (sorted_by_face ms) ms s (λ n. printed_sorted n ms);
}
