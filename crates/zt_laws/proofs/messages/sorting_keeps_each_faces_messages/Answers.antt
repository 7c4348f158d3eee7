use Rattle.zt_laws.proofs.Interleaving.{filter_sorted}
use Rattle.zt_laws.proofs.Sorting.{sorted_stands, stand_in_order}
use Rattle.zt_model.specs.Fabric.{sorted_by_face}
use Rattle.zt_laws.proofs.messages.sorting_keeps_each_faces_messages.Goals as goal

pub returns : goal.returns
returns g c = record {
  in_order = λ ms. stand_in_order (sorted_by_face ms) (sorted_stands ms);
  of_face = λ n ms. filter_sorted n ms;
}
