use Rattle.zt_promises_test.proofs.Kept.{asks_in_a_tree, root_with_other_regions, tree_echo}
use Rattle.zt_promises_test.proofs.premises.promises_are_kept.Goals as goal

pub returns : goal.returns
returns g = record { asks_in_a_tree = asks_in_a_tree; root_with_other_regions = root_with_other_regions; tree_echo = tree_echo }
