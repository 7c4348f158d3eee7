use Rattle.std.proofs.Common.{◌≡◌, length}
use Rattle.std.specs.Option.{option_copied}
use Rattle.zt_lines.proofs.entities.entities_of.Given as goal
use Rattle.zt_fields.specs.Fields.{fields_left}
use Rattle.zt_lines.specs.Items.{items_read, entities_read}
use Rattle.zt_lines.proofs.ItemLemmas.{with_both}

-- the items so far and those that are left are all
abbrev pub invariant-loop-left : goal.invariant-loop-left
invariant-loop-left g l = record {
  told : with_both l.subscribers.items l.queryables.items (items_read g.K.Key.reading (fields_left (option_copied l.left))) ≡ entities_read g.K.Key.reading (fields_left (option_copied l.fn.rest));
}

abbrev pub decreases-loop-left : goal.decreases-loop-left
decreases-loop-left g l = length (fields_left (option_copied l.left))
