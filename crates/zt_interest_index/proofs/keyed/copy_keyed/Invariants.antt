use Rattle.std.proofs.Common.{◌≡◌}
use Rattle.std.specs.BTreeMap.{is_at}
use Rattle.std.specs.List.{IsDistinct}
use Rattle.std.specs.Map.{keys_of, lookup}
use Rattle.std.specs.Ordering.{eq_by_cmp}
use Rattle.zt_indexes.proofs.Copied.{found_either}
use Rattle.zt_interest_index.proofs.keyed.copy_keyed.Given as goal

-- what is found among those left, and else among those copied, is what there is
abbrev pub invariant-loop-key : goal.invariant-loop-key
invariant-loop-key g l = record {
  distinct : IsDistinct (eq_by_cmp g.K.Ord.cmp) (keys_of l.key-iterator);
  found : (q : g.row.K.Denot) → found_either g.K.Ord.cmp q l.key-iterator l.copies.entries ≡ lookup (is_at (g.K.Ord.cmp q)) l.keyed.entries;
}
