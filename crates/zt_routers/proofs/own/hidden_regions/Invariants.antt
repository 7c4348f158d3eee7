use Rattle.std.proofs.Common.{◌≡◌, ◌++◌}
use Rattle.std.specs.List.{AllByRecursion}
use Rattle.std.specs.List.Sorted.{IsStrictlySortedBy}
use Rattle.zt_link_state.specs.Routed.{keys_in, rows_in}
use Rattle.zt_routers.specs.Hiding.{hidden_among}
use Rattle.zt_routers.proofs.own.hidden_regions.Given as goal

-- what is found so far, and among the rows of the origins left, is all
abbrev pub invariant-loop-origin : goal.invariant-loop-origin
invariant-loop-origin g l = record {
  found : l.regions.items ++ hidden_among g.K.Ord.cmp l.g l.source l.expr (rows_in l.origin-iterator) ≡ hidden_among g.K.Ord.cmp l.g l.source l.expr l.g.routed;
  in_order : AllByRecursion (λ entry. IsStrictlySortedBy g.K.Ord.cmp (keys_in entry.1)) l.origin-iterator;
}
