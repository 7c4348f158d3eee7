use Rattle.std.proofs.Common.{◌≡◌}
use Rattle.std.specs.BTreeMap.{is_at}
use Rattle.std.specs.List.{IsDistinct}
use Rattle.std.specs.Map.{keys_of, lookup}
use Rattle.std.specs.Ordering.{eq_by_cmp}
use Rattle.zt_token_index.proofs.Copied.{found_either}
use Rattle.zt_token_index.proofs.index.ToldIndex.copy.Given as goal

-- what is found among those left, and else among those copied, is what there is
abbrev pub invariant-loop-expr : goal.invariant-loop-expr
invariant-loop-expr g l = record {
  distinct : IsDistinct (eq_by_cmp g.K.Ord.cmp) (keys_of l.expr-iterator);
  found : (q : g.row.K.Denot) → found_either g.K.Ord.cmp q l.expr-iterator l.faces.entries ≡ lookup (is_at (g.K.Ord.cmp q)) l.self;
}
