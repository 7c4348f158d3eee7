-- Entries in the order of their keys.
--     ordered_entries cmp entries      the entries in key order, of each key the first
use Rattle.std.specs.Prelude.{List, [], ◌∷◌}
use Rattle.std.specs.FinMap.Entries.{put}
use Rattle.std.specs.declared.cmp.Ordering.{Ordering}

unfoldable pub ordered_entries : {K X : Type 0} → (K → K → Ordering) → List (K × X) → List (K × X)
ordered_entries cmp [] = []
ordered_entries cmp (e ∷ es) = put cmp e.0 e.1 (ordered_entries cmp es)
