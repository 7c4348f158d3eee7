use Rattle.std.proofs.Common.{◌≡◌, Some, filter, flat_map, List}
use Rattle.std.specs.List.{AllByRecursion}
use Rattle.zt_rows.specs.ById.{IsInOrder}
use Rattle.zt_interest_index.specs.Holders.{IsIndexOf}
use Rattle.zt_model.specs.Lists.{at_id}
use Rattle.zt_model.specs.Rows.{Face}
use Rattle.zt_token_index.specs.Seekers.{IsOnlyOne, other_rows, token_rows}
use Rattle.zt_token_index.proofs.Held.{stays}
use Rattle.zt_token_index.proofs.interests.drop_all.Given as goal

-- the face's interests that are left stand in the indexes, beside those of the others
abbrev pub invariant-loop-id : goal.invariant-loop-id
invariant-loop-id g l = record {
  whole : IsInOrder l.f.held;
  in_order : IsInOrder l.id-iterator;
  among : AllByRecursion (λ row. at_id row.0 l.f.held ≡ Some row.1) l.id-iterator;
  tokens : (fs : List (Face g.row.K.Denot)) → IsOnlyOne l.f fs → IsIndexOf g.K.Ord.cmp l.fn.tokens (flat_map token_rows fs)
      → IsIndexOf g.K.Ord.cmp l.tokens (filter (stays l.f.number l.id-iterator) (flat_map token_rows fs));
  others : (fs : List (Face g.row.K.Denot)) → IsOnlyOne l.f fs → IsIndexOf g.K.Ord.cmp l.fn.others (flat_map other_rows fs)
      → IsIndexOf g.K.Ord.cmp l.others (filter (stays l.f.number l.id-iterator) (flat_map other_rows fs));
}
