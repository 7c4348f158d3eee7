-- Rows that go one after another, with what is counted of them.
use Rattle.std.proofs.Common.{◌≡◌, ℕ, List, [], ◌∷◌, map, subst, sym}
use Rattle.std.specs.declared.cmp.Ordering.{Ordering}
use Rattle.zt_region.specs.declared.region.Region.{Region}
use Rattle.zt_indexes.specs.Recounts.{Recounts, recounts-both, recounts-none}

module _ {K : Type 0} (cmp : K → K → Ordering) where
  -- the rows of a region, by the ids that they stand under
  abbrev pub in_region : Region → List (ℕ × K) → List (Region × K)
  in_region r rows = map (λ row. (r, row.1)) rows

  -- whatever counts none of the rows that are left counts none of all
  abbrev pub LeavesNone : Region → List (ℕ × K) → List (ℕ × K) → List (K × List (Region × ℕ)) → List (K × List (Region × ℕ)) → Type 0
  LeavesNone r all left old now = (last : List (K × List (Region × ℕ))) → Recounts cmp (in_region r left) [] now last → Recounts cmp (in_region r all) [] old last

  pub leaves-all : (r : Region) (all left : List (ℕ × K)) (old : List (K × List (Region × ℕ))) → left ≡ all → LeavesNone r all left old old
  leaves-all r all left old whole = λ last none. subst (λ rows. Recounts cmp (in_region r rows) [] old last) whole none

  pub leaves-less : (r : Region) (all left later : List (ℕ × K)) (row : ℕ × K) (old now new : List (K × List (Region × ℕ))) → left ≡ row ∷ later
      → LeavesNone r all left old now → Recounts cmp ((r, row.1) ∷ []) [] now new → LeavesNone r all later old new
  leaves-less r all left later row old now new first leaves less =
      λ last none. leaves last (subst (λ rows. Recounts cmp (in_region r rows) [] now last) (sym first) (recounts-both cmp ((r, row.1) ∷ []) [] (in_region r later) [] now new last less none))

  pub leaves-done : (r : Region) (all left : List (ℕ × K)) (old now : List (K × List (Region × ℕ))) → left ≡ [] → LeavesNone r all left old now → Recounts cmp (in_region r all) [] old now
  leaves-done r all left old now past leaves = leaves now (subst (λ rows. Recounts cmp (in_region r rows) [] now now) (sym past) (recounts-none cmp [] now))
