-- Rows that are counted in place of others.
--     SameRows cmp xs ys                   both have each row as often
--     Recounts cmp before after old new    whatever else is counted, the new counts have the rows `after` in place of `before`
use Rattle.std.specs.Prelude.{◌≡◌, ℕ, ◌+◌, List, [], ◌∷◌, ◌++◌, count_by, if◌then◌else◌}
use Rattle.std.specs.Cmp.{IsTotalOrder}
use Rattle.std.specs.declared.cmp.Ordering.{Ordering}
use Rattle.std.proofs.Common.{append_assoc, arith, subst, sym, ◌∙◌}
use Rattle.std.proofs.lemmas.List.Sums.{sum_by-append}
use Rattle.zt_region.specs.declared.region.Region.{Region}
use Rattle.zt_indexes.specs.Live.{HasOneLess, HasOneMore}
use Rattle.zt_indexes.specs.Rows.{AreCountsOf, counts-less, counts-more, is_row_at}

module _ {K : Type 0} (cmp : K → K → Ordering) where
  pub record SameRows (xs ys : List (Region × K)) : Type 0 where
    pub at : (e : K) (region : Region) → count_by (is_row_at cmp e region) xs ≡ count_by (is_row_at cmp e region) ys

  pub record Recounts (before after : List (Region × K)) (old new : List (K × List (Region × ℕ))) : Type 0 where
    pub at : (rest : List (Region × K)) → AreCountsOf cmp old (before ++ rest) → AreCountsOf cmp new (after ++ rest)

  -- ---- rows in another order
  pub same-sym : (xs ys : List (Region × K)) → SameRows xs ys → SameRows ys xs
  same-sym xs ys same = record { at = λ e region. sym (same.at e region) }

  pub count-both : (e : K) (region : Region) (xs ys : List (Region × K)) → count_by (is_row_at cmp e region) (xs ++ ys) ≡ count_by (is_row_at cmp e region) xs + count_by (is_row_at cmp e region) ys
  count-both e region xs ys = sum_by-append (λ (row : Region × K). if is_row_at cmp e region row then 1 else 0) xs ys

  pub same-beside : (xs ys zs : List (Region × K)) → SameRows xs ys → SameRows (xs ++ zs) (ys ++ zs)
  same-beside xs ys zs same = record {
    at = λ e region. let a = count-both e region xs zs in let b = count-both e region ys zs in let s = same.at e region in omega (arith, a, b, s);
  }

  pub same-turned : (xs ys : List (Region × K)) → SameRows (xs ++ ys) (ys ++ xs)
  same-turned xs ys = record {
    at = λ e region. let a = count-both e region xs ys in let b = count-both e region ys xs in omega (arith, a, b);
  }

  pub counts-same : (counts : List (K × List (Region × ℕ))) (xs ys : List (Region × K)) → SameRows xs ys → AreCountsOf cmp counts xs → AreCountsOf cmp counts ys
  counts-same counts xs ys same are = record { at = λ e region. are.at e region ∙ same.at e region }

  -- ---- rows in place of others
  pub recounts-none : (rows : List (Region × K)) (counts : List (K × List (Region × ℕ))) → Recounts rows rows counts counts
  recounts-none rows counts = record { at = λ rest are. are }

  pub recounts-then : (a b c : List (Region × K)) (old mid new : List (K × List (Region × ℕ))) → Recounts a b old mid → Recounts b c mid new → Recounts a c old new
  recounts-then a b c old mid new first second = record { at = λ rest are. second.at rest (first.at rest are) }

  pub recounts-beside : (a b more : List (Region × K)) (old new : List (K × List (Region × ℕ))) → Recounts a b old new → Recounts (a ++ more) (b ++ more) old new
  recounts-beside a b more old new change = record {
    at = λ rest are. subst (AreCountsOf cmp new) (sym (append_assoc b more rest)) (change.at (more ++ rest) (subst (AreCountsOf cmp old) (append_assoc a more rest) are));
  }

  pub recounts-same : (a b x y : List (Region × K)) (old new : List (K × List (Region × ℕ))) → SameRows x a → SameRows b y → Recounts a b old new → Recounts x y old new
  recounts-same a b x y old new from to change = record {
    at = λ rest are. counts-same new (b ++ rest) (y ++ rest) (same-beside b y rest to) (change.at rest (counts-same old (x ++ rest) (a ++ rest) (same-beside x a rest from) are));
  }

  -- one after another, beside each other
  pub recounts-both : (a b x y : List (Region × K)) (old mid new : List (K × List (Region × ℕ))) → Recounts a b old mid → Recounts x y mid new → Recounts (a ++ x) (b ++ y) old new
  recounts-both a b x y old mid new first second =
      recounts-then (a ++ x) (b ++ x) (b ++ y) old mid new (recounts-beside a b x old mid first)
      (recounts-same (x ++ b) (y ++ b) (b ++ x) (b ++ y) mid new (same-turned b x) (same-turned y b) (recounts-beside x y b mid new second))

  module _ (o : IsTotalOrder cmp) where
    pub recounts-more : (region : Region) (e : K) (old new : List (K × List (Region × ℕ))) → HasOneMore cmp region e old new → Recounts [] ((region, e) ∷ []) old new
    recounts-more region e old new more = record { at = λ rest are. counts-more cmp o region e [] rest old new are more }

    pub recounts-less : (region : Region) (e : K) (old new : List (K × List (Region × ℕ))) → HasOneLess cmp region e old new → Recounts ((region, e) ∷ []) [] old new
    recounts-less region e old new less = record { at = λ rest are. counts-less cmp o region e [] rest old new are less }
