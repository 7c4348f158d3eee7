-- What is kept in a key has all interests in it.
use Rattle.std.proofs.Common.{◌≡◌, ℕ, Bool, true, false, ◌&&◌, List, Option, refl, subst, sym, ◌∙◌}
use Rattle.std.specs.Cmp.{IsTotalOrder}
use Rattle.std.specs.declared.cmp.Ordering.{Ordering}
use Rattle.zt_interest_index.specs.Held.{belongs-own}
use Rattle.zt_interest_index.specs.Holders.{HasAllIn, IsIndexOf, any_alike, belongs, by_test}
use Rattle.zt_interest_index.specs.Index.{Interests, rows_at}

and_true_first : (a b : Bool) → a ≡ true → (a && b) ≡ b
and_true_first true b h = refl
and_true_first false b h = cc

and_false_second : (a b : Bool) → b ≡ false → (a && b) ≡ b
and_false_second true b h = refl
and_false_second false b h = sym h

module _ {K : Type 0} (cmp : K → K → Ordering) (o : IsTotalOrder cmp) (about : Option K) (held : List ((ℕ × ℕ) × Option K)) where
  -- a row that passes belongs there
  belongs_where : (test : (ℕ × ℕ) × Option K → Bool) → ((row : (ℕ × ℕ) × Option K) → test row ≡ true → row.1 ≡ about) → (row : (ℕ × ℕ) × Option K) → (belongs cmp about row && test row) ≡ test row
  belongs_where test only row =
      by_test (test row)
      (λ t.
      let own : belongs cmp about row ≡ true = subst (λ (a : Option K). belongs cmp a row ≡ true) (only row t) (belongs-own cmp o row) in
      and_true_first (belongs cmp about row) (test row) own)
      (λ t. and_false_second (belongs cmp about row) (test row) t)

  pub bucket_has_all : (index : Interests K) → IsIndexOf cmp index held → HasAllIn about held (rows_at cmp about index)
  bucket_has_all index indexed = record {
    at = λ test only. indexed.at about test ∙ any_alike (λ row. belongs cmp about row && test row) test (belongs_where test only) held;
  }
