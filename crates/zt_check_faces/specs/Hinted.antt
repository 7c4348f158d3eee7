-- Rows whose places are hinted by their expressions.
use Rattle.std.specs.Prelude.{◌≡◌, ℕ, Bool, true, ◌&&◌, List}
use Rattle.std.specs.List.{list_any}
use Rattle.std.specs.declared.cmp.Ordering.{Ordering}
use Rattle.zt_model.specs.Lists.{same}
use Rattle.zt_model.specs.Rows.{ById}
use Rattle.zt_check_hints.specs.Hinted.{is_hinted}

module _ {K : Type 0} (cmp : K → K → Ordering) where
  -- the expression stands under an id that passes the test
  abbrev pub is_under : (ℕ → Bool) → K → ById K → Bool
  is_under test e rows = list_any (λ row. test row.0 && same cmp e row.1) rows

  -- each row's id is hinted by its expression
  pub record AreHinted (hints : List (K × List ℕ)) (rows : ById K) : Type 0 where
    pub at : (test : ℕ → Bool) (e : K) → is_under test e rows ≡ true → is_hinted cmp test e hints ≡ true
