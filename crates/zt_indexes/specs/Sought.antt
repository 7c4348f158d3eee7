-- The expressions that match a key and are shown, found among few.
--     is_sought cmp matches shown counts e       an expression that matches is shown by the counts
--     is_found cmp groups number sought q        one sought stands at the number or at none
--     is_found_plain cmp key wilds sought q      one sought is the key or one of those with wildcards
--     AreFound cmp found exprs                   those found, in order
use Rattle.std.specs.Prelude.{◌≡◌, ℕ, Bool, ◌&&◌, ◌||◌, List, ◌∷◌, Option, Some, None}
use Rattle.std.specs.List.Sorted.{IsStrictlySortedBy}
use Rattle.std.specs.declared.cmp.Ordering.{Ordering}
use Rattle.zt_region.specs.declared.region.Region.{Region}
use Rattle.zt_indexes.specs.Counted.{is_shown_in}
use Rattle.zt_indexes.specs.Grouped.{is_grouped, is_in}
use Rattle.zt_indexes.specs.Live.{counts_at}

module _ {K : Type 0} (cmp : K → K → Ordering) where
  abbrev pub is_sought : (K → Bool) → (Region → Bool) → List (K × List (Region × ℕ)) → K → Bool
  is_sought matches shown counts e = matches e && is_shown_in shown (counts_at cmp e counts)

  abbrev pub is_found : List (Option ℕ × List K) → ℕ → (K → Bool) → K → Bool
  is_found groups number sought q = (is_grouped cmp (Some number) q groups || is_grouped cmp None q groups) && sought q

  abbrev pub is_found_plain : K → List K → (K → Bool) → K → Bool
  is_found_plain key wilds sought q = is_in cmp q (key ∷ wilds) && sought q

  pub record AreFound (found : K → Bool) (exprs : List K) : Type 0 where
    pub in_order : IsStrictlySortedBy cmp exprs
    pub among : (q : K) → is_in cmp q exprs ≡ found q
