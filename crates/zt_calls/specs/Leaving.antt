-- What a face that closes does for each of its rows, and what each expression that is gone comes to.
use Rattle.std.specs.Prelude.{ℕ, Bool, List, ◌∷◌, ◌++◌, None}
use Rattle.std.specs.declared.cmp.Ordering.{Ordering}
use Rattle.zt_region.specs.declared.region.Region.{Region}
use Rattle.zt_model.specs.Parts.{Part, Say}
use Rattle.zt_model.specs.Routing.{ending, finalising}
use Rattle.zt_model.specs.Rows.{Face, InterestRow, Pending}
use Rattle.zt_model.specs.Telling.{forget, undeclaring}
use Rattle.zt_model.specs.Trees.{hiding}

module _ {K : Type 0} (cmp : K → K → Ordering) (matching : K → K → Bool) where
  -- a token is undeclared by its id, and hidden
  abbrev pub leaving_token : Face K → ℕ × K → List (Part K)
  leaving_token f row = undeclaring cmp matching f.number row.0 None f ++ hiding cmp f.region row.1

  -- a held interest is finalised
  abbrev pub leaving_interest : ℕ → ℕ × InterestRow K → List (Part K)
  leaving_interest n row = finalising cmp matching n row.0 row.1

  -- an expression is gone from a region
  abbrev pub gone_from : Region → K → List (Part K)
  gone_from region e = Say (forget cmp matching region e) ∷ hiding cmp region e

-- a pending ends
abbrev pub leaving_pending : {K : Type 0} → ℕ → ℕ × Pending → List (Part K)
leaving_pending n row = ending n row.0
