-- The interests of south-bound faces.
use Rattle.std.specs.Prelude.{Option, ℕ, Bool, ◌&&◌, ◌==◌, not, if◌then◌else◌, List, [], map}
use Rattle.std.specs.List.{list_any}
use Rattle.std.specs.Ordering.{is_eq}
use Rattle.std.specs.declared.cmp.Ordering.{Ordering}
use Rattle.zt_region.specs.Region.{is_north}
use Rattle.zt_protocol.specs.declared.interests.InterestMode.TheVariants.{CurrentFuture}
use Rattle.zt_protocol.specs.declared.interests.InterestOptions.{InterestOptions}
use Rattle.zt_token_index.specs.Seekers.{HeldRow}
use Rattle.zt_model.specs.Lists.{is_some_and}
use Rattle.zt_model.specs.Parts.{find_face}
use Rattle.zt_model.specs.Routing.{asks_same, expression_order}
use Rattle.zt_model.specs.Rows.{Face, InterestRow, Rows}

-- the interest, asked for now and later
abbrev pub in_both : {K : Type 0} → InterestRow K → InterestRow K
in_both interest = record interest { mode = CurrentFuture }

-- an interest in such an expression with such options, asked for now and later
abbrev pub asking_both : {K : Type 0} → Option K × InterestOptions → InterestRow K
asking_both asked = record { mode = CurrentFuture; options = asked.1; expr = asked.0 }

-- what a face holds, if it is south-bound
abbrev pub held_by : {K : Type 0} → Face K → List (InterestRow K)
held_by f = if is_north f.region then [] else map (λ row. in_both row.1) f.held

module _ {K : Type 0} (cmp : K → K → Ordering) (matching : K → K → Bool) where
  -- the face is south-bound, and holds an interest under the id that asks for the same
  abbrev pub holds_south_as : InterestRow K → ℕ → Face K → Bool
  holds_south_as interest id f = not (is_north f.region) && list_any (λ row. id == row.0 && asks_same cmp matching interest row.1) f.held

  -- the row, a face and an id with an expression, is of such an interest
  abbrev pub is_held_as : Rows K → InterestRow K → HeldRow K → Bool
  is_held_as g interest row = is_eq (expression_order cmp matching interest.expr row.1) && is_some_and (find_face row.0.0 g) (holds_south_as interest row.0.1)
