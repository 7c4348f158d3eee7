-- What a face keeps of the tokens that are owed to it, source by source.
use Rattle.std.specs.Prelude.{◌≡◌, ℕ, Bool, true, ◌==◌, ◌&&◌, ◌||◌, not, if◌then◌else◌, List, Option, None, Some}
use Rattle.std.specs.List.{list_all, list_any}
use Rattle.std.specs.declared.cmp.Ordering.{Ordering}
use Rattle.zt_region.specs.declared.region.Region.{Region}
use Rattle.zt_region.specs.Admission.{admits}
use Rattle.zt_region.specs.Region.{is_north, zid_eq}
use Rattle.zt_protocol.specs.Interest.{has_tokens, is_current}
use Rattle.zt_model.specs.Rows.{ById, Face, InterestRow, RoutedRow, Rows}
use Rattle.zt_model.specs.Seen.{concerns, is_owed, sees}
use Rattle.zt_model.specs.Visible.{keeps}

-- faces of a region see the tokens of another, and the admission table admits them
abbrev pub is_shown_and_admitted : List (Region × Region) → Region → Region → Bool
is_shown_and_admitted refused own source = sees own source && admits refused source own

-- an interest asked for the tokens that were there too
abbrev pub asks_for_tokens : {K : Type 0} → InterestRow K → Bool
asks_for_tokens interest = is_current interest.mode && has_tokens interest.options

-- one of these did
abbrev pub holds_current : {K : Type 0} → ById (InterestRow K) → Bool
holds_current held = list_any (λ row. asks_for_tokens row.1) held

-- an expression may be asked about and owed to the face
abbrev pub may_be_owed : {K : Type 0} → Face K → ById (InterestRow K) → Option ℕ → Bool
may_be_owed f asking None = is_north f.region || holds_current f.held
may_be_owed f asking (Some id) = holds_current asking

-- the key of an interest, where it is of the id and asked for the tokens that were there too
abbrev pub key_under : {K : Type 0} → ℕ × InterestRow K → ℕ → Option K
key_under row id = if (row.0 == id) && asks_for_tokens row.1 then row.1.expr else None

module _ {K : Type 0} (cmp : K → K → Ordering) (matching : K → K → Bool) where
  -- an interest that is held under the id concerns the expression, and asked for what was there too
  abbrev pub is_concerned : ById (InterestRow K) → ℕ → K → Bool
  is_concerned held id e = list_any (λ row. (row.0 == id) && (concerns matching row.1 e && is_current row.1.mode)) held

  -- where no id is given, all is asked about
  abbrev pub is_asked : Face K → Option ℕ → K → Bool
  is_asked f None e = true
  is_asked f (Some id) e = is_concerned f.held id e

  -- the same by some rows of interests
  abbrev pub is_asked_by : ById (InterestRow K) → Option ℕ → K → Bool
  is_asked_by asking None e = true
  is_asked_by asking (Some id) e = is_concerned asking id e

  -- some rows ask what all that the face holds ask
  abbrev pub AreAsking : Face K → Option ℕ → ById (InterestRow K) → Type 0
  AreAsking f id asking = (e : K) → is_asked_by asking id e ≡ is_asked f id e

  -- what is asked about is what matches the key
  abbrev pub IsOnlyKey : ById (InterestRow K) → Option ℕ → Option K → Type 0
  IsOnlyKey asking id None = Unit {0}
  IsOnlyKey asking None (Some k) = ⊥
  IsOnlyKey asking (Some id) (Some k) = (e : K) → is_concerned asking id e ≡ matching k e

  -- the face keeps the expression, if it is asked about and owed to it
  abbrev pub keeps_concerned : Face K → Option ℕ → K → Bool
  keeps_concerned f id e = (not (is_asked f id e) || not (is_owed matching f e)) || keeps cmp f e

  -- and each of what another face declares
  abbrev pub keeps_declared : Face K → Option ℕ → ById K → Bool
  keeps_declared f id live = list_all (λ row. keeps_concerned f id row.1) live

  -- of all other faces that are seen and admitted
  abbrev pub keeps_of_faces : List (Region × Region) → Face K → Option ℕ → List (Face K) → Bool
  keeps_of_faces refused f id sources =
      list_all (λ source. not (is_shown_and_admitted refused f.region source.region) || keeps_declared f id source.live) sources

  -- the face doesn't keep an expression that another declares and that is admitted
  abbrev pub lacks : List (Region × Region) → Face K → Face K → K → Bool
  lacks refused f source e = is_shown_and_admitted refused f.region source.region && not (keeps cmp f e)

  -- it keeps all such that match the key
  abbrev pub keeps_near : Rows K → Face K → K → Bool
  keeps_near g f k = not (list_any (λ source. list_any (λ row. matching k row.1 && lacks g.refused f source row.1) source.live) g.faces)

  -- of a row of a router region
  abbrev pub keeps_routed : Rows K → Face K → Option ℕ → RoutedRow K → Bool
  keeps_routed g f id row =
      (zid_eq row.source g.zid || not (is_shown_and_admitted g.refused f.region row.region)) || keeps_concerned f id row.expr

  -- and of all other routers
  abbrev pub keeps_all : Rows K → Face K → Option ℕ → Bool
  keeps_all g f id = keeps_of_faces g.refused f id g.faces && list_all (keeps_routed g f id) g.routed
