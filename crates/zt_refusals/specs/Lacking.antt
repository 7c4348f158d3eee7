-- Which faces have too few ids left.
use Rattle.std.specs.Prelude.{ℕ, Bool, false, ◌+◌, ◌&&◌, ◌||◌, not, nat_lt, if◌then◌else◌, List, Option, Some, None, is_none}
use Rattle.std.specs.List.{list_any}
use Rattle.std.specs.declared.cmp.Ordering.{Ordering}
use Rattle.zt_region.specs.declared.region.Region.{Region}
use Rattle.zt_protocol.specs.Interest.{is_future}
use Rattle.zt_protocol.specs.declared.interests.InterestMode.{InterestMode}
use Rattle.zt_protocol.specs.declared.interests.InterestOptions.{InterestOptions}
use Rattle.zt_token_index.specs.Told.{id_of}
use Rattle.zt_model.specs.Lists.{has_id}
use Rattle.zt_model.specs.Parts.{find_face, is_routed}
use Rattle.zt_model.specs.Refusals.{ids_for_interest, ids_for_opening, ids_for_target, ids_for_token, left_ids}
use Rattle.zt_model.specs.Routing.{is_target}
use Rattle.zt_model.specs.Rows.{Face, Rows}
use Rattle.zt_model.specs.Telling.{is_answered_by, registers}
use Rattle.zt_tokens.specs.Seeking.{is_told_by}

-- a face outside router regions needs more ids than are left
abbrev pub lacks : {K : Type 0} → Rows K → (Face K → ℕ) → Face K → Bool
lacks g needed f = not (is_routed g f) && nat_lt (left_ids f) (needed f)

-- it does for an interest of a face of a region that is sent to it
abbrev pub lacks_for_target : {K : Type 0} → Region → InterestMode → Rows K → Face K → Bool
lacks_for_target asker mode g f = lacks g (λ f. if is_target g asker mode f then 1 else 0) f

module _ {K : Type 0} (cmp : K → K → Ordering) (matching : K → K → Bool) where
  -- for a token
  abbrev pub lacks_for_token : ℕ → Option ℕ → K → Rows K → Face K → Bool
  lacks_for_token n interest e g f = lacks g (ids_for_token cmp matching n interest e g) f

  -- a token that a face declares for an interest answers an ask of another face for what comes later too
  abbrev pub answers_for_later : ℕ → ℕ → K → Face K → Bool
  answers_for_later n id e f = list_any (λ row. is_future row.1.interest.mode && is_answered_by cmp matching n id e row.1) f.asks

  -- it answers such an ask anew, by the id under which the face was told the expression
  abbrev pub is_answered_anew_by : ℕ → Option ℕ → K → Face K → Face K → Option ℕ → Bool
  is_answered_anew_by n None e from f known = false
  is_answered_anew_by n (Some id) e from f known = has_id id from.pendings && (is_none known && answers_for_later n id e f)

  -- a face is told of a token, or answered
  abbrev pub needs_by : ℕ → Option ℕ → K → Rows K → Face K → Face K → Option ℕ → Bool
  needs_by n interest e g from f known = is_told_by matching g from.region e f known || is_answered_anew_by n interest e from f known

  -- for a token, by pairs of a face and the id under which it was told the expression
  abbrev pub ids_among : ℕ → Option ℕ → K → Rows K → List (ℕ × ℕ) → Face K → ℕ
  ids_among n interest e g pairs f =
      elim (find_face n g) [ None ↦ 0 | Some from ↦ if registers from interest && needs_by n interest e g from f (id_of f.number pairs) then 1 else 0 ]

  abbrev pub lacks_among : ℕ → Option ℕ → K → Rows K → List (ℕ × ℕ) → Face K → Bool
  lacks_among n interest e g pairs f = lacks g (ids_among n interest e g pairs) f

  -- for an interest
  abbrev pub lacks_for_interest : ℕ → InterestMode → InterestOptions → Option K → Rows K → Face K → Bool
  lacks_for_interest n mode options e g f =
      lacks g (λ f. ids_for_interest cmp matching n mode options e g f + ids_for_target cmp matching n mode g f) f

  -- for the answers to an interest of its own
  abbrev pub lacks_for_answers : InterestMode → InterestOptions → Option K → Rows K → Face K → Bool
  lacks_for_answers mode options e g f = lacks g (λ f. ids_for_interest cmp matching f.number mode options e g f) f

  -- for what it is sent as a new face
  abbrev pub lacks_for_opening : Rows K → Face K → Bool
  lacks_for_opening g f = lacks g (ids_for_opening cmp matching g) f
