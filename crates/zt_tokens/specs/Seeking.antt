-- What a face hears of a token, by the id under which it was told the expression, or by pairs of face and id; where it
-- is known to seek the expression, it isn't asked again whether it does.
use Rattle.std.specs.Prelude.{ℕ, Bool, ◌&&◌, not, if◌then◌else◌, List, [], ◌∷◌, Option, None, is_none}
use Rattle.zt_region.specs.Admission.{admits}
use Rattle.zt_region.specs.declared.region.Region.{Region}
use Rattle.zt_protocol.specs.declared.messages.Message.{Message}
use Rattle.zt_protocol.specs.declared.messages.Message.TheVariants as message
use Rattle.zt_token_index.specs.Told.{id_of}
use Rattle.zt_model.specs.Parts.{is_routed}
use Rattle.zt_model.specs.Rows.{Face, Rows}
use Rattle.zt_model.specs.Visible.{shows}
use Rattle.zt_model.specs.Wants.{seeks}

module _ {K : Type 0} where
  -- the declaration, under the next id of the face
  abbrev pub declared_to : K → Face K → List (Message K)
  declared_to e f = message.DeclareToken f.next e None 0 ∷ []

  -- whether a face that seeks the expression is told of a token of it
  abbrev pub is_seeker_told : Rows K → Region → Face K → Option ℕ → Bool
  is_seeker_told g source f known = not (is_routed g f) && (admits g.refused source f.region && shows g.mode f.region source && is_none known)

  -- what a face hears that seeks the expression
  abbrev pub tell_seeker : Rows K → Region → K → List (ℕ × ℕ) → Face K → List (Message K)
  tell_seeker g source e pairs f = if is_seeker_told g source f (id_of f.number pairs) then declared_to e f else []

  module _ (matching : K → K → Bool) where
    -- whether a face is told of a token of the expression
    abbrev pub is_told_by : Rows K → Region → K → Face K → Option ℕ → Bool
    is_told_by g source e f known = not (is_routed g f) && (admits g.refused source f.region && shows g.mode f.region source && is_none known && seeks matching g.mode f e)

    -- what a face hears
    abbrev pub tell_among : Rows K → Region → K → List (ℕ × ℕ) → Face K → List (Message K)
    tell_among g source e pairs f = if is_told_by g source e f (id_of f.number pairs) then declared_to e f else []
