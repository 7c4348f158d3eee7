-- Places of faces.
--     number_of slot       the number of the face that stands or stood there
--     face_of slot         the face that stands there
--     with_face g slot     the place where the face that stands there has become g of it
--     without_face slot    the gap that is left there
--     LosesStanding slot before after     the router's place of the face that stands there is gone, if one does
--     faces_in slots       the faces that stand in these places
--     IsFoundIn n slots f  it is the face of the number in these places
--     IsNextOf n slot      the next id of the face that stands there is n at most
use Rattle.std.specs.Prelude.{◌≡◌, ℕ, ◌==◌, List, [], ◌∷◌, Option, Some, None}
use Rattle.zt_model.specs.Lists.{first_where}
use Rattle.zt_model.specs.Rows.{Face}
use Rattle.zt_faces.specs.Rising.{AreUpTo}
use Rattle.zt_faces.specs.Routers.{HasLess, standing_of}
use Rattle.zt_faces.specs.declared.by_router.Standing.{Standing}
use Rattle.zt_faces.specs.declared.slots.Slot.{Slot}
use Rattle.zt_faces.specs.declared.slots.Slot.TheVariants.{Open, Closed}

module _ {K : Type 0} where
  abbrev pub number_of : Slot K → ℕ
  number_of (Open f) = f.number
  number_of (Closed n) = n

  abbrev pub face_of : Slot K → Option (Face K)
  face_of (Open f) = Some f
  face_of (Closed n) = None

  abbrev pub with_face : (Face K → Face K) → Slot K → Slot K
  with_face change (Open f) = Open (change f)
  with_face change (Closed n) = Closed n

  -- the gap that is left there
  abbrev pub without_face : Slot K → Slot K
  without_face slot = Closed (number_of slot)

  abbrev pub faces_in : List (Slot K) → List (Face K)
  faces_in [] = []
  faces_in (Open f ∷ slots) = f ∷ faces_in slots
  faces_in (Closed n ∷ slots) = faces_in slots

  abbrev pub LosesStanding : Slot K → List Standing → List Standing → Type 0
  LosesStanding (Open f) before after = HasLess (standing_of f) before after
  LosesStanding (Closed n) before after = after ≡ before

  abbrev pub IsNextOf : ℕ → Slot K → Type 0
  IsNextOf n slot = AreUpTo (λ f. f.next) n (faces_in (slot ∷ []))

  abbrev pub IsFoundIn : ℕ → List (Slot K) → Face K → Type 0
  IsFoundIn n slots f = first_where (λ x. n == x.number) (faces_in slots) ≡ Some f
