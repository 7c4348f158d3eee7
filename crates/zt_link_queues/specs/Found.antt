-- Which number a gateway's face has in scripts, and in which order links stand, so that both are found by look-ups.
--     AreRising pairs                        pairs of face and number stand in order of face, each face once
--     number_in face pairs                   the number of a face there; 0 where there is none
--     with_number face number pairs          a face has a number, where it had none
--     without_number face number pairs       a face has a number no more, where it was this one
--     faces_at gateway numbers               the faces of a gateway with their numbers
--     number_at gateway face numbers         the number that stands under a gateway's face
--     AreNumbers numbers places              each face has its number in scripts, and no other face one
--     HasNumber, LacksNumber                 a face has a number, where it had none, or has it no more; all else stays
--     FacesRise n links                      the faces that links join rise, from n on
--     AreBelow face links                    all of them are below a face
use Rattle.std.specs.Prelude.{◌≡◌, ℕ, ◌+◌, ◌<◌, ◌≤◌, ◌==◌, ◌&&◌, if◌then◌else◌, List, [], ◌∷◌, Option, Some, None, is_some, unwrap_or, true, length, get_or}
use Rattle.std.specs.FinMap.Entries.{find, is_sorted, put}
use Rattle.std.specs.List.{AllByRecursion}
use Rattle.std.specs.Ordering.{nat_cmp}
use Rattle.zt_model.specs.Places.{Link, Place, number_from}
use Rattle.zt_ordered.specs.Rows.{without}

-- ---- numbers

abbrev pub AreRising : List (ℕ × ℕ) → Type 0
AreRising pairs = is_sorted nat_cmp pairs ≡ true

-- the number of a face; 0 where there is none
abbrev pub number_in : ℕ → List (ℕ × ℕ) → ℕ
number_in face pairs = unwrap_or (find nat_cmp face pairs) 0

-- a face that has a number keeps it
abbrev pub with_number : ℕ → ℕ → List (ℕ × ℕ) → List (ℕ × ℕ)
with_number face number pairs = if is_some (find nat_cmp face pairs) then pairs else put nat_cmp face number pairs

abbrev pub without_number : ℕ → ℕ → List (ℕ × ℕ) → List (ℕ × ℕ)
without_number face number pairs = if number_in face pairs == number then without nat_cmp face pairs else pairs

-- those of a gateway stand at its number
abbrev pub faces_at : ℕ → List (List (ℕ × ℕ)) → List (ℕ × ℕ)
faces_at gateway numbers = get_or numbers gateway []

abbrev pub number_at : ℕ → ℕ → List (List (ℕ × ℕ)) → Option ℕ
number_at gateway face numbers = find nat_cmp face (faces_at gateway numbers)

-- a number, where it is one: 0 is none
abbrev pub numbered : ℕ → Option ℕ
numbered n = if n == 0 then None else Some n

pub record AreNumbers (numbers : List (List (ℕ × ℕ))) (places : List Place) : Type 0 where
  pub at : (gateway face : ℕ) → number_at gateway face numbers ≡ numbered (number_from 1 gateway face places)

abbrev pub or_number : Option ℕ → Option ℕ → Option ℕ
or_number None other = other
or_number (Some n) other = Some n

pub record HasNumber (gateway face number : ℕ) (old new : List (List (ℕ × ℕ))) : Type 0 where
  pub at : (g f : ℕ) → number_at g f new ≡ or_number (number_at g f old) (if (g == gateway) && (f == face) then Some number else None)

-- a number but for one
abbrev pub other_than : ℕ → Option ℕ → Option ℕ
other_than number None = None
other_than number (Some n) = if n == number then None else Some n

pub record LacksNumber (gateway face number : ℕ) (old new : List (List (ℕ × ℕ))) : Type 0 where
  pub at : (g f : ℕ) → number_at g f new ≡ (if (g == gateway) && (f == face) then other_than number (number_at g f old) else number_at g f old)

-- ---- links

abbrev pub FacesRise : ℕ → List Link → Type 0
FacesRise n [] = Unit {0}
FacesRise n (l ∷ ls) = (n ≤ l.one) × ((l.one < l.two) × FacesRise (l.two + 1) ls)

abbrev pub AreBelow : ℕ → List Link → Type 0
AreBelow face links = AllByRecursion (λ (l : Link). l.two < face) links

-- links up to a place have no face from a number on, and that at the place has one
pub record IsCut (face : ℕ) (links : List Link) (at : ℕ) : Type 0 where
  pub before : (i : ℕ) (d : Link) → i < at → i < length links → (get_or links i d).two < face
  pub there : (d : Link) → at < length links → face ≤ (get_or links at d).two
