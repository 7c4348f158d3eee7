-- Open faces in order of number, and changes of them.
use Rattle.std.specs.Prelude.{◌≡◌, ℕ, ◌+◌, ◌<◌, ◌≤◌, ◌==◌, false, List, [], ◌∷◌, length, get_or}
use Rattle.std.specs.List.{AllByRecursion}
use Rattle.zt_model.specs.Rows.{ById, Face}

-- the open faces, and how many were made
pub record Opened (K : Type 0) : Type 0 where
  pub made : ℕ
  pub open_faces : List (Face K)

module _ {K : Type 0} where
  -- the numbers of faces rise, from n on
  abbrev pub NumbersRise : ℕ → List (Face K) → Type 0
  NumbersRise n [] = Unit {0}
  NumbersRise n (f ∷ fs) = (n ≤ f.number) × NumbersRise (f.number + 1) fs

  -- the ids of rows rise, from n on
  abbrev pub IdsRise : ℕ → ById K → Type 0
  IdsRise n [] = Unit {0}
  IdsRise n (row ∷ rows) = (n ≤ row.0) × IdsRise (row.0 + 1) rows

  -- so do those of the tokens of each face
  abbrev pub TokensRise : List (Face K) → Type 0
  TokensRise fs = AllByRecursion (λ (f : Face K). IdsRise 0 f.live) fs

  -- none is above this one
  abbrev pub AreWithin : ℕ → List (Face K) → Type 0
  AreWithin n fs = AllByRecursion (λ (f : Face K). f.number ≤ n) fs

  -- faces up to a place have numbers below this one, and that at the place has not
  pub record IsCut (n : ℕ) (fs : List (Face K)) (at : ℕ) : Type 0 where
    pub within : at ≤ length fs
    pub before : (i : ℕ) (d : Face K) → i < at → (get_or fs i d).number < n
    pub there : (d : Face K) → at < length fs → n ≤ (get_or fs at d).number

  -- a change leaves all faces but those of the number
  pub record IsOfOne (n : ℕ) (change : Face K → Face K) : Type 0 where
    pub others : (f : Face K) → (n == f.number) ≡ false → change f ≡ f

  -- a change keeps numbers, regions, the tokens that are declared, what was told and the interests that are held
  pub record KeepsRows (change : Face K → Face K) : Type 0 where
    pub number : (f : Face K) → (change f).number ≡ f.number
    pub live : (f : Face K) → (change f).live ≡ f.live
    pub told : (f : Face K) → (change f).told ≡ f.told
    pub region : (f : Face K) → (change f).region ≡ f.region
    pub held : (f : Face K) → (change f).held ≡ f.held
