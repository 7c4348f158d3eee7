-- The faces that may be told of tokens, as they are looked up.
--     rows_of kind n held                  the interests of a kind among those held, each under a number and its id
--     token_rows f                         the interests in tokens that a face holds, each under its number and id
--     other_rows f                         the other interests that a face holds
--     north_numbers faces                  the numbers of the faces to the north, in order
--     may_seek matching f e                the face is to the north, or holds an interest in the tokens of an expression
--     Seeking                              what is looked up: these numbers, an index of these interests, one of the other
--                                          interests, and one of what faces were told
--     AreSeekers cmp anchored seeking faces       they are those of the faces
--     IsOnlyOne f faces                           the face is one of these, and no other has its number
--     DropsOf cmp kind f id old new               the interest of the face under the id goes from an index of a kind
--     DropsAll cmp kind f old new                 the interests of the face go from an index of a kind
--     PutsOf cmp kind n id interest old new       an interest comes to an index of a kind, if it is one of this kind
--     Reseeks cmp anchored f change old new       a change of the face leaves them right
--     Leaves cmp anchored f old new               the face goes
--     IsKnown cmp anchored f message known seeking     the id is that under which the face was told the expression that
--                                                 a message says is gone
use Rattle.std.specs.Prelude.{◌≡◌, ℕ, Bool, ◌==◌, ◌&&◌, ◌||◌, true, false, not, if◌then◌else◌, List, [], ◌∷◌, ◌++◌, filter, map, Option}
use Rattle.std.specs.List.{AllByRecursion, flat_map, list_any}
use Rattle.std.specs.declared.cmp.Ordering.{Ordering}
use Rattle.zt_keys.specs.declared.anchor.Anchor.{Anchor}
use Rattle.zt_region.specs.Region.{is_north}
use Rattle.zt_protocol.specs.Interest.{has_tokens}
use Rattle.zt_protocol.specs.declared.messages.Message.{Message}
use Rattle.zt_interest_index.specs.Holders.{IsIndexOf, belongs}
use Rattle.zt_interest_index.specs.Holdings.{is_of}
use Rattle.zt_interest_index.specs.Index.{Interests}
use Rattle.zt_model.specs.Rows.{ById, Face, InterestRow}
use Rattle.zt_model.specs.Wants.{wants}
use Rattle.zt_token_index.specs.Told.{id_of, told_at}
use Rattle.zt_face.specs.Told.{AreApart, heard_known}
use Rattle.zt_model.specs.Hearing.{heard}
use Rattle.zt_token_index.specs.Retold.{Index, told_id_at}

-- an interest, in an expression or in all: under a face and an id
abbrev pub HeldRow : Type 0 → Type 0
HeldRow K = (ℕ × ℕ) × Option K

module _ {K : Type 0} where
  -- the two kinds of interest
  abbrev pub in_tokens : InterestRow K → Bool
  in_tokens interest = has_tokens interest.options

  abbrev pub in_others : InterestRow K → Bool
  in_others interest = not (has_tokens interest.options)

  abbrev pub rows_of : (InterestRow K → Bool) → ℕ → ById (InterestRow K) → List (HeldRow K)
  rows_of kind n held = map (λ row. ((n, row.0), row.1.expr)) (filter (λ row. kind row.1) held)

  abbrev pub kind_rows : (InterestRow K → Bool) → Face K → List (HeldRow K)
  kind_rows kind f = rows_of kind f.number f.held

  abbrev pub token_rows : Face K → List (HeldRow K)
  token_rows f = kind_rows in_tokens f

  abbrev pub other_rows : Face K → List (HeldRow K)
  other_rows f = kind_rows in_others f

  abbrev pub north_numbers : List (Face K) → List ℕ
  north_numbers fs = map (λ f. f.number) (filter (λ f. is_north f.region) fs)

  -- which of these faces is told of a token, their hats say
  abbrev pub may_seek : (K → K → Bool) → Face K → K → Bool
  may_seek matching f e = is_north f.region || wants matching f e

pub record Seeking (K : Type 0) : Type 0 where
  pub north : List ℕ
  pub index : Interests K
  pub others : Interests K
  pub told : Index K

-- where there is no face
abbrev pub no_seekers : {K : Type 0} → Seeking K
no_seekers = record { north = []; index = ([], []); others = ([], []); told = [] }

pub record AreSeekers {K : Type 0} (cmp : K → K → Ordering) (anchored : Anchor → K → Option ℕ) (seeking : Seeking K) (faces : List (Face K)) : Type 0 where
  pub north : seeking.north ≡ north_numbers faces
  pub index : IsIndexOf cmp seeking.index (flat_map token_rows faces)
  pub others : IsIndexOf cmp seeking.others (flat_map other_rows faces)
  pub told : (e : K) (n : ℕ) → id_of n (told_at cmp e seeking.told) ≡ told_id_at cmp e faces n
  pub apart : AllByRecursion (λ f. AreApart cmp f.told) faces

pub record IsOnlyOne {K : Type 0} (f : Face K) (faces : List (Face K)) : Type 0 where
  pub found : list_any (λ x. f.number == x.number) faces ≡ true
  pub only : AllByRecursion (λ x. (f.number == x.number) ≡ true → x ≡ f) faces
  pub alone : filter (λ x. f.number == x.number) faces ≡ f ∷ []

module _ {K : Type 0} (cmp : K → K → Ordering) (kind : InterestRow K → Bool) where
  abbrev pub DropsOf : Face K → ℕ → Interests K → Interests K → Type 0
  DropsOf f id old new = (fs : List (Face K)) → IsOnlyOne f fs → IsIndexOf cmp old (flat_map (kind_rows kind) fs) → IsIndexOf cmp new (filter (λ row. not (is_of f.number id row)) (flat_map (kind_rows kind) fs))

  abbrev pub DropsAll : Face K → Interests K → Interests K → Type 0
  DropsAll f old new = (fs : List (Face K)) → IsOnlyOne f fs → IsIndexOf cmp old (flat_map (kind_rows kind) fs) → IsIndexOf cmp new (flat_map (kind_rows kind) (filter (λ x. not (f.number == x.number)) fs))

  -- the interest that is held under the id goes
  abbrev pub RemovesOf : ℕ → ℕ → InterestRow K → Interests K → Interests K → Type 0
  RemovesOf n id interest old new = (held : List (HeldRow K)) → list_any (λ row. is_of n id row && not (kind interest && belongs cmp interest.expr row)) held ≡ false → IsIndexOf cmp old held → IsIndexOf cmp new (filter (λ row. not (is_of n id row)) held)

  abbrev pub PutsOf : ℕ → ℕ → InterestRow K → Interests K → Interests K → Type 0
  PutsOf n id interest old new = (held : List (HeldRow K)) → IsIndexOf cmp old held → IsIndexOf cmp new (rows_of kind n ((id, interest) ∷ []) ++ held)

module _ {K : Type 0} (cmp : K → K → Ordering) (anchored : Anchor → K → Option ℕ) (f : Face K) where
  pub record Reseeks (change : Face K → Face K) (old new : Seeking K) : Type 0 where
    pub at : (faces : List (Face K)) → IsOnlyOne f faces → AreSeekers cmp anchored old faces → AreSeekers cmp anchored new (map (λ x. if f.number == x.number then change x else x) faces)

  -- the face goes
  pub record Leaves (old new : Seeking K) : Type 0 where
    pub at : (faces : List (Face K)) → IsOnlyOne f faces → AreSeekers cmp anchored old faces → AreSeekers cmp anchored new (filter (λ x. not (f.number == x.number)) faces)

  -- a message that says of an expression that it is gone is heard by the id that is known
  pub record IsKnown (message : Message K) (known : Option ℕ) (seeking : Seeking K) : Type 0 where
    pub at : (faces : List (Face K)) → IsOnlyOne f faces → AreSeekers cmp anchored seeking faces → (moment : ℕ) → heard_known cmp moment message known f ≡ heard cmp moment message f
