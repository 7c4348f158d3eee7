-- Tokens whose places are hinted by their expressions.
use Rattle.std.specs.Prelude.{◌≡◌, ℕ, Bool, true, ◌==◌, ◌&&◌, List}
use Rattle.std.proofs.lemmas.Bool.{and_parts, eqb-true}
use Rattle.std.specs.List.{list_any}
use Rattle.std.specs.declared.cmp.Ordering.{Ordering}
use Rattle.zt_region.specs.declared.region.Region.{Region}
use Rattle.zt_model.specs.Lists.{same}
use Rattle.zt_model.specs.Rows.{ById, Face}
use Rattle.zt_check_hints.specs.Hinted.{is_hinted}
use Rattle.zt_check_open_faces.specs.declared.tokens.TokenPlace.{TokenPlace}
use Rattle.zt_check_open_faces.specs.Found.{AreTold}
use Rattle.zt_check_open_faces.specs.Open.{AreWithin, NumbersRise, TokensRise}

-- the same face and id are one place
pub one_place : (one other : TokenPlace) → (one.face == other.face && one.id == other.id) ≡ true → one ≡ other
one_place one other h =
    let parts = and_parts (one.face == other.face) (one.id == other.id) h in
    λ i. record { face = eqb-true one.face other.face parts.0 i; id = eqb-true one.id other.id parts.1 i }

module _ {K : Type 0} (cmp : K → K → Ordering) where
  -- a face declares the expression under an id that passes the test
  abbrev pub is_declared_by : (TokenPlace → Bool) → K → Face K → Bool
  is_declared_by test e f = list_any (λ row. test (record { face = f.number; id = row.0 }) && same cmp e row.1) f.live

  -- and one of these faces does
  abbrev pub is_declared : (TokenPlace → Bool) → K → List (Face K) → Bool
  is_declared test e fs = list_any (is_declared_by test e) fs

  -- each token's place is hinted by its expression
  pub record AreDeclared (hints : List (K × List TokenPlace)) (fs : List (Face K)) : Type 0 where
    pub at : (test : TokenPlace → Bool) (e : K) → is_declared test e fs ≡ true → is_hinted cmp test e hints ≡ true

  -- so are the places of these rows of a face
  pub record AreOfFace (hints : List (K × List TokenPlace)) (n : ℕ) (rows : ById K) : Type 0 where
    pub at : (test : TokenPlace → Bool) (e : K) → list_any (λ row. test (record { face = n; id = row.0 }) && same cmp e row.1) rows ≡ true → is_hinted cmp test e hints ≡ true

  -- the expression is declared at the place, by a face of a region that passes the test
  abbrev pub is_declared_at : (Region → Bool) → K → List (Face K) → TokenPlace → Bool
  is_declared_at regions e fs place =
      list_any (λ f. place.face == f.number && (regions f.region && list_any (λ row. place.id == row.0 && same cmp e row.1) f.live)) fs

  -- what is kept beside open faces fits them
  pub record AreOpen (made : ℕ) (fs : List (Face K)) (hints : List (K × List TokenPlace)) (told_hints : List (K × List ℕ)) : Type 0 where
    pub rise : NumbersRise 0 fs
    pub within : AreWithin made fs
    pub tokens : TokensRise fs
    pub declared : AreDeclared hints fs
    pub told : AreTold cmp told_hints fs
