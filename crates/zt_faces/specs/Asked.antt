-- Whose asks were sent upstream, by the face and the id that they were sent as.
--     Askings                    of each face and id, whose asks were sent so
--     knows asker n id           the ask of the face n under id may be one of them
--     asker_of found             what is known where this was found
--     pair_eq a b                the same two numbers
--     asker_at found             what is known by what is found
--     asked_in rows              what is known by a map from faces and ids
--     IsKnown askers n id sent   the ask of the face n under id is known by all that it was sent as
--     AreKnown askers n asks     each ask of the face n is
--     AreAsked askers faces      each ask of each face is
--     KeepsAsks f g              where the asks of a face were known, they still are once it became g
--     KnowsMore old new          what was known before is
--     IsAskerOf asker n id faces     it knows each ask that was sent to the face n under id
use Rattle.std.specs.Prelude.{◌≡◌, ℕ, Bool, true, false, ◌==◌, ◌&&◌, List, Option, Some, None}
use Rattle.std.specs.HashMap.{HashMap, get}
use Rattle.std.specs.List.{AllByRecursion}
use Rattle.zt_model.specs.Rows.{Ask, ById, Face}
use Rattle.zt_model.specs.Telling.{was_sent_as}
use Rattle.zt_faces.specs.declared.asked.Asker.{Asker}
use Rattle.zt_faces.specs.declared.asked.Asker.TheVariants.{Nobody, One, Several}

abbrev pub Askings : Type 0
Askings = ℕ × ℕ → Asker

abbrev pub knows : Asker → ℕ → ℕ → Bool
knows Nobody n id = false
knows (One face under place) n id = (face == n) && (under == id)
knows Several n id = true

abbrev pub asker_of : Option Asker → Asker
asker_of None = Nobody
asker_of (Some asker) = asker

-- whether they are the same two numbers
abbrev pub pair_eq : ℕ × ℕ → ℕ × ℕ → Bool
pair_eq a b = (a.0 == b.0) && (a.1 == b.1)

abbrev pub asker_at : (ℕ × ℕ → Option Asker) → Askings
asker_at found sent = asker_of (found sent)

abbrev pub asked_in : {S : Type 0} → HashMap (ℕ × ℕ) Asker S → Askings
asked_in rows = asker_at (get pair_eq rows)

abbrev pub IsKnown : Askings → ℕ → ℕ → List (ℕ × ℕ) → Type 0
IsKnown askers n id sent = AllByRecursion (λ p. knows (askers p) n id ≡ true) sent

pub record KnowsMore (old new : Askings) : Type 0 where
  pub at : (p : ℕ × ℕ) (n id : ℕ) → knows (old p) n id ≡ true → knows (new p) n id ≡ true

module _ {K : Type 0} where
  abbrev pub AreKnown : Askings → ℕ → ById (Ask K) → Type 0
  AreKnown askers n asks = AllByRecursion (λ row. IsKnown askers n row.0 row.1.pendings) asks

  abbrev pub AreAsked : Askings → List (Face K) → Type 0
  AreAsked askers faces = AllByRecursion (λ f. AreKnown askers f.number f.asks) faces

  abbrev pub KeepsAsks : Face K → Face K → Type 0
  KeepsAsks f g = (askers : Askings) → AreKnown askers f.number f.asks → AreKnown askers f.number g.asks

  abbrev pub IsAskerOf : Asker → ℕ → ℕ → List (Face K) → Type 0
  IsAskerOf asker n id faces = AllByRecursion (λ f. AllByRecursion (λ row. was_sent_as n id row.1 ≡ true → knows asker f.number row.0 ≡ true) f.asks) faces
