-- What it says that a promise over trees wants a premise: a transcript of the machine that breaks the promise, in which
-- that premise alone fails.
--     MissesWhatStays   an ask isn't answered what stays
--     GetsWhatWasNot    an ask is answered what was nowhere
--     KnowsNot          a face doesn't know its tree
use Rattle.std.specs.Prelude.{◌≡◌, ℕ, Bool, true, false, ◌==◌, ◌&&◌, List, [], ◌∷◌, ◌++◌, Option, Some}
use Rattle.std.specs.List.{list_all, list_any, flat_map}
use Rattle.std.specs.Option.{option_to_list}
use Rattle.std.specs.Ordering.{nat_cmp}
use Rattle.std.specs.declared.cmp.Ordering.{Ordering}
use Rattle.zt_protocol.specs.Interest.{is_future}
use Rattle.zt_protocol.specs.Plain.{InterestFinal, PlainLine, Unlink, Speak, Moment}
use Rattle.zt_model.specs.Fabric.{Fabric, empty_fabric}
use Rattle.zt_model.specs.Lists.{is_among, nth}
use Rattle.zt_model.specs.Promises.{EachFace, Turn, is_accepted, turns_from}
use Rattle.zt_model.specs.Rows.{InterestRow}
use Rattle.zt_model.specs.Transcript.{Each}
use Rattle.zt_model.specs.TreePromises.{IsFinishedBy, IsInTree, IsMember, IsPlainlyLive, KnowsItsTree, MakesAsk, answers_of_turn, are_links_empty, holds_both, is_at_gateway, is_ids_spent, is_plain, is_plainly_live_at}
use Rattle.zt_model.specs.Wants.{is_about}
use Rattle.zt_model_test.specs.Script.{ComesOut, Script, matching_in}
use Rattle.zt_theorem_tree_invariant.specs.Trees.{FacesFormTrees, KeepPromisesOfTrees}

-- ---- premises

-- What the promises stand on. Of an ask: nothing waits when it is made, and from its asking to its final there is no
-- moment, no unlinking and no end of its own interest. Of all turns: none is refused for want of ids, and after
-- each faces form trees.
pub data Premise : Type 0 where
  NothingWaits : Premise
  NoMoment : Premise
  NoUnlinking : Premise
  InterestStands : Premise
  IdsAreLeft : Premise
  IsOfTrees : Premise

abbrev pub number_of_premise : Premise → ℕ
number_of_premise NothingWaits = 1
number_of_premise NoMoment = 2
number_of_premise NoUnlinking = 3
number_of_premise InterestStands = 4
number_of_premise IdsAreLeft = 5
number_of_premise IsOfTrees = 6

abbrev pub premises_of_asks : List Premise
premises_of_asks = NothingWaits ∷ NoMoment ∷ NoUnlinking ∷ InterestStands ∷ IdsAreLeft ∷ IsOfTrees ∷ []

abbrev pub premises_of_knowledge : List Premise
premises_of_knowledge = NothingWaits ∷ IdsAreLeft ∷ IsOfTrees ∷ []

-- of these premises one fails, and each other holds
abbrev pub FailsAlone : (Premise → Type 0) → List Premise → Premise → Type 0
FailsAlone Holds premises left_out =
    Each (λ p. elim (number_of_premise left_out == number_of_premise p) [ true ↦ (Holds p → ⊥) | false ↦ Holds p ]) premises

-- ---- what may end an ask before all has answered

abbrev pub is_moment : {K : Type 0} → PlainLine K → Bool
is_moment (Moment gateway now) = true
is_moment _ = false

abbrev pub is_unlinking : {K : Type 0} → PlainLine K → Bool
is_unlinking (Unlink link) = true
is_unlinking _ = false

abbrev pub is_end_of_interest : {K : Type 0} → ℕ → ℕ → InterestRow K → PlainLine K → Bool
is_end_of_interest face id interest (Speak (InterestFinal f i)) = is_future interest.mode && ((face == f) && (id == i))
is_end_of_interest face id interest _ = false

-- a line of this kind is accepted in one of the turns
abbrev pub comes : {K : Type 0} → (PlainLine K → Bool) → List (Turn K) → Bool
comes is_such turns = list_any (λ t. is_accepted t.entry && is_such t.line) turns

module _ {K : Type 0} (cmp : K → K → Ordering) (matching : K → K → Bool) where
  -- ---- asks

  -- A token ask of a plain face, whose final is printed: a `TreeAsk`, but for the premises.
  pub record AskIn (turns : List (Turn K)) : Type 0 where
    pub earlier : List (Turn K)
    pub asking : Turn K
    pub between : List (Turn K)
    pub ending : Option (Turn K)
    pub later : List (Turn K)
    pub turns_are : turns ≡ earlier ++ asking ∷ between ++ option_to_list ending ++ later
    pub face : ℕ
    pub id : ℕ
    pub interest : InterestRow K
    pub made : MakesAsk cmp matching asking face id interest
    pub finished : IsFinishedBy cmp matching face id asking between ending

  -- the turns from its own to that of its final, and what it is answered in them
  abbrev pub turns_to_final : {turns : List (Turn K)} → AskIn turns → List (Turn K)
  turns_to_final a = a.asking ∷ a.between ++ option_to_list a.ending

  abbrev pub answers_to : {turns : List (Turn K)} → AskIn turns → List K
  answers_to a = flat_map (answers_of_turn cmp matching a.face a.id) (turns_to_final a)

  abbrev pub is_answered : {turns : List (Turn K)} → AskIn turns → K → Bool
  is_answered a e = list_any (λ t. is_among cmp e (answers_of_turn cmp matching a.face a.id t)) (turns_to_final a)

  -- the premise holds of the ask
  abbrev pub Holds : {turns : List (Turn K)} → AskIn turns → Premise → Type 0
  Holds a NothingWaits = are_links_empty a.asking.before ≡ true
  Holds a NoMoment = comes is_moment (turns_to_final a) ≡ false
  Holds a NoUnlinking = comes is_unlinking (turns_to_final a) ≡ false
  Holds a InterestStands = comes (is_end_of_interest a.face a.id a.interest) (turns_to_final a) ≡ false
  Holds {turns} a IdsAreLeft = list_any (is_ids_spent cmp matching) turns ≡ false
  Holds {turns} a IsOfTrees = Each (λ t. FacesFormTrees t.after) turns

  -- one plain face of the ask's tree, as it was at the asking, has a matching expression live up to the final
  pub record StaysInTree {turns : List (Turn K)} (a : AskIn turns) (e : K) : Type 0 where
    pub about : is_about matching a.interest.expr e ≡ true
    pub own : ℕ
    pub other : ℕ
    pub place : ℕ
    pub at_own : is_at_gateway a.asking.before a.face own ≡ true
    pub in_tree : IsInTree a.asking.before own other
    pub at_other : is_at_gateway a.asking.before place other ≡ true
    pub stays : list_all (λ t. is_plainly_live_at cmp matching t.after place e) (turns_to_final a) ≡ true

  -- in one of the turns before the final some plain face has the expression live
  abbrev pub WasSomewhere : {turns : List (Turn K)} → AskIn turns → K → Type 0
  WasSomewhere a e = (t : Turn K) × (face : ℕ) × IsMember t (a.asking ∷ a.between) × (is_plainly_live_at cmp matching t.after face e ≡ true)

  -- Without the premise an ask isn't answered what stays ..
  pub record MissesWhatStays (left_out : Premise) (turns : List (Turn K)) : Type 0 where
    pub ask : AskIn turns
    pub premises : FailsAlone (Holds ask) premises_of_asks left_out
    pub expr : K
    pub stays : StaysInTree ask expr
    pub missed : is_answered ask expr ≡ false

  -- .. or is answered what was nowhere.
  pub record GetsWhatWasNot (left_out : Premise) (turns : List (Turn K)) : Type 0 where
    pub ask : AskIn turns
    pub premises : FailsAlone (Holds ask) premises_of_asks left_out
    pub expr : K
    pub answered : is_answered ask expr ≡ true
    pub nowhere : WasSomewhere ask expr → ⊥

  -- With all of them it isn't answered what doesn't stay at one face: each turn leaves it live in the asking gateway's
  -- tree ..
  pub record MissesWhatMoves (turns : List (Turn K)) : Type 0 where
    pub ask : AskIn turns
    pub premises : Each (Holds ask) premises_of_asks
    pub expr : K
    pub about : is_about matching ask.interest.expr expr ≡ true
    pub own : ℕ
    pub at_own : is_at_gateway ask.asking.before ask.face own ≡ true
    pub live : Each (λ t. IsPlainlyLive cmp matching t.after own expr) (turns_to_final ask)
    pub moves : StaysInTree ask expr → ⊥
    pub missed : is_answered ask expr ≡ false

  -- .. or what stays at a face whose gateway wasn't in that tree when it asked: it is when the final comes.
  pub record MissesWhatIsLinked (turns : List (Turn K)) : Type 0 where
    pub ask : AskIn turns
    pub premises : Each (Holds ask) premises_of_asks
    pub expr : K
    pub about : is_about matching ask.interest.expr expr ≡ true
    pub own : ℕ
    pub other : ℕ
    pub place : ℕ
    pub at_own : is_at_gateway ask.asking.before ask.face own ≡ true
    pub at_other : is_at_gateway ask.asking.before place other ≡ true
    pub apart : IsInTree ask.asking.before own other → ⊥
    pub joined : Each (λ t. IsInTree t.after own other) (option_to_list ask.ending)
    pub stays : list_all (λ t. is_plainly_live_at cmp matching t.after place expr) (turns_to_final ask) ≡ true
    pub missed : is_answered ask expr ≡ false

  -- With all of them it is answered this one expression, which stays, and no other.
  pub record GetsOne (expr : K) (turns : List (Turn K)) : Type 0 where
    pub ask : AskIn turns
    pub premises : Each (Holds ask) premises_of_asks
    pub stays : StaysInTree ask expr
    pub answers : answers_to ask ≡ expr ∷ []

  -- ---- knowledge

  -- the premise holds of a turn
  abbrev pub HoldsAfter : List (Turn K) → Turn K → Premise → Type 0
  HoldsAfter turns t NothingWaits = are_links_empty t.after ≡ true
  HoldsAfter turns t IdsAreLeft = list_any (is_ids_spent cmp matching) turns ≡ false
  HoldsAfter turns t IsOfTrees = Each (λ u. FacesFormTrees u.after) turns
  HoldsAfter turns t _ = Unit {0}

  -- each open plain face that asked for tokens now and later knows its tree
  abbrev pub FacesKnow : Fabric K → Type 0
  FacesKnow s = EachFace (λ n g f. is_plain s n f ≡ true → holds_both cmp matching f ≡ true → KnowsItsTree cmp matching s n f) s

  -- Without the premise some face doesn't know its tree after the turn of this number.
  pub record KnowsNot (left_out : Premise) (number : ℕ) (turns : List (Turn K)) : Type 0 where
    pub turn : Turn K
    pub is_turn : nth number turns ≡ Some turn
    pub premises : FailsAlone (HoldsAfter turns turn) premises_of_knowledge left_out
    pub unknown : FacesKnow turn.after → ⊥

  -- With all of them each does.
  pub record Knows (number : ℕ) (turns : List (Turn K)) : Type 0 where
    pub turn : Turn K
    pub is_turn : nth number turns ≡ Some turn
    pub premises : Each (HoldsAfter turns turn) premises_of_knowledge
    pub known : FacesKnow turn.after

  -- ---- the premises are those of the promises: where they all hold, the promises say this

  abbrev pub SufficeForWhatStays : Type 0
  SufficeForWhatStays =
      (turns : List (Turn K)) → KeepPromisesOfTrees cmp matching turns →
      (a : AskIn turns) → Each (Holds a) premises_of_asks → (e : K) → StaysInTree a e → is_answered a e ≡ true

  abbrev pub SufficeForWhatWas : Type 0
  SufficeForWhatWas =
      (turns : List (Turn K)) → KeepPromisesOfTrees cmp matching turns →
      (a : AskIn turns) → Each (Holds a) premises_of_asks → (e : K) → is_answered a e ≡ true → WasSomewhere a e

  abbrev pub SufficeForKnowledge : Type 0
  SufficeForKnowledge =
      (turns : List (Turn K)) → KeepPromisesOfTrees cmp matching turns →
      (n : ℕ) (t : Turn K) → nth n turns ≡ Some t → Each (HoldsAfter turns t) premises_of_knowledge → FacesKnow t.after

-- ---- of scripts

abbrev pub turns_in : Script → List (Turn ℕ)
turns_in s = turns_from nat_cmp (matching_in s) s.lines s.entries empty_fabric

-- what asks get of what stays wants the premise: the script shows it
abbrev pub GetsLessWithout : Premise → Script → Type 0
GetsLessWithout left_out s = ComesOut s × MissesWhatStays nat_cmp (matching_in s) left_out (turns_in s)

-- it wants that the expression stays at one face, and that it is in the tree when the ask is made
abbrev pub GetsLessOfMoving : Script → Type 0
GetsLessOfMoving s = ComesOut s × MissesWhatMoves nat_cmp (matching_in s) (turns_in s)

abbrev pub GetsLessOfLinked : Script → Type 0
GetsLessOfLinked s = ComesOut s × MissesWhatIsLinked nat_cmp (matching_in s) (turns_in s)

-- that asks get only what was wants it
abbrev pub GetsMoreWithout : Premise → Script → Type 0
GetsMoreWithout left_out s = ComesOut s × GetsWhatWasNot nat_cmp (matching_in s) left_out (turns_in s)

-- that faces know their trees wants it, as the turn of this number shows
abbrev pub KnowsLessWithout : Premise → ℕ → Script → Type 0
KnowsLessWithout left_out n s = ComesOut s × KnowsNot nat_cmp (matching_in s) left_out n (turns_in s)

-- ---- of scripts that keep the promises over trees

-- the ask gets this one expression
abbrev pub GetsAlone : ℕ → Script → Type 0
GetsAlone e s = ComesOut s × GetsOne nat_cmp (matching_in s) e (turns_in s)

-- faces know their trees after the turns of these numbers
abbrev pub KnowsAfter : List ℕ → Script → Type 0
KnowsAfter numbers s = ComesOut s × Each (λ n. Knows nat_cmp (matching_in s) n (turns_in s)) numbers
