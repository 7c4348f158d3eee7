-- What of a told row, of an interest sent up and of an ask a message leaves as it is.
use Rattle.std.specs.Prelude.{◌≡◌, ◌⊎◌, ℕ, ◌<◌, Bool, true, false, ◌==◌, ◌&&◌, List, [], ◌∷◌, Some, None}
use Rattle.std.specs.List.{list_any}
use Rattle.std.specs.declared.cmp.Ordering.{Ordering}
use Rattle.zt_region.specs.Region.{is_north}
use Rattle.zt_protocol.specs.declared.messages.Message.{Message}
use Rattle.zt_protocol.specs.declared.messages.Message.TheVariants.{DeclareToken, UndeclareToken, DeclareFinal, Interest, InterestFinal}
use Rattle.zt_model.specs.Lists.{same}
use Rattle.zt_model.specs.Rows.{ById, Face, InterestRow}
use Rattle.zt_model.specs.Transcript.{Each}

-- the message is no final of the id
abbrev pub IsNoFinal : {K : Type 0} → ℕ → Message K → Type 0
IsNoFinal id (DeclareFinal interest) = (id == interest) ≡ false
IsNoFinal id _ = Unit {0}

-- the message neither sends an interest under the id nor ends it
abbrev pub LeavesInterest : {K : Type 0} → ℕ → Message K → Type 0
LeavesInterest id (Interest k mode options e) = (id == k) ≡ false
LeavesInterest id (InterestFinal k) = (id == k) ≡ false
LeavesInterest id _ = Unit {0}

-- a final is of an id below the next one
abbrev pub FinalIsBelow : {K : Type 0} → ℕ → Message K → Type 0
FinalIsBelow next (DeclareFinal interest) = interest < next
FinalIsBelow next _ = Unit {0}

-- the interest was sent up under the id, which no other has
pub record IsSentUp {K : Type 0} (id : ℕ) (i : InterestRow K) (f : Face K) : Type 0 where
  pub only : Each (λ row. (id == row.0) ≡ true → row.1 ≡ i) f.locals
  pub next : id < f.next

module _ {K : Type 0} (cmp : K → K → Ordering) where
  -- the expression stands under the id
  abbrev pub has_row : ℕ → K → ById K → Bool
  has_row id e rows = list_any (λ row. (id == row.0) && same cmp e row.1) rows

  -- the message answers the id the expression
  abbrev pub is_answer : ℕ → K → Message K → Bool
  is_answer id e (DeclareToken k x (Some interest) node) = (id == interest) && same cmp e x
  is_answer id e _ = false

  -- an answer comes with no final of the id before it
  abbrev pub AnswersFirst : ℕ → K → List (Message K) → Type 0
  AnswersFirst id e [] = ⊥
  AnswersFirst id e (m ∷ ms) = (is_answer id e m ≡ true) ⊎ (IsNoFinal id m × AnswersFirst id e ms)

  -- the message doesn't undeclare the id, nor any expression by its name, nor declare another expression under the id
  abbrev pub LeavesRow : ℕ → K → Message K → Type 0
  LeavesRow id e (DeclareToken k x interest node) = (id == k) ≡ true → same cmp e x ≡ true
  LeavesRow id e (UndeclareToken k None node) = (id == k) ≡ false
  LeavesRow id e (UndeclareToken k (Some x) node) = ⊥
  LeavesRow id e _ = Unit {0}

  -- a face to the north that was told the row, under an id of its own
  pub record IsTold (id : ℕ) (e : K) (f : Face K) : Type 0 where
    pub north : is_north f.region ≡ true
    pub asks : f.asks ≡ []
    pub has : has_row id e f.told ≡ true
    pub only : Each (λ row. (id == row.0) ≡ true → same cmp e row.1 ≡ true) f.told
    pub next : id < f.next
