-- Faces that are found by lists of their numbers, as what they were told is by its expression.
use Rattle.std.specs.Prelude.{◌≡◌, ℕ, Bool, true, false, ◌==◌, ◌&&◌, ◌||◌, List}
use Rattle.std.specs.List.{list_any}
use Rattle.std.specs.declared.cmp.Ordering.{Ordering}
use Rattle.zt_region.specs.Region.{is_north}
use Rattle.zt_protocol.specs.Interest.{is_current}
use Rattle.zt_protocol.specs.declared.messages.Message.{Message}
use Rattle.zt_protocol.specs.declared.messages.Message.TheVariants.{DeclareToken, UndeclareToken, DeclareFinal, Interest, InterestFinal, DeclareSubscriber, DeclareQueryable}
use Rattle.zt_model.specs.Lists.{same}
use Rattle.zt_model.specs.Rows.{ById, Face}
use Rattle.zt_check_hints.specs.Hinted.{Has, hints_at}

module _ {K : Type 0} where
  -- a face of the number passes the test
  abbrev pub passes_at : (Face K → Bool) → List (Face K) → ℕ → Bool
  passes_at test fs n = list_any (λ f. n == f.number && test f) fs

  -- a face of which this holds has a number that passes the test
  abbrev pub holds_of : (Face K → Bool) → (ℕ → Bool) → List (Face K) → Bool
  holds_of holds test fs = list_any (λ f. test f.number && holds f) fs

  -- something may be owed to a face: it is to the north, or holds an interest in what is there now too
  abbrev pub may_be_owed : Face K → Bool
  may_be_owed f = is_north f.region || list_any (λ row. is_current row.1.mode) f.held

  -- the number of each face of which this holds is listed
  pub record AreListed (holds : Face K → Bool) (numbers : List ℕ) (fs : List (Face K)) : Type 0 where
    pub at : (test : ℕ → Bool) → holds_of holds test fs ≡ true → list_any test numbers ≡ true

module _ {K : Type 0} (cmp : K → K → Ordering) where
  -- a face was told the expression
  abbrev pub was_told : K → Face K → Bool
  was_told e f = list_any (λ row. same cmp e row.1) f.told

  -- each face that was told an expression is hinted by it
  pub record AreTold (hints : List (K × List ℕ)) (fs : List (Face K)) : Type 0 where
    pub at : (e : K) → AreListed (was_told e) (hints_at cmp e hints) fs

  -- a message tells the expression
  abbrev pub tells : K → Message K → Bool
  tells e (DeclareToken id x _ interest) = same cmp e x
  tells e (UndeclareToken id x _) = false
  tells e (DeclareFinal interest) = false
  tells e (Interest id mode options x) = false
  tells e (InterestFinal id) = false
  tells e (DeclareSubscriber id x interest) = false
  tells e (DeclareQueryable id x info interest) = false

  -- what a message tells a face is hinted
  pub record IsTelling (m : Message K) (n : ℕ) (hints : List (K × List ℕ)) : Type 0 where
    pub at : (e : K) → tells e m ≡ true → Has n (hints_at cmp e hints)

  -- what these rows of a face tell is hinted
  pub record AreOfTold (hints : List (K × List ℕ)) (n : ℕ) (rows : ById K) : Type 0 where
    pub at : (e : K) → list_any (λ row. same cmp e row.1) rows ≡ true → Has n (hints_at cmp e hints)
