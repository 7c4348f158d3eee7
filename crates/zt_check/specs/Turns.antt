-- What is said of one turn, and what is known before it.
use Rattle.std.specs.Prelude.{Bool, true, false, List, [], ◌∷◌, Option, None, Some}
use Rattle.std.specs.declared.cmp.Ordering.{Ordering}
use Rattle.zt_protocol.specs.Plain.{PlainEntry, PlainLine}
use Rattle.zt_model.specs.Fabric.{Fabric}
use Rattle.zt_model.specs.Promises.{Turn}
use Rattle.zt_model.specs.Transcript.{fabric_shown}
use Rattle.zt_check_fabric.specs.Placed.{IsPlaced}
use Rattle.zt_check_keeping.specs.Bounds.{EachPlainFace, KeepsNoLess, KeepsNoMore}
use Rattle.zt_check_finals.specs.Finishing.{Unended}
use Rattle.zt_check.specs.Clauses.{FailsFirst, MeetsAll, every_clause}
use Rattle.zt_check.specs.declared.verdict.Clause.{Clause}
use Rattle.zt_check.specs.declared.verdict.Clause.TheVariants.{Upper, Lower, Answers, Finals}

-- the clauses but for the text and the cause of a refusal
abbrev pub later : List Clause
later = Upper ∷ Lower ∷ Answers ∷ Finals ∷ []

-- the first clause that is said to fail, in their order, by what is found of the last four
abbrev pub first_failed : Bool → Bool → Bool → Bool → Option Clause
first_failed false less answers finals = Some Upper
first_failed true false answers finals = Some Lower
first_failed true true false finals = Some Answers
first_failed true true true false = Some Finals
first_failed true true true true = None

module _ {K : Type 0} (cmp : K → K → Ordering) (matching : K → K → Bool) where
  -- What is said of a turn with the clause that it is said to fail, if any, by these clauses: that this is the first of
  -- them that it fails, or that it meets them.
  abbrev pub TellsOf : List Clause → Turn K → Option Clause → Type 0
  TellsOf clauses t None = MeetsAll cmp matching clauses t
  TellsOf clauses t (Some failed) = FailsFirst cmp matching clauses t failed

  abbrev pub Tells : Turn K → Option Clause → Type 0
  Tells t failed = TellsOf every_clause t failed

  -- Each open face has one place, and keeps what it should, and no ask has ended whose final wasn't printed: so it is before
  -- each line of a transcript that meets the clauses.
  pub record IsKept (s : Fabric K) : Type 0 where
    pub placed : IsPlaced s
    pub no_more : EachPlainFace (KeepsNoMore cmp matching) s
    pub no_less : EachPlainFace (KeepsNoLess cmp matching) s
    pub unended : Unended s

  -- the turn that a line makes with its entry
  abbrev pub turn_of : PlainLine K → PlainEntry K → Fabric K → Turn K
  turn_of line entry s = record { line = line; entry = entry; before = s; after = fabric_shown cmp matching line entry s }
