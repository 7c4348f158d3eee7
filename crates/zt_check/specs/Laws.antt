-- What is proved of clauses and verdicts.
use Rattle.std.specs.Prelude.{◌≡◌, ℕ, Bool, ◌<◌, List, length}
use Rattle.std.specs.declared.cmp.Ordering.{Ordering}
use Rattle.zt_protocol.specs.Plain.{PlainEntry, PlainLine}
use Rattle.zt_model.specs.Fabric.{Fabric}
use Rattle.zt_model.specs.Promises.{AnswersAsks, SendsFinals, turns_from}
use Rattle.zt_model.specs.Transcript.{Each, IsFaithfulFrom}
use Rattle.zt_check.specs.Clauses.{MeetsAll, every_clause}
use Rattle.zt_check.specs.Judging.{Judges}
use Rattle.zt_check.specs.declared.verdict.Clause.{Clause}
use Rattle.zt_check.specs.declared.verdict.Verdict.{Verdict}

module _ {K : Type 0} (cmp : K → K → Ordering) (matching : K → K → Bool) where
  -- each turn meets all clauses
  abbrev pub MeetsEveryClause : List (PlainLine K) → List (PlainEntry K) → Fabric K → Type 0
  MeetsEveryClause lines entries s = Each (MeetsAll cmp matching every_clause) (turns_from cmp matching lines entries s)

  -- the transcript is a faithful one, asks are answered what they ask for, and each gets its one final
  abbrev pub IsFaithfulAndAnswers : List (PlainLine K) → List (PlainEntry K) → Fabric K → Type 0
  IsFaithfulAndAnswers lines entries s =
      IsFaithfulFrom cmp matching lines entries s
      × Each (λ t. AnswersAsks cmp matching t × SendsFinals cmp matching t) (turns_from cmp matching lines entries s)

  -- of one claimed text no two verdicts can be given
  abbrev pub JudgesOnce : (K → List ℕ) → Type 0
  JudgesOnce printed =
      (asked : List Clause) (lines : List (PlainLine K)) (claimed : List ℕ) (one other : Verdict) → length lines < 18446744073709551615
      → Judges cmp matching printed asked lines claimed one → Judges cmp matching printed asked lines claimed other → one ≡ other
