-- What each clause asks of one turn of a transcript: a line with its entry, and the fabrics that the transcript shows
-- before and after it. The clauses are the parts of what is promised of faithful transcripts, of the answers to asks and
-- of their finals: `zt_check::laws` proves that together they say no less and no more.
use Rattle.std.specs.Prelude.{◌≡◌, ◌⊎◌, Bool, List, [], ◌∷◌}
use Rattle.std.specs.declared.cmp.Ordering.{Ordering}
use Rattle.zt_protocol.specs.Plain.{PlainEntry, PlainLine}
use Rattle.zt_model.specs.Fabric.{Fabric}
use Rattle.zt_model.specs.Promises.{AnswersAsks, SendsFinals, Turn}
use Rattle.zt_model.specs.Transcript.{Each, IsEntry, IsRefusedByCause, fabric_shown}
use Rattle.zt_check_keeping.specs.Bounds.{EachPlainFace, KeepsNoLess, KeepsNoMore}
use Rattle.zt_check.specs.declared.verdict.Clause.{Clause}
use Rattle.zt_check.specs.declared.verdict.Clause.TheVariants.{Text, Cause, Upper, Lower, Answers, Finals}

-- all clauses, in the order in which they are tried
abbrev pub every_clause : List Clause
every_clause = Text ∷ Cause ∷ Upper ∷ Lower ∷ Answers ∷ Finals ∷ []

module _ {K : Type 0} (cmp : K → K → Ordering) (matching : K → K → Bool) where
  -- what a clause asks of a turn
  abbrev pub Meets : Turn K → Clause → Type 0
  Meets t Text = IsEntry t.entry
  Meets t Cause = IsRefusedByCause cmp matching t.line t.entry t.before
  Meets t Upper = EachPlainFace (KeepsNoMore cmp matching) t.after
  Meets t Lower = EachPlainFace (KeepsNoLess cmp matching) t.after
  Meets t Answers = AnswersAsks cmp matching t
  Meets t Finals = SendsFinals cmp matching t

  -- a turn meets each of these clauses
  abbrev pub MeetsAll : List Clause → Turn K → Type 0
  MeetsAll clauses t = Each (Meets t) clauses

  -- this is the first of these clauses that a turn fails
  abbrev pub FailsFirst : List Clause → Turn K → Clause → Type 0
  FailsFirst [] t failed = ⊥
  FailsFirst (c ∷ clauses) t failed = ((c ≡ failed) × (Meets t c → ⊥)) ⊎ (Meets t c × FailsFirst clauses t failed)
