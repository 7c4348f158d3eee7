-- The sentences that tell breaks, a line for each.
use Rattle.std.specs.Prelude.{ℕ, Bool, true, false, if◌then◌else◌, List, ◌++◌, ◌==◌, codes, decimal, length, string_bytes, Option, Some, None}
use Rattle.std.specs.List.{flat_map}
use Rattle.zt_region.specs.declared.region.Region.{Region}
use Rattle.zt_region.specs.declared.region.Region.TheVariants.{North, Local, South}
use Rattle.zt_fields.specs.Spellings.{mode_text}
use Rattle.zt_protocol.specs.Refusal.{name_of}
use Rattle.zt_protocol.specs.declared.entries.Report.{Report}
use Rattle.zt_protocol.specs.declared.errors.Refusal.{Refusal}
use Rattle.zt_check.specs.Verdicts.{clause_name}
use Rattle.zt_breaks.specs.declared.breaks.Answer.{Answer}
use Rattle.zt_breaks.specs.declared.breaks.Answer.TheVariants.{Repeated, Unasked, Unseen, Undeclared, Unanswered, NotPassedOn}
use Rattle.zt_breaks.specs.declared.breaks.Break.{Break}
use Rattle.zt_breaks.specs.declared.breaks.Ending.{Ending}
use Rattle.zt_breaks.specs.declared.breaks.Ending.TheVariants as ending
use Rattle.zt_breaks.specs.declared.breaks.FaceNumber.{FaceNumber}
use Rattle.zt_breaks.specs.declared.breaks.Finding.{Finding}
use Rattle.zt_breaks.specs.declared.breaks.Finding.TheVariants as finding
use Rattle.zt_breaks.specs.declared.breaks.Form.{Form}
use Rattle.zt_breaks.specs.declared.breaks.Form.TheVariants as form
use Rattle.zt_breaks.specs.declared.breaks.Keeping.{Keeping}
use Rattle.zt_breaks.specs.declared.breaks.Keeping.TheVariants as keeping
use Rattle.zt_breaks.specs.declared.breaks.Owed.{Owed}
use Rattle.zt_breaks.specs.declared.breaks.Owed.TheVariants as owed
use Rattle.zt_breaks.specs.declared.breaks.Row.{Row}
use Rattle.zt_breaks.specs.declared.breaks.Row.TheVariants as row

-- ---- words

abbrev pub quoted : List ℕ → List ℕ
quoted text = codes "`" ++ (text ++ codes "`")

-- a region, as a script spells it
abbrev pub region_text : Region → List ℕ
region_text North = codes "north"
region_text Local = codes "local"
region_text (South id mode) = codes "south" ++ (decimal id ++ (codes "-" ++ mode_text mode))

abbrev pub face_text : FaceNumber → List ℕ
face_text at = codes "face " ++ (decimal at.face ++ (codes " of gateway " ++ decimal at.gateway))

abbrev pub ask_text : FaceNumber → ℕ → List ℕ
ask_text at interest = codes "interest " ++ (decimal interest ++ (codes " of " ++ face_text at))

-- ---- the printed form

abbrev pub totals_text : Report → List ℕ
totals_text r = codes "total " ++ (decimal r.lines ++ (codes " " ++ (decimal r.messages ++ (codes " " ++ decimal r.refusals))))

-- the first line of an entry
abbrev pub head_text : ℕ → Option Refusal → List ℕ
head_text line None = decimal line ++ codes " ok"
head_text line (Some cause) = decimal line ++ (codes " refused " ++ name_of cause)

-- what was expected
abbrev pub form_text : Form → List ℕ
form_text (form.Head line cause) = codes "Expected is `" ++ (head_text line cause ++ codes "`.")
form_text form.Message = codes "Expected is a message, `> GATEWAY FACE MESSAGE`."
form_text (form.Order face) = codes "It stands behind a message for face " ++ (decimal face ++ codes ", and messages stand in order of face.")
form_text form.NoMessage = codes "A refused line has no message."
form_text (form.Totals report) = codes "Expected is `" ++ (totals_text report ++ codes "`, and nothing behind it.")

-- what was found
abbrev pub row_text : Row → List ℕ
row_text row.Missing = codes " is missing. "
row_text (row.Line text) = codes " is `" ++ (string_bytes text ++ codes "`. ")
row_text (row.Unended text) = codes " is `" ++ (string_bytes text ++ codes "` without a line feed. ")

-- ---- causes

abbrev pub outcome_text : Option Refusal → List ℕ
outcome_text None = codes "it is accepted. "
outcome_text (Some refusal) = codes "it is refused as " ++ (quoted (name_of refusal) ++ codes ". ")

abbrev pub cause_text : Option Refusal → List ℕ
cause_text None = codes "Nothing refuses it."
cause_text (Some cause) = codes "Its first cause of refusal is " ++ (quoted (name_of cause) ++ codes ".")

-- ---- what faces keep

module _ {K : Type 0} (printed : K → List ℕ) where
  abbrev pub asked_text : Option K → List ℕ
  asked_text None = codes " in all."
  asked_text (Some expr) = codes " in " ++ (quoted (printed expr) ++ codes ".")

  -- why a face is to know of what is shown to it
  abbrev pub owed_text : Owed K → List ℕ
  owed_text owed.North = codes " is shown to it, and it is to the north."
  owed_text (owed.Interest id expr) = codes " is shown to it, and it holds interest " ++ (decimal id ++ asked_text expr)

  abbrev pub keeping_text : K → Keeping K → List ℕ
  keeping_text expr keeping.Unseen = codes " keeps " ++ (quoted (printed expr) ++ codes ". No live token of it is shown to the face.")
  keeping_text expr keeping.Unsought = codes " keeps " ++ (quoted (printed expr) ++ codes ". It holds no interest in that.")
  keeping_text expr (keeping.Lacked region owed) =
      codes " lacks " ++ (quoted (printed expr) ++ (codes ". A live token in region " ++ (region_text region ++ owed_text owed)))

-- ---- asks

-- whether an ask gets the expression wrongly, or doesn't get it
abbrev pub is_given : Answer → Bool
is_given Unanswered = false
is_given NotPassedOn = false
is_given _ = true

abbrev pub given_text : Bool → List ℕ
given_text true = codes " is answered "
given_text false = codes " isn't answered "

abbrev pub reason_text : Answer → List ℕ
reason_text Repeated = codes "It was answered that already."
reason_text Unasked = codes "It doesn't ask for that."
reason_text Unseen = codes "No live token of that is shown to the face."
reason_text Undeclared = codes "The line declares no such token in answer to it."
reason_text Unanswered = codes "It asks for that, and a live token of it is shown to the face."
reason_text NotPassedOn = codes "It asks for that, and the line declares it in answer."

abbrev pub ending_text : Ending → List ℕ
ending_text ending.Missing = codes " lacks its final. All that it asked upstream is finished."
ending_text ending.Doubled = codes " gets more than one final."
ending_text (ending.Early face interest) =
    codes " gets its final early. Interest " ++ (decimal interest ++ (codes ", which was sent to face " ++ (decimal face ++ codes " for it, isn't finished.")))
ending_text ending.Nobodys = codes " gets a final. The face has no such ask."
ending_text ending.Followed = codes " gets an answer behind its final."

-- how many breaks are told
abbrev pub count_text : ℕ → List ℕ
count_text n = if n == 0 then codes "No break.\n" else (if n == 1 then codes "1 break.\n" else decimal n ++ codes " breaks.\n")

-- ---- breaks

module _ {K : Type 0} (printed : K → List ℕ) where
  abbrev pub finding_text : Finding K → List ℕ
  finding_text (finding.Unnamed failed) = codes "it breaks `" ++ (clause_name failed ++ codes "`.")
  finding_text (finding.Misprinted number row form) = codes "row " ++ (decimal number ++ (codes " of the transcript" ++ (row_text row ++ form_text form)))
  finding_text (finding.Refused refusal cause) = outcome_text refusal ++ cause_text cause
  finding_text (finding.Kept at expr keeping) = face_text at ++ keeping_text printed expr keeping
  finding_text (finding.Answered at interest expr answer) =
      ask_text at interest ++ (given_text (is_given answer) ++ (quoted (printed expr) ++ (codes ". " ++ reason_text answer)))
  finding_text (finding.Finished at interest ending) = ask_text at interest ++ ending_text ending

  abbrev pub break_text : Break K → List ℕ
  break_text told = codes "Line " ++ (decimal told.line ++ (codes ": " ++ (finding_text told.finding ++ codes "\n")))

  -- a line for each break, and one of how many they are
  abbrev pub breaks_text : List (Break K) → List ℕ
  breaks_text breaks = flat_map break_text breaks ++ count_text (length breaks)
