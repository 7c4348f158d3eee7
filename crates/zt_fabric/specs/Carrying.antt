-- What carrying out some lines does to a fabric, to the totals and to the text that is to be written.
use Rattle.std.specs.Prelude.{◌≡◌, ℕ, Bool, true, ◌+◌, ◌*◌, ◌≤◌, List, [], ◌∷◌, ◌++◌, length, map, sum_by, Option, Result, Ok, is_err}
use Rattle.std.specs.declared.cmp.Ordering.{Ordering}
use Rattle.std.specs.Io.KnownBytes.{Appends}
use Rattle.zt_keys.specs.declared.error.KeyError.{KeyError}
use Rattle.zt_streams.specs.Streams.{AppendsPart, HasRisen}
use Rattle.zt_protocol.specs.Plain.{PlainEntry, PlainLine}
use Rattle.zt_protocol.specs.declared.entries.Report.{Report}
use Rattle.zt_protocol.specs.declared.errors.RunError.{RunError}
use Rattle.zt_protocol.specs.declared.errors.RunError.TheVariants as errors
use Rattle.zt_text.specs.Sent.{EntryFits}
use Rattle.zt_lines.specs.Reading.{line_read}
use Rattle.zt_text.specs.Text.{entries_text, report_text}
use Rattle.zt_model.specs.Fabric.{Fabric, empty_fabric, entries_from, entry_of, fabric_after}
use Rattle.zt_model.specs.Transcript.{Each, messages_in, refusals_in}

-- ---- totals

abbrev pub no_totals : Report
no_totals = record { lines = 0; messages = 0; refusals = 0 }

-- the totals with one more entry
abbrev pub with_entry : {K : Type 0} → PlainEntry K → Report → Report
with_entry entry r = record { lines = r.lines + 1; messages = r.messages + messages_in entry; refusals = r.refusals + refusals_in entry }

-- the totals with these entries
unfoldable pub with_entries : {K : Type 0} → List (PlainEntry K) → Report → Report
with_entries entries r = record { lines = r.lines + length entries; messages = r.messages + sum_by messages_in entries; refusals = r.refusals + sum_by refusals_in entries }

-- no total is more than so many lines can give
pub record IsInRange (r : Report) : Type 0 where
  pub messages_fit : r.messages ≤ r.lines * 18446744073709551615
  pub refusals_fit : r.refusals ≤ r.lines

-- nothing is carried out yet
pub record IsNew {K : Type 0} (s : Fabric K) (r : Report) (text : List ℕ) : Type 0 where
  pub no_gateways : s ≡ empty_fabric
  pub no_totals : r ≡ no_totals
  pub no_text : text ≡ []

-- ---- lines

module _ {K : Type 0} (cmp : K → K → Ordering) (matching : K → K → Bool) where
  -- the fabric after these lines
  unfoldable pub fabric_from : List (PlainLine K) → Fabric K → Fabric K
  fabric_from [] s = s
  fabric_from (line ∷ lines) s = fabric_from lines (fabric_after cmp matching line (entry_of cmp matching line s) s)

module _ {K : Type 0} (cmp : K → K → Ordering) (matching : K → K → Bool) (reading : List ℕ → Result K KeyError) (printed : K → List ℕ) where
  -- These texts are lines, and from one fabric on the entries that they come to have this text, the first entry
  -- being that of the line of this number. Their numbers are within their types.
  pub record Shows (texts : List (List ℕ)) (s : Fabric K) (number : ℕ) (text : List ℕ) : Type 0 where
    pub lines : List (PlainLine K)
    pub are_read : map (line_read reading) texts ≡ map (λ line. Ok line) lines
    pub is_text : text ≡ entries_text printed number (entries_from cmp matching lines s)
    pub fit : Each EntryFits (entries_from cmp matching lines s)

  -- These texts are lines and were carried out: the fabric and the totals are those after them, and the text grew
  -- by that of their entries, whose numbers are within their types.
  pub record Carries (texts : List (List ℕ)) (s : Fabric K) (r : Report) (text : List ℕ) (s' : Fabric K) (r' : Report) (text' : List ℕ) : Type 0 where
    pub lines : List (PlainLine K)
    pub are_read : map (line_read reading) texts ≡ map (λ line. Ok line) lines
    pub fabric_is : s' ≡ fabric_from cmp matching lines s
    pub totals_are : r' ≡ with_entries (entries_from cmp matching lines s) r
    pub text_is : text' ≡ text ++ entries_text printed (r.lines + 1) (entries_from cmp matching lines s)
    pub fit : Each EntryFits (entries_from cmp matching lines s)

  -- These texts were carried out, and the text of their entries was written.
  pub record Writes (texts : List (List ℕ)) (s : Fabric K) (r : Report) (s' : Fabric K) (r' : Report) (old new : Option (List ℕ)) : Type 0 where
    pub text : List ℕ
    pub carried : Carries texts s r [] s' r' text
    pub appended : Appends old new text

  -- why the line of this number wasn't carried out
  abbrev pub LineStops : List ℕ → ℕ → RunError → Type 0
  LineStops text number (errors.BadLine n) = (is_err (line_read reading text) ≡ true) × (n ≡ number)
  LineStops text number errors.Alloc = Unit {0}
  LineStops text number _ = ⊥

  -- why of these texts only those before a place were carried out
  abbrev pub StopsBehind : List (List ℕ) → List (List ℕ) → ℕ → RunError → Type 0
  StopsBehind texts before number (errors.BadLine n) =
      (bad : List ℕ) × (others : List (List ℕ)) × (texts ≡ (before ++ bad ∷ []) ++ others) × (is_err (line_read reading bad) ≡ true) × (n ≡ number + length before)
  StopsBehind texts before number errors.Alloc = (others : List (List ℕ)) × (texts ≡ before ++ others)
  StopsBehind texts before number _ = ⊥

  -- Of these texts, the first of which is the line of this number, some were carried out, and the text grew by
  -- that of their entries.
  pub record Stops (texts : List (List ℕ)) (s : Fabric K) (number : ℕ) (text text' : List ℕ) (error : RunError) : Type 0 where
    pub before : List (List ℕ)
    pub more : List ℕ
    pub shows : Shows before s number more
    pub text_is : text' ≡ text ++ more
    pub cause : StopsBehind texts before number error

  -- what was written of the text of the texts that were carried out
  abbrev pub WritesUntil : List (List ℕ) → List (List ℕ) → ℕ → List ℕ → Option (List ℕ) → Option (List ℕ) → ℕ → ℕ → RunError → Type 0
  WritesUntil texts before number text old new faults faults' errors.WriteFault =
      ((others : List (List ℕ)) × (texts ≡ before ++ others)) × AppendsPart old new text × HasRisen faults faults'
  WritesUntil texts before number text old new faults faults' error = StopsBehind texts before number error × Appends old new text

  -- Of these texts, the first of which is the line of this number, some were carried out, and the text of their
  -- entries was written, or where the sink failed a part of it.
  pub record StopsWriting (texts : List (List ℕ)) (s : Fabric K) (number : ℕ) (old new : Option (List ℕ)) (faults faults' : ℕ) (error : RunError) : Type 0 where
    pub before : List (List ℕ)
    pub text : List ℕ
    pub shows : Shows before s number text
    pub cause : WritesUntil texts before number text old new faults faults' error

  -- These last texts were carried out, and the text of their entries and of the totals was written.
  pub record Ends (texts : List (List ℕ)) (s : Fabric K) (r r' : Report) (old new : Option (List ℕ)) : Type 0 where
    pub text : List ℕ
    pub last : Fabric K
    pub carried : Carries texts s r [] last r' text
    pub appended : Appends old new (text ++ report_text r')

  -- These last texts were carried out, and a part of that text was written, since the sink failed.
  pub record EndsInPart (texts : List (List ℕ)) (s : Fabric K) (r : Report) (old new : Option (List ℕ)) (faults faults' : ℕ) : Type 0 where
    pub text : List ℕ
    pub last : Fabric K
    pub totals : Report
    pub carried : Carries texts s r [] last totals text
    pub part : AppendsPart old new (text ++ report_text totals)
    pub risen : HasRisen faults faults'
