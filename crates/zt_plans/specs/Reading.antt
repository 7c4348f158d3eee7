-- What was read of a script so far.
use Rattle.std.specs.Prelude.{◌≡◌, ◌⊎◌, ℕ, ◌+◌, Bool, true, false, List, [], ◌∷◌, ◌++◌, length, Option, Result, Ok}
use Rattle.zt_keys.specs.declared.error.KeyError.{KeyError}
use Rattle.zt_protocol.specs.Plain.{PlainLine}
use Rattle.zt_protocol.specs.declared.errors.RunError.{RunError}
use Rattle.zt_protocol.specs.declared.errors.RunError.TheVariants as errors
use Rattle.zt_streams.specs.Lines.{lines_of, whole_lines}
use Rattle.zt_lines.specs.Reading.{line_read}
use Rattle.zt_model.specs.Journal.{is_driven}
use Rattle.zt_plans.specs.Plans.{AreInForm, AreRead, HasBadText, script_lines}
use Rattle.zt_plans.specs.declared.plan.Plan.{Plan}
use Rattle.zt_plans.specs.declared.reading.Reading.{Reading}

-- the plan's lines stand where they may, and are counted
pub record IsReading {K : Type 0} (r : Reading K) : Type 0 where
  pub form : AreInForm r.plan
  pub counted : r.lines ≡ length (script_lines r.plan)

module _ {K : Type 0} (reading : List ℕ → Result K KeyError) where
  -- these texts are its lines
  pub record HasRead (texts : List (List ℕ)) (r : Reading K) : Type 0 where
    pub is : IsReading r
    pub are_read : AreRead reading texts (script_lines r.plan)

  -- the text is a line, which was added
  pub record TakesText (text : List ℕ) (old new : Reading K) : Type 0 where
    pub line : PlainLine K
    pub is_read : line_read reading text ≡ Ok line
    pub added : script_lines new.plan ≡ script_lines old.plan ++ line ∷ []
    pub is : IsReading new
    pub more : new.lines ≡ old.lines + 1

  -- the bytes are all of a script, and the plan has its lines
  pub record ReadsScript (bytes : List ℕ) (longer : Bool) (plan : Option (Plan K)) : Type 0 where
    pub whole : longer ≡ false
    pub are_read : AreRead reading (lines_of bytes) (script_lines plan)
    pub form : AreInForm plan

  -- why a script wasn't read, of which these are the first bytes
  abbrev pub ReadingStops : List ℕ → Bool → RunError → Type 0
  ReadingStops bytes longer (errors.BadLine n) = HasBadText reading (whole_lines bytes) n ⊎ (longer ≡ false) × HasBadText reading (lines_of bytes) n
  ReadingStops bytes longer errors.TooLong = (longer ≡ true) × (lines : List (PlainLine K)) × AreRead reading (whole_lines bytes) lines × (is_driven lines ≡ true)
  ReadingStops bytes longer errors.Alloc = Unit {0}
  ReadingStops bytes longer _ = ⊥
