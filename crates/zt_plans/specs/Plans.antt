-- The script that workers carry out, as it is read.
use Rattle.std.specs.Prelude.{◌≡◌, ℕ, ◌+◌, Bool, true, false, not, List, [], ◌∷◌, ◌++◌, length, map, Option, None, Some, Result, Ok, Err}
use Rattle.zt_keys.specs.declared.error.KeyError.{KeyError}
use Rattle.zt_protocol.specs.Plain.{PlainCall, PlainLine, plain_call, plain_line}
use Rattle.zt_protocol.specs.declared.errors.RunError.{RunError}
use Rattle.zt_protocol.specs.declared.errors.RunError.TheVariants as errors
use Rattle.zt_lines.specs.Reading.{line_read}
use Rattle.zt_model.specs.Journal.{is_driven, is_making}
use Rattle.zt_model.specs.Transcript.{Each}
use Rattle.zt_gateway.specs.Settings.{line_of}
use Rattle.zt_theorem_journal.specs.Dealt.{numbered_from, script_of}
use Rattle.zt_plans.specs.declared.plan.Numbered.{Numbered}
use Rattle.zt_plans.specs.declared.plan.Plan.{Plan}

-- a call with the number of its line
abbrev pub numbered : {K : Type 0} → Numbered K → ℕ × PlainCall K
numbered one = (one.line, plain_call one.call)

abbrev pub call_of : {K : Type 0} → Numbered K → PlainCall K
call_of one = plain_call one.call

-- the lines of a script that isn't empty
abbrev pub plan_lines : {K : Type 0} → Plan K → List (PlainLine K)
plan_lines plan = script_of (line_of plan.gateway) (map plain_line plan.makings.items) (map call_of plan.calls.items)

-- the lines of a script
abbrev pub script_lines : {K : Type 0} → Option (Plan K) → List (PlainLine K)
script_lines None = []
script_lines (Some plan) = plan_lines plan

-- its lines stand where they belong, and each call has the number of its line
pub record IsPlan {K : Type 0} (plan : Plan K) : Type 0 where
  pub making : Each (λ line. is_making line ≡ true) (map plain_line plan.makings.items)
  pub numbers : map numbered plan.calls.items ≡ numbered_from (2 + length (map plain_line plan.makings.items)) (map call_of plan.calls.items)

abbrev pub AreInForm : {K : Type 0} → Option (Plan K) → Type 0
AreInForm None = Unit {0}
AreInForm (Some plan) = IsPlan plan

-- the line has no place behind these
abbrev pub HasNoPlace : {K : Type 0} → List (PlainLine K) → PlainLine K → Type 0
HasNoPlace lines line = is_driven (lines ++ line ∷ []) ≡ false

-- a line was added, where it has a place, and else nothing
abbrev pub AddsLine : {K : Type 0} → Option (Plan K) → PlainLine K → Bool → Option (Plan K) → Type 0
AddsLine old line true new = (script_lines new ≡ script_lines old ++ line ∷ []) × AreInForm new
AddsLine old line false new = HasNoPlace (script_lines old) line

module _ {K : Type 0} (reading : List ℕ → Result K KeyError) where
  -- the text is no line of the grammar, or one that has no place behind these lines
  abbrev pub is_bad_behind : List (PlainLine K) → List ℕ → Bool
  is_bad_behind lines text = elim (line_read reading text) [ Ok line ↦ not (is_driven (lines ++ line ∷ [])) | Err error ↦ true ]

  -- the texts are these lines
  abbrev pub AreRead : List (List ℕ) → List (PlainLine K) → Type 0
  AreRead texts lines = map (line_read reading) texts ≡ map (λ line. Ok line) lines

  -- of these texts those before the bad one are lines of such a script
  pub record HasBadText (texts : List (List ℕ)) (number : ℕ) : Type 0 where
    pub before : List (List ℕ)
    pub bad : List ℕ
    pub others : List (List ℕ)
    pub are : texts ≡ (before ++ bad ∷ []) ++ others
    pub lines : List (PlainLine K)
    pub are_read : AreRead before lines
    pub driven : is_driven lines ≡ true
    pub is_bad : is_bad_behind lines bad ≡ true
    pub counted : number ≡ length before + 1

  -- why the text, which is the line of this number, isn't added behind these lines
  abbrev pub LineStops : List (PlainLine K) → List ℕ → ℕ → RunError → Type 0
  LineStops lines text number (errors.BadLine n) = (is_bad_behind lines text ≡ true) × (n ≡ number)
  LineStops lines text number errors.Alloc = Unit {0}
  LineStops lines text number _ = ⊥

  -- why not all of these texts are added
  abbrev pub TextsStop : List (List ℕ) → RunError → Type 0
  TextsStop texts (errors.BadLine n) = HasBadText texts n
  TextsStop texts errors.Alloc = Unit {0}
  TextsStop texts _ = ⊥
