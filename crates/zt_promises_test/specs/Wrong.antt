-- What it says of a wrong transcript that a promise refuses it.
use Rattle.std.specs.Prelude.{◌≡◌, ℕ, Bool, Option, Some, None}
use Rattle.std.specs.Ordering.{nat_cmp}
use Rattle.std.specs.declared.cmp.Ordering.{Ordering}
use Rattle.zt_model.specs.Fabric.{empty_fabric, entries_from}
use Rattle.zt_model.specs.Lists.{nth}
use Rattle.zt_model.specs.Promises.{Turn, turns_from}
use Rattle.zt_model.specs.Transcript.{AllKeepWhatTheyShould, IsEntry, IsFaithfulFrom, IsRefusedByCause, LacksIdsByCall, NamesOpenFaces}
use Rattle.zt_model_test.specs.Script.{HasTotals, Script, matching_in}
use Rattle.zt_theorem_exact_messages.specs.Entities.{AnswersEntities}
use Rattle.zt_theorem_exact_messages.specs.Nodes.{PrintsGivenNodes}
use Rattle.zt_theorem_exact_messages.specs.Undeclared.{UndeclaresToWhoWants}

-- a promise of turns, whatever the keys' order and whichever of them match
abbrev pub Promise : Type 1
Promise = (ℕ → ℕ → Ordering) → (ℕ → ℕ → Bool) → Turn ℕ → Type 0

abbrev pub Breaks : (Turn ℕ → Type 0) → Option (Turn ℕ) → Type 0
Breaks promise None = ⊥
Breaks promise (Some t) = promise t → ⊥

-- the promise refuses the entry of this line
abbrev pub Refuses : Promise → ℕ → Script → Type 0
Refuses promise n s =
    Breaks (promise nat_cmp (matching_in s)) (nth n (turns_from nat_cmp (matching_in s) s.lines s.entries empty_fabric))

abbrev pub Meets : (Turn ℕ → Type 0) → Option (Turn ℕ) → Type 0
Meets promise None = ⊥
Meets promise (Some t) = promise t

-- the promise holds of the entry of this line
abbrev pub Allows : Promise → ℕ → Script → Type 0
Allows promise n s =
    Meets (promise nat_cmp (matching_in s)) (nth n (turns_from nat_cmp (matching_in s) s.lines s.entries empty_fabric))

-- ---- what holds of each entry of a transcript, as promises of its turn

module _ (cmp : ℕ → ℕ → Ordering) (matching : ℕ → ℕ → Bool) (t : Turn ℕ) where
  -- the line is refused exactly by its cause
  abbrev pub HasItsCause : Type 0
  HasItsCause = IsRefusedByCause cmp matching t.line t.entry t.before

  -- too few ids are left for the line's own call
  abbrev pub LacksItsIds : Type 0
  LacksItsIds = LacksIdsByCall cmp matching t.line t.entry t.before

  -- what is printed stands in order of face
  abbrev pub IsInForm : Type 0
  IsInForm = IsEntry t.entry

  -- and names open faces and their gateways
  abbrev pub NamesOpen : Type 0
  NamesOpen = NamesOpenFaces t.entry t.after

  -- each face keeps what it should
  abbrev pub KeepsRightly : Type 0
  KeepsRightly = AllKeepWhatTheyShould cmp matching t.after

  -- what is undeclared by expression goes to who wants it
  abbrev pub ToWhoWants : Type 0
  ToWhoWants = UndeclaresToWhoWants cmp matching t

  -- subscribers and queryables are those due
  abbrev pub EntitiesDue : Type 0
  EntitiesDue = AnswersEntities cmp matching t

  -- node ids are given by tables
  abbrev pub GivenNodes : Type 0
  GivenNodes = PrintsGivenNodes cmp t

-- ---- whole transcripts

-- there isn't an entry for each line
abbrev pub LacksEntries : Script → Type 0
LacksEntries s = IsFaithfulFrom nat_cmp (matching_in s) s.lines s.entries empty_fabric → ⊥

abbrev pub HasOtherTotals : Script → Type 0
HasOtherTotals s = HasTotals s → ⊥

-- the machine comes to other entries
abbrev pub IsNotTheMachines : Script → Type 0
IsNotTheMachines s = entries_from nat_cmp (matching_in s) s.lines empty_fabric ≡ s.entries → ⊥
