-- The meaning of a call on one gateway, whole: whether it is refused, what it sends, the face that it makes and the
-- rows that it leaves. A journal is a list of calls with their outcomes, and its replay carries them out again.
use Rattle.std.specs.Prelude.{◌≡◌, ℕ, ◌+◌, ◌==◌, ◌&&◌, ◌||◌, Bool, true, false, not, List, [], ◌∷◌, length, Option, Some, None, is_some, map, filter}
use Rattle.std.specs.List.{list_all}
use Rattle.std.specs.declared.cmp.Ordering.{Ordering}
use Rattle.zt_protocol.specs.Plain.{PlainCall, NewSession, NewTransport, PlainEntry, PlainLine, Gateway, Session, Face as FaceLine, Speak}
use Rattle.zt_protocol.specs.declared.errors.Refusal.{Refusal}
use Rattle.zt_model.specs.Fabric.{line_causes, call_face, empty_fabric, entry_by, sorted_by_face}
use Rattle.zt_model.specs.Hearing.{rows_heard}
use Rattle.zt_model.specs.Lists.{is_some_and}
use Rattle.zt_model.specs.Refusals.{call_causes, first_cause, spends_ids}
use Rattle.zt_model.specs.Rows.{Rows}
use Rattle.zt_model.specs.Says.{altered, said}

-- the face that an accepted call makes
abbrev pub face_of_call : {K : Type 0} → PlainCall K → Rows K → Option ℕ
face_of_call (NewSession first) g = Some (g.made + 1)
face_of_call (NewTransport zid whatami region bound first) g = Some (g.made + 1)
face_of_call _ g = None

-- an entry: the number of the pass that made the call, the call, the face made and the outcome, whose messages
-- stand by face and for one face in the order sent
pub record Journalled (K : Type 0) : Type 0 where
  pub pass : ℕ
  pub call : PlainCall K
  pub made : Option ℕ
  pub outcome : PlainEntry K

module _ {K : Type 0} (cmp : K → K → Ordering) (matching : K → K → Bool) where
  -- why a call is refused, where it is
  unfoldable pub cause_of : PlainCall K → Rows K → Option Refusal
  cause_of c g = first_cause (call_causes cmp matching (spends_ids cmp matching c g) c g)

  -- what a call comes to on a gateway of its own, whose number is 1
  unfoldable pub outcome_of : PlainCall K → Rows K → PlainEntry K
  outcome_of c g = entry_by cmp matching (cause_of c g) (sorted_by_face (map (λ m. record { gateway = 1; face = m.0; message = m.1 }) (said cmp matching c g)))

  -- the face that a call makes, where it isn't refused
  unfoldable pub made_by : PlainCall K → Rows K → Option ℕ
  made_by c g = elim (cause_of c g) [ None ↦ face_of_call c g | Some refusal ↦ None ]

  -- the rows after a call: a refused one changes nothing
  unfoldable pub rows_after : PlainCall K → Rows K → Rows K
  rows_after c g = elim (cause_of c g) [ None ↦ rows_heard cmp (said cmp matching c g) (altered cmp matching c g) | Some refusal ↦ g ]

  -- ---- replay

  -- the rows after the calls of a journal
  unfoldable pub rows_replayed : List (Journalled K) → Rows K → Rows K
  rows_replayed [] g = g
  rows_replayed (entry ∷ entries) g = rows_replayed entries (rows_after entry.call g)

  -- each entry's face made and outcome are those of its call on the rows that the entries before it leave
  abbrev pub IsReplay : List (Journalled K) → Rows K → Type 0
  IsReplay [] g = Unit {0}
  IsReplay (entry ∷ entries) g = (entry.made ≡ made_by entry.call g) × (entry.outcome ≡ outcome_of entry.call g) × IsReplay entries (rows_after entry.call g)

-- ---- many callers: one gateway, its faces, and then lines of many speakers in an order of their own

abbrev pub is_making : {K : Type 0} → PlainLine K → Bool
is_making (Session gateway first) = true
is_making (FaceLine gateway mode zid region bound first) = true
is_making _ = false

abbrev pub is_speaking : {K : Type 0} → PlainLine K → Bool
is_speaking (Speak call) = true
is_speaking _ = false

-- makings, and then lines that speak for a face or close one
abbrev pub are_makings_first : {K : Type 0} → List (PlainLine K) → Bool
are_makings_first [] = true
are_makings_first (line ∷ lines) = (is_making line && are_makings_first lines) || list_all is_speaking (line ∷ lines)

-- the form of a script that many workers carry out: it is empty, or a gateway's line stands first
abbrev pub is_driven : {K : Type 0} → List (PlainLine K) → Bool
is_driven [] = true
is_driven (Gateway mode zid regions south name timeout refused ∷ lines) = are_makings_first lines
is_driven (line ∷ lines) = false

-- the line with its number speaks for the face
abbrev pub speaks_for : {K : Type 0} → ℕ → ℕ × PlainLine K → Bool
speaks_for face line = elim line.1 [ Speak call ↦ is_some_and (call_face call) (λ n. n == face) | _ ↦ false ]

module _ {K : Type 0} (cmp : K → K → Ordering) (matching : K → K → Bool) where
  -- the gateway's line, with which a script begins, is refused: then no worker is started
  abbrev pub starts_none : List (ℕ × PlainLine K) → Bool
  starts_none [] = false
  starts_none (line ∷ lines) = is_some (first_cause (line_causes cmp matching false line.1 empty_fabric))

  -- The same lines, each with its number in the script, in another order: the gateway and the makings stand as they
  -- stood, and so do, among each other, the lines that name one face. Where the gateway's line is refused all stand as
  -- they stood.
  pub record IsReordered (script order : List (ℕ × PlainLine K)) : Type 0 where
    pub same_length : length order ≡ length script
    pub makings : filter (λ (line : ℕ × PlainLine K). not (is_speaking line.1)) order ≡ filter (λ (line : ℕ × PlainLine K). not (is_speaking line.1)) script
    pub makings_first : is_driven (map (λ line. line.1) order) ≡ true
    pub each_face : (face : ℕ) → filter (speaks_for face) order ≡ filter (speaks_for face) script
    pub unstarted : starts_none script ≡ true → order ≡ script
