-- What a transcript says of a monitor beside the callers of one gateway: a session that polls which
-- tokens are alive. Its lines have the number 0, and what it found is printed behind the totals.
use Rattle.std.specs.Prelude.{◌≡◌, ◌⊎◌, ℕ, zero, suc, ◌+◌, ◌==◌, Bool, true, false, not, List, [], ◌∷◌, length, map, filter, take, slice_get, Option, Some, Result, Ok, Err, is_none}
use Rattle.std.specs.declared.cmp.Ordering.{Ordering}
use Rattle.zt_protocol.specs.Plain.{PlainCall, PlainEntry, PlainLine, Session, Speak}
use Rattle.zt_protocol.specs.declared.errors.Refusal.{Refusal}
use Rattle.zt_model.specs.Fabric.{Fabric, Node, empty_fabric, entries_from, entry_of, fabric_after, line_causes}
use Rattle.zt_model.specs.Journal.{IsReordered, is_speaking}
use Rattle.zt_model.specs.Refusals.{first_cause}
use Rattle.zt_theorem_journal.specs.Asked.{AreVisible, token_ask}
use Rattle.zt_theorem_journal.specs.Dealt.{numbered_from}
use Rattle.zt_theorem_watch.specs.Tables.{PlainPoll, table_after}

-- lines of the monitor, and those of the script
abbrev pub of_monitor : {A : Type 0} → List (ℕ × A) → List (ℕ × A)
of_monitor lines = filter (λ x. x.0 == 0) lines

abbrev pub of_script : {A : Type 0} → List (ℕ × A) → List (ℕ × A)
of_script lines = filter (λ x. not (x.0 == 0)) lines

-- asks of a face for tokens, so many, with ids in order from the one given
abbrev pub asks_from : {K : Type 0} → (face id count : ℕ) → Option K → List (PlainCall K)
asks_from face id zero expr = []
asks_from face id (suc count) expr = token_ask face id expr ∷ asks_from face (id + 1) count expr

-- how many lines of the script make its gateway and open faces
abbrev pub opening_lines : {K : Type 0} → List (PlainLine K) → ℕ
opening_lines script = length (filter (λ line. not (is_speaking line)) script)

-- The poll is printed as refused exactly where its entry is, and for the same reason; where neither
-- is, this is so.
abbrev pub Agrees : {K : Type 0} → Type 0 → PlainEntry K → Result (List K × List K) Refusal → Type 0
Agrees is_so (Ok sent) (Ok keys) = is_so
Agrees is_so (Err one) (Err other) = one ≡ other
Agrees is_so (Ok sent) (Err other) = ⊥
Agrees is_so (Err one) (Ok keys) = ⊥

module _ {K : Type 0} (cmp : K → K → Ordering) (matching : K → K → Bool) where
  -- the fabric after lines
  abbrev pub fabric_of : List (PlainLine K) → Fabric K → Fabric K
  fabric_of [] s = s
  fabric_of (line ∷ lines) s = fabric_of lines (fabric_after cmp matching line (entry_of cmp matching line s) s)

  -- the fabric after the first lines of an order
  abbrev pub fabric_at : ℕ → List (ℕ × PlainLine K) → Fabric K
  fabric_at count order = fabric_of (map (λ x. x.1) (take count order)) empty_fabric

  -- the first line of the script makes a gateway
  abbrev pub makes_gateway : List (PlainLine K) → Bool
  makes_gateway [] = false
  makes_gateway (line ∷ lines) = is_none (first_cause (line_causes cmp matching false line empty_fabric))

  -- the keys are those that the face of the one gateway may see, of what it asks for
  pub record SeesAlone (s : Fabric K) (face : ℕ) (expr : Option K) (keys : List K) : Type 0 where
    pub node : Node K
    pub alone : s.gateways ≡ node ∷ []
    pub visible : AreVisible cmp matching face expr node.rows keys

  module _ (opened : ℕ) (order : List (ℕ × PlainLine K)) (answers : List (ℕ × PlainEntry K)) (face : ℕ) (expr : Option K) where
    -- The ask of this number stands at the poll's place behind the lines that open, and was answered
    -- there. Where it wasn't refused, the table is what the face sees before it.
    pub record IsPoll (number : ℕ) (table : List K) (poll : PlainPoll K) : Type 0 where
      pub asks : slice_get order (opened + poll.place) ≡ Some (0, Speak (token_ask face number expr))
      pub entry : PlainEntry K
      pub answered : slice_get answers (opened + poll.place) ≡ Some (0, entry)
      pub agrees : Agrees (SeesAlone (fabric_at (opened + poll.place) order) face expr table) entry poll.outcome

    -- so is each of these, from the one of this number on, with the table that follows from the
    -- lines of polls up to it
    abbrev pub ArePolls : ℕ → List K → List (PlainPoll K) → Type 0
    ArePolls number table [] = Unit {0}
    ArePolls number table (poll ∷ polls) = IsPoll number (table_after cmp poll table) poll × ArePolls (number + 1) (table_after cmp poll table) polls

  module _ (count : ℕ) (expr : Option K) (opened : ℕ) (order : List (ℕ × PlainLine K)) (answers : List (ℕ × PlainEntry K)) (polls : List (PlainPoll K)) where
    -- The monitor's lines are a session and, on its face, an ask for each poll, as many as are
    -- wanted; and so many polls are printed, in this order.
    pub record Watches : Type 0 where
      pub place : ℕ
      pub opens : slice_get order (opened + place) ≡ Some (0, Session 1 1)
      pub entry : PlainEntry K
      pub answered : slice_get answers (opened + place) ≡ Some (0, entry)
      pub accepted : Agrees (Unit {0}) entry (Ok ([], []))
      pub face : ℕ
      pub face_is : face ≡ length (fabric_at (opened + place) order).faces + 1
      pub lines : of_monitor order ≡ (0, Session 1 1) ∷ map (λ c. (0, Speak c)) (asks_from face 1 count expr)
      pub many : length polls ≡ count
      pub each : ArePolls opened order answers face expr 1 [] polls

    -- The monitor's session is refused, and nothing is polled.
    pub record WatchesNothing : Type 0 where
      pub place : ℕ
      pub refusal : Refusal
      pub answered : slice_get answers (opened + place) ≡ Some (0, Err refusal)
      pub lines : of_monitor order ≡ (0, Session 1 1) ∷ []
      pub none_polled : polls ≡ []

    -- where a gateway is made
    abbrev pub HasMonitor : Bool → Type 0
    HasMonitor true = Watches ⊎ WatchesNothing
    HasMonitor false = (of_monitor order ≡ []) × (polls ≡ [])

  -- The answers are what the machine comes to on lines in an order in which those of the script are
  -- reordered, each with its number, and those of a monitor stand between them; and the polls are
  -- the monitor's.
  pub record AreWatched (script : List (PlainLine K)) (count : ℕ) (expr : Option K) (answers : List (ℕ × PlainEntry K)) (polls : List (PlainPoll K)) : Type 0 where
    pub order : List (ℕ × PlainLine K)
    pub reordered : IsReordered cmp matching (numbered_from 1 script) (of_script order)
    pub numbers : map (λ x. x.0) answers ≡ map (λ x. x.0) order
    pub are_the_machines : map (λ x. x.1) answers ≡ entries_from cmp matching (map (λ x. x.1) order) empty_fabric
    pub monitor : HasMonitor count expr (opening_lines script) order answers polls (makes_gateway script)
