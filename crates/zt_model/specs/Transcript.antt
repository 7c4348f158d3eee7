-- What a transcript means: relations of a script's lines and the entries printed for them. They are read off the lines
-- and the printed messages alone, from the empty fabric on, by a fold of their own: `fabric_shown` is the fabric that a
-- transcript shows after a line, by cases on the accepted calls. What a call says isn't asked.
--     IsFaithfulFrom     what the transcript of each script is
--     IsStrictFrom       what is promised of it beside, where that could be read in two ways
use Rattle.std.specs.Prelude.{◌≡◌, ◌⊎◌, ℕ, Bool, true, false, ◌+◌, ◌==◌, not, nat_le, nat_lt, if◌then◌else◌, List, [], ◌∷◌, ◌++◌, length, sum_by, Option, Some, None, Ok, Err, map, filter}
use Rattle.std.specs.List.{list_all, list_any, flat_map}
use Rattle.std.specs.Option.{option_to_list}
use Rattle.std.specs.declared.cmp.Ordering.{Ordering}
use Rattle.zt_region.specs.Region.{is_north}
use Rattle.zt_protocol.specs.Interest.{is_current}
use Rattle.zt_protocol.specs.Plain.{PlainEntry, PlainLine, Gateway, Session, Face as FaceLine, Link as LinkLine, Unlink, Step, Speak, Moment, SetTreesAt}
use Rattle.zt_protocol.specs.Refusal.{number_of}
use Rattle.zt_protocol.specs.declared.entries.Report.{Report}
use Rattle.zt_protocol.specs.declared.entries.Sent.{Sent}
use Rattle.zt_protocol.specs.declared.errors.Refusal.{Refusal}
use Rattle.zt_protocol.specs.declared.errors.Refusal.TheVariants.{IdsSpent}
use Rattle.zt_protocol.specs.declared.messages.Message.{Message}
use Rattle.zt_protocol.specs.declared.messages.Message.TheVariants.{Interest}
use Rattle.zt_model.specs.Fabric.{CallAt, Fabric, Link, Node, after_hearing, after_refusal, both_ends, call_at_place, call_of, closing_call, line_causes, new_rows, number_of_place, opening_at, printed_for, with_gateway, with_place, with_rows, with_session, with_waiting}
use Rattle.zt_model.specs.Linking.{LinkEnd, call_of_message, link_ends, waiting_of, with_link, without_link}
use Rattle.zt_model.specs.Lists.{is_some_and, nth}
use Rattle.zt_model.specs.Parts.{find_face, is_routed}
use Rattle.zt_model.specs.Refusals.{could_spend_ids, first_cause, left_ids}
use Rattle.zt_model.specs.Rows.{Face, Rows}
use Rattle.zt_model.specs.Seen.{is_owed, is_seen, is_seen_and_admitted, may_hear}
use Rattle.zt_model.specs.Shown.{rows_shown}
use Rattle.zt_model.specs.Visible.{keeps, visible_expressions}

-- a fact of each member
abbrev pub Each : {A : Type 0} → (A → Type 0) → List A → Type 0
Each P [] = Unit {0}
Each P (x ∷ xs) = P x × Each P xs

-- ---- entries

-- a face of a fabric, at its gateway
pub record FaceAt (K : Type 0) : Type 0 where
  pub gateway : ℕ
  pub rows : Rows K
  pub face : Face K

-- an open face by its number in scripts
unfoldable pub face_numbered : {K : Type 0} → Fabric K → ℕ → Option (FaceAt K)
face_numbered s n =
    elim (nth n s.faces) [
      | None ↦ None
      | Some p ↦
          elim (nth p.gateway s.gateways) [
            | None ↦ None
            | Some node ↦ elim (find_face p.face node.rows) [ None ↦ None | Some f ↦ Some (record { gateway = p.gateway; rows = node.rows; face = f }) ]
          ]
    ]

-- what an entry prints; a refused line prints nothing
abbrev pub messages_of : {K : Type 0} → PlainEntry K → List (Sent K)
messages_of (Ok ms) = ms
messages_of (Err refusal) = []

-- in order of face
abbrev pub StandInOrderOfFace : {K : Type 0} → List (Sent K) → Type 0
StandInOrderOfFace [] = Unit {0}
StandInOrderOfFace (m ∷ ms) = (list_all (λ x. nat_le m.face x.face) ms ≡ true) × StandInOrderOfFace ms

-- interests are printed with the five named options alone
abbrev pub has_named_options : {K : Type 0} → Message K → Bool
has_named_options (Interest id mode options e) = nat_lt options.0 32
has_named_options _ = true

-- an entry: a refusal, or messages in order of face, whose interests carry named options alone
pub record IsEntry {K : Type 0} (entry : PlainEntry K) : Type 0 where
  pub in_order : StandInOrderOfFace (messages_of entry)
  pub named_options : list_all (λ m. has_named_options m.message) (messages_of entry) ≡ true

-- the message is for an open face, of the gateway that it names
abbrev pub NamesOpenFace : {K : Type 0} → Fabric K → Sent K → Type 0
NamesOpenFace s m = is_some_and (face_numbered s m.face) (λ x. m.gateway == x.gateway) ≡ true

-- each message is, with the fabric after the entry: faces that its line opens are open then
abbrev pub NamesOpenFaces : {K : Type 0} → PlainEntry K → Fabric K → Type 0
NamesOpenFaces entry after = Each (NamesOpenFace after) (messages_of entry)

-- ---- what a transcript shows of a fabric

-- the ids of the current-mode interests among messages
abbrev pub current_ids : {K : Type 0} → List (Message K) → List ℕ
current_ids [] = []
current_ids (Interest id mode options e ∷ ms) = if is_current mode then id ∷ current_ids ms else current_ids ms
current_ids (m ∷ ms) = current_ids ms

-- The pendings of an ask are those current-mode interests that its own entry prints for north-bound faces of its
-- gateway, by face and id.
abbrev pub pendings_printed : {K : Type 0} → Fabric K → List (Sent K) → CallAt K → List (ℕ × ℕ)
pendings_printed s ms at =
    flat_map (λ f. if is_north f.region then map (λ id. (f.number, id)) (current_ids (printed_for (number_of_place s at.gateway f.number) ms)) else []) at.rows.faces

-- A step takes the oldest message of a direction: forth it is one that was printed for the link's first face, and the
-- second face speaks it. Back is the other way round.
abbrev pub printed_end : Link → Bool → ℕ
printed_end link back = if back then link.two else link.one

abbrev pub speaking_face : Link → Bool → ℕ
speaking_face link back = if back then link.one else link.two

abbrev pub without_oldest : {M : Type 0} → List M → List M
without_oldest [] = []
without_oldest (m ∷ ms) = ms

abbrev pub oldest_of : {M : Type 0} → List M → Option M
oldest_of [] = None
oldest_of (m ∷ ms) = Some m

-- the call that a step makes
abbrev pub call_stepped : {K : Type 0} → Fabric K → Bool → Option Link → Option (CallAt K)
call_stepped s back None = None
call_stepped s back (Some link) =
    elim (oldest_of (waiting_of s (printed_end link back))) [
      | None ↦ None
      | Some m ↦ elim (call_of_message 0 m) [ None ↦ None | Some call ↦ call_at_place s call (nth (speaking_face link back) s.faces) ]
    ]

-- and what it leaves waiting
abbrev pub with_stepped : {K : Type 0} → ℕ → Bool → Fabric K → Fabric K
with_stepped n back s =
    elim (nth n s.links) [
      | None ↦ s
      | Some link ↦ record s { waiting = map (λ row. if printed_end link back == row.0 then (row.0, without_oldest row.1) else row) s.waiting }
    ]

module _ {K : Type 0} (cmp : K → K → Ordering) (matching : K → K → Bool) where
  -- an accepted call changes the rows of its gateway
  abbrev pub with_call : List (Sent K) → Option (CallAt K) → Fabric K → Fabric K
  with_call ms None s = s
  with_call ms (Some at) s = with_rows at.gateway (rows_shown cmp (pendings_printed s ms at) at.call) s

  -- a face that it opens has its place behind the others
  abbrev pub with_opening : Option (CallAt K) → Fabric K → Fabric K
  with_opening None s = s
  with_opening (Some at) s = with_call [] (Some at) (with_place at.gateway s)

  unfoldable pub with_openings : List (LinkEnd K) → Fabric K → Fabric K
  with_openings [] s = s
  with_openings (end ∷ ends) s = with_openings ends (with_opening (opening_at cmp matching s end) s)

  -- the calls that open the two faces of a link: the second is made when the first face is there
  unfoldable pub openings : List (LinkEnd K) → Fabric K → List (CallAt K)
  openings [] s = []
  openings (end ∷ ends) s =
      let at = opening_at cmp matching s end in
      option_to_list at ++ openings ends (with_opening at s)

  unfoldable pub with_closings : List ℕ → Fabric K → Fabric K
  with_closings [] s = s
  with_closings (face ∷ faces) s = with_closings faces (with_call [] (closing_call s face) s)

  -- what an accepted line itself changes; `ms` is what is printed for it, which is heard afterwards
  unfoldable pub fabric_with : PlainLine K → List (Sent K) → Fabric K → Fabric K
  fabric_with (Gateway mode zid regions south name timeout refused) ms s =
      with_gateway (record { rows = new_rows mode zid regions timeout refused; south = south; name = name }) s
  fabric_with (Session gateway first) ms s = with_session gateway first s
  fabric_with (FaceLine gateway mode zid region bound first) ms s =
      with_opening (call_of (FaceLine gateway mode zid region bound first) s) s
  fabric_with (LinkLine one two first back) ms s = with_openings (link_ends s one two first back) (with_link s)
  fabric_with (Unlink link) ms s = without_link link (with_closings (both_ends cmp matching s link) s)
  fabric_with (Step link back) ms s = with_call ms (call_stepped s back (nth link s.links)) (with_stepped link back s)
  fabric_with (Speak call) ms s = with_call ms (call_of (Speak call) s) s
  fabric_with (Moment gateway now) ms s = with_call ms (call_of (Moment gateway now) s) s
  fabric_with (SetTreesAt gateway region table) ms s = with_call ms (call_of (SetTreesAt gateway region table) s) s

  -- The fabric that a transcript shows after a line with this entry. A refused line changes nothing, but that a
  -- message whose call is refused has left its link.
  unfoldable pub fabric_shown : PlainLine K → PlainEntry K → Fabric K → Fabric K
  fabric_shown line (Err refusal) s = after_refusal cmp matching line refusal s
  fabric_shown line (Ok ms) s = with_waiting ms (after_hearing cmp ms (fabric_with line ms s))

  -- ---- ids

  -- At the most so many ids could a line draw for a face: one for each visible expression that the face didn't keep,
  -- and one for each interest held and each ask standing at its gateway. The rows are those with the line, were it
  -- accepted, and what the face keeps then is what it kept before.
  abbrev pub most_ids : Rows K → Face K → ℕ
  most_ids g f =
      length (filter (λ e. not (keeps cmp f e)) (visible_expressions cmp g f.region))
      + (sum_by (λ x. length x.held) g.faces + sum_by (λ x. length x.asks) g.faces)

  -- for some open face, those that the line opens included, that is more than are left
  abbrev pub line_may_lack_ids : PlainLine K → Fabric K → Bool
  line_may_lack_ids line s =
      list_any (λ (node : Node K). list_any (λ f. nat_lt (left_ids f) (most_ids node.rows f)) node.rows.faces) (fabric_with line [] s).gateways

  -- the calls of a line that draw ids, each over the rows before it
  abbrev pub line_could_spend_ids : PlainLine K → Fabric K → Bool
  line_could_spend_ids (LinkLine one two first back) s =
      list_any (λ at. could_spend_ids cmp matching at.call at.rows) (openings (link_ends s one two first back) s)
  line_could_spend_ids line s = is_some_and (call_of line s) (λ at. could_spend_ids cmp matching at.call at.rows)

-- ---- entries that are right

-- no cause holds that is tried before the want of ids
abbrev pub comes_to_ids : Option Refusal → Bool
comes_to_ids None = true
comes_to_ids (Some refusal) = nat_lt 24 (number_of refusal)

module _ {K : Type 0} (cmp : K → K → Ordering) (matching : K → K → Bool) where
  -- An open face keeps, by its own printed messages alone, only visible tokens that it seeks, among them
  -- every admitted one that it covers.
  pub record KeepsWhatItShould (g : Rows K) (f : Face K) : Type 0 where
    pub kept_is_visible : (e : K) → keeps cmp f e ≡ true → is_seen cmp g f.region e ≡ true
    pub kept_is_sought : (e : K) → keeps cmp f e ≡ true → may_hear matching f e ≡ true
    pub admitted_is_kept : (e : K) → is_seen_and_admitted cmp g f.region e ≡ true → is_owed matching f e ≡ true → keeps cmp f e ≡ true

  -- each open face outside router regions does
  abbrev pub FacesKeepWhatTheyShould : Rows K → Type 0
  FacesKeepWhatTheyShould g = Each (λ f. is_routed g f ≡ false → KeepsWhatItShould g f) g.faces

  abbrev pub AllKeepWhatTheyShould : Fabric K → Type 0
  AllKeepWhatTheyShould s = Each (λ (node : Node K). FacesKeepWhatTheyShould node.rows) s.gateways

  -- A line is refused exactly by its first cause. That too few ids are left is read by what the line could draw at
  -- the most: it is the answer only where no earlier cause holds.
  abbrev pub IsRefusedByCause : PlainLine K → PlainEntry K → Fabric K → Type 0
  IsRefusedByCause line (Ok ms) s = first_cause (line_causes cmp matching false line s) ≡ None
  IsRefusedByCause line (Err refusal) s =
      (first_cause (line_causes cmp matching false line s) ≡ Some refusal)
      ⊎ ((refusal ≡ IdsSpent) × (comes_to_ids (first_cause (line_causes cmp matching false line s)) ≡ true) × (line_may_lack_ids cmp matching line s ≡ true))

  -- Entry for entry, from a fabric on: each line is refused exactly by its cause, what is printed for it is an entry,
  -- and after it each face keeps what it should.
  abbrev pub IsFaithfulFrom : List (PlainLine K) → List (PlainEntry K) → Fabric K → Type 0
  IsFaithfulFrom [] [] s = Unit {0}
  IsFaithfulFrom (line ∷ lines) (entry ∷ entries) s =
      let after = fabric_shown cmp matching line entry s in
      IsRefusedByCause line entry s × IsEntry entry × AllKeepWhatTheyShould after × IsFaithfulFrom lines entries after
  IsFaithfulFrom [] (entry ∷ entries) s = ⊥
  IsFaithfulFrom (line ∷ lines) [] s = ⊥

  -- Too few ids are left only for a line that can draw ids, and only by what its own call could draw, for an open face
  -- of the call's gateway outside router regions: an interest's own ask counts only where it is sent upstream.
  abbrev pub LacksIdsByCall : PlainLine K → PlainEntry K → Fabric K → Type 0
  LacksIdsByCall line entry s =
      entry ≡ Err IdsSpent → (first_cause (line_causes cmp matching true line s) ≡ Some IdsSpent) × (line_could_spend_ids cmp matching line s ≡ true)

  -- Entry for entry beside this: too few ids are left by the line's own call, and each message names an open face and
  -- its gateway.
  abbrev pub IsStrictFrom : List (PlainLine K) → List (PlainEntry K) → Fabric K → Type 0
  IsStrictFrom (line ∷ lines) (entry ∷ entries) s =
      let after = fabric_shown cmp matching line entry s in
      LacksIdsByCall line entry s × NamesOpenFaces entry after × IsStrictFrom lines entries after
  IsStrictFrom lines entries s = Unit {0}

-- ---- the totals

abbrev pub messages_in : {K : Type 0} → PlainEntry K → ℕ
messages_in (Ok ms) = length ms
messages_in (Err refusal) = 0

abbrev pub refusals_in : {K : Type 0} → PlainEntry K → ℕ
refusals_in (Ok ms) = 0
refusals_in (Err refusal) = 1

-- how many lines there are, how many messages, and how many lines are refused
unfoldable pub report_of : {K : Type 0} → List (PlainEntry K) → Report
report_of entries = record { lines = length entries; messages = sum_by messages_in entries; refusals = sum_by refusals_in entries }
