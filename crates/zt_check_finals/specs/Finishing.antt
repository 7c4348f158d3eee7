-- Whether asks get their finals: of one ask, and of all that a turn may make, end or finish.
use Rattle.std.specs.Prelude.{◌≡◌, ℕ, Bool, true, false, ◌==◌, ◌&&◌, ◌||◌, not, if◌then◌else◌, List, [], ◌∷◌, Option, None, Some, is_some}
use Rattle.std.specs.List.{list_all, list_any}
use Rattle.zt_protocol.specs.Interest.{is_current, is_future}
use Rattle.zt_protocol.specs.declared.entries.Sent.{Sent}
use Rattle.zt_protocol.specs.declared.messages.Message.{Message}
use Rattle.zt_protocol.specs.declared.messages.Message.TheVariants as message
use Rattle.zt_model.specs.Fabric.{Fabric, Place, number_of_place, printed_for}
use Rattle.zt_model.specs.Lists.{has_id, is_some_and, nth}
use Rattle.zt_model.specs.Parts.{find_face}
use Rattle.zt_model.specs.Promises.{EachFace, answers_interest, finals_in, is_final_of, is_open_face}
use Rattle.zt_model.specs.Routing.{stands}
use Rattle.zt_model.specs.Rows.{Ask, Face, Rows}
use Rattle.zt_model.specs.Transcript.{Each}
use Rattle.zt_check_keeping.specs.Keeping.{at_gateway}
use Rattle.zt_check_asks.specs.Answering.{is_that}
use Rattle.zt_check_finals.specs.Ending.{Ended, is_ended}

-- ---- one ask

-- a message is an interest of an id in what is there now
abbrev pub is_now : {K : Type 0} → ℕ → Message K → Bool
is_now id (message.Interest i mode options e) = (id == i) && is_current mode
is_now id _ = false

-- for the face of a number in scripts
abbrev pub asks_now : {K : Type 0} → ℕ → ℕ → Sent K → Bool
asks_now number id m = (number == m.face) && is_now id m.message

-- a pending of a gateway stands once these messages are heard
abbrev pub stands_after : {K : Type 0} → Fabric K → List (Sent K) → ℕ → Rows K → ℕ × ℕ → Bool
stands_after s ms gateway g p = stands g p || (is_some (find_face p.0 g) && list_any (asks_now (number_of_place s gateway p.0) p.1) ms)

-- the line ends the ask, where it ends this interest: the ask's last pending ends, or its interest, where it asked for both
abbrev pub ends_ask : {K : Type 0} → Fabric K → Option (ℕ × ℕ × ℕ) → List (Sent K) → ℕ → Rows K → Face K → ℕ × Ask K → Bool
ends_ask s finalised ms gateway g f row =
    not (list_any (stands_after s ms gateway g) row.1.pendings) || (is_future row.1.interest.mode && is_that finalised gateway f.number row.0)

-- the finals of an id that are printed for the face of a number in scripts
abbrev pub finals_from : {K : Type 0} → ℕ → ℕ → List (Sent K) → ℕ
finals_from id number ms = finals_in id (printed_for number ms)

-- a message is one
abbrev pub finals_one : {K : Type 0} → ℕ → ℕ → Sent K → Bool
finals_one number id m = (number == m.face) && is_final_of id m.message

-- one where it ends, and none else
abbrev pub is_finished : {K : Type 0} → Fabric K → Option (ℕ × ℕ × ℕ) → List (Sent K) → ℕ → Rows K → Face K → ℕ × Ask K → Bool
is_finished s finalised ms gateway g f row =
    finals_from row.0 (number_of_place s gateway f.number) ms == (if ends_ask s finalised ms gateway g f row then 1 else 0)

-- ---- finals of no ask, and what follows them

-- a final is that of an ask, or that of a new mutual peer
abbrev pub of_some_in : {K : Type 0} → List ℕ → ℕ → ℕ → Face K → Bool
of_some_in unopened n id f = has_id id f.asks || ((id == 0) && (is_some f.initial && list_any (λ k. n == k) unopened))

abbrev pub of_some_at : {K : Type 0} → Fabric K → List ℕ → ℕ → ℕ → Option Place → Bool
of_some_at s unopened n id None = false
of_some_at s unopened n id (Some p) = is_some_and (nth p.gateway s.gateways) (λ node. is_some_and (find_face p.face node.rows) (of_some_in unopened n id))

abbrev pub is_of_some : {K : Type 0} → Fabric K → List ℕ → ℕ → Message K → Bool
is_of_some s unopened n (message.DeclareFinal id) = of_some_at s unopened n id (nth n s.faces)
is_of_some s unopened n _ = true

abbrev pub is_of_some_ask : {K : Type 0} → Fabric K → List ℕ → Sent K → Bool
is_of_some_ask s unopened m = is_of_some s unopened m.face m.message

-- a message is for this face, and answers an interest of the id
abbrev pub answers_for : {K : Type 0} → ℕ → ℕ → Sent K → Bool
answers_for n id m = (m.face == n) && answers_interest id m.message

-- nothing later answers what a message for an open face finishes
abbrev pub is_followed_by_none : {K : Type 0} → Fabric K → ℕ → Message K → List (Sent K) → Bool
is_followed_by_none s n (message.DeclareFinal id) later = not (is_open_face s n) || not (list_any (answers_for n id) later)
is_followed_by_none s n _ later = true

abbrev pub nothing_follows : {K : Type 0} → Fabric K → List (Sent K) → Bool
nothing_follows s [] = true
nothing_follows s (m ∷ later) = is_followed_by_none s m.face m.message later && nothing_follows s later

module _ {K : Type 0} (s : Fabric K) (finalised : Option (ℕ × ℕ × ℕ)) (ms : List (Sent K)) where
  -- ---- those of an id of a face

  abbrev pub is_finished_at : ℕ → Rows K → Face K → ℕ → ℕ × Ask K → Bool
  is_finished_at gateway g f id row = not (id == row.0) || is_finished s finalised ms gateway g f row

  abbrev pub are_finished_of : ℕ → Rows K → ℕ → ℕ → Face K → Bool
  are_finished_of gateway g n id f = not (n == f.number) || list_all (is_finished_at gateway g f id) f.asks

  abbrev pub are_finished_at : ℕ → ℕ → ℕ → Bool
  are_finished_at gateway n id = at_gateway s gateway (λ g. list_all (are_finished_of gateway g n id) g.faces)

  -- the one that the line makes, or whose interest it ends
  abbrev pub touched_is_finished : Option (ℕ × ℕ × ℕ) → Bool
  touched_is_finished None = true
  touched_is_finished (Some touched) = are_finished_at touched.0 touched.1 touched.2

  -- ---- those of which a pending may end

  abbrev pub is_finished_under : Ended → Rows K → Face K → ℕ × Ask K → Bool
  is_finished_under e g f row = not (list_any (is_ended e) row.1.pendings) || is_finished s finalised ms e.0 g f row

  abbrev pub are_finished_under : Ended → Rows K → Face K → Bool
  are_finished_under e g f = list_all (is_finished_under e g f) f.asks

  abbrev pub ended_are_finished : Ended → Bool
  ended_are_finished e = at_gateway s e.0 (λ g. list_all (are_finished_under e g) g.faces)

  -- ---- those of which a final is printed

  abbrev pub are_finished_for : Message K → Option Place → Bool
  are_finished_for m None = true
  are_finished_for (message.DeclareFinal id) (Some p) = are_finished_at p.gateway p.face id
  are_finished_for m (Some p) = true

  abbrev pub are_finished_by : Sent K → Bool
  are_finished_by m = are_finished_for m.message (nth m.face s.faces)

  -- ---- all of it

  abbrev pub finals_are_sent : List Ended → Option (ℕ × ℕ × ℕ) → List ℕ → Bool
  finals_are_sent ended touched unopened =
      (list_all ended_are_finished ended && touched_is_finished touched)
      && ((list_all are_finished_by ms && list_all (is_of_some_ask s unopened) ms) && nothing_follows s ms)

-- ---- before a turn

-- No ask has ended: each has a pending that stands. So it is where each got its final as it ended.
abbrev pub Unended : {K : Type 0} → Fabric K → Type 0
Unended s = EachFace (λ n g f. Each (λ row. list_any (stands g) row.1.pendings ≡ true) f.asks) s
