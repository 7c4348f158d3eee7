-- Whether asks are answered what they ask for: of one ask, and of all that a turn may make or answer.
use Rattle.std.specs.Prelude.{ℕ, Bool, true, false, ◌==◌, ◌&&◌, ◌||◌, not, if◌then◌else◌, List, [], ◌∷◌, Option, None, Some}
use Rattle.std.specs.List.{list_all}
use Rattle.std.specs.declared.cmp.Ordering.{Ordering}
use Rattle.zt_region.specs.declared.region.Region.{Region}
use Rattle.zt_region.specs.Region.{zid_eq}
use Rattle.zt_protocol.specs.Interest.{has_tokens}
use Rattle.zt_protocol.specs.declared.entries.Sent.{Sent}
use Rattle.zt_protocol.specs.declared.messages.Message.{Message}
use Rattle.zt_protocol.specs.declared.messages.Message.TheVariants.{DeclareToken}
use Rattle.zt_model.specs.Fabric.{Fabric, Place, number_of_place, printed_for}
use Rattle.zt_model.specs.Lists.{is_among, nth, same}
use Rattle.zt_model.specs.Promises.{answers_in, are_new}
use Rattle.zt_model.specs.Rows.{Ask, ById, Face, RoutedRow, Rows}
use Rattle.zt_model.specs.Seen.{is_seen, sees}
use Rattle.zt_model.specs.Telling.{was_sent_as}
use Rattle.zt_model.specs.Wants.{is_about}
use Rattle.zt_check_keeping.specs.Keeping.{at_gateway}
use Rattle.zt_check_asks.specs.Calls.{PlainTold}

-- the ask is the one that the turn makes
abbrev pub is_that : Option (ℕ × ℕ × ℕ) → ℕ → ℕ → ℕ → Bool
is_that None gateway n id = false
is_that (Some asking) gateway n id = (gateway == asking.0) && ((n == asking.1) && (id == asking.2))

-- the ask was sent upstream as this pending, of its gateway
abbrev pub is_of : {K : Type 0} → Option (ℕ × ℕ × ℕ) → ℕ → Ask K → Bool
is_of None gateway ask = false
is_of (Some pending) gateway ask = (gateway == pending.0) && was_sent_as pending.1 pending.2 ask

-- what is declared under a pending of an ask
abbrev pub declared_for : {K : Type 0} → PlainTold K → ℕ → Ask K → Option K
declared_for told gateway ask = if is_of told.pending gateway ask then told.expr else None

-- the expressions that an ask of an id is answered, by what is printed for the face of a number in scripts
abbrev pub answers_from : {K : Type 0} → ℕ → ℕ → List (Sent K) → List K
answers_from id number ms = answers_in id (printed_for number ms)

-- and for a face of a gateway
abbrev pub answers_to : {K : Type 0} → Fabric K → List (Sent K) → ℕ → ℕ → ℕ → List K
answers_to s ms gateway n id = answers_from id (number_of_place s gateway n) ms

-- the face and the interest that a token answers, where its message is for the face
abbrev pub answered_there : {K : Type 0} → Message K → ℕ → Option (ℕ × ℕ)
answered_there (DeclareToken token e (Some id) node) face = Some (face, id)
answered_there m face = None

-- both answer one interest of one face
abbrev pub is_again : Option (ℕ × ℕ) → Option (ℕ × ℕ) → Bool
is_again (Some last) (Some here) = (last.0 == here.0) && (last.1 == here.1)
is_again last here = false

abbrev pub is_nothing : {A : Type 0} → List A → Bool
is_nothing [] = true
is_nothing (x ∷ xs) = false

module _ {K : Type 0} (cmp : K → K → Ordering) (matching : K → K → Bool) where
  -- ---- an ask that is made

  -- all are asked for, and seen from the region
  abbrev pub are_seen : Rows K → Region → Option K → List K → Bool
  are_seen g own asked es = list_all (λ e. is_about matching asked e && is_seen cmp g own e) es

  -- what is asked for of these tokens is among the answers
  abbrev pub are_of_face : Option K → List K → ById K → Bool
  are_of_face asked es rows = list_all (λ row. not (is_about matching asked row.1) || is_among cmp row.1 es) rows

  -- and of all faces that are seen from the region
  abbrev pub are_of_faces : Region → Option K → List K → List (Face K) → Bool
  are_of_faces own asked es fs = list_all (λ f. not (sees own f.region) || are_of_face asked es f.live) fs

  -- a token that is seen from the region isn't among the answers
  abbrev pub is_missing : Region → List K → Face K → K → Bool
  is_missing own es f e = sees own f.region && not (is_among cmp e es)

  -- and of all other routers
  abbrev pub is_of_router : Rows K → Region → Option K → List K → RoutedRow K → Bool
  is_of_router g own asked es row = (zid_eq row.source g.zid || not (sees own row.region)) || (not (is_about matching asked row.expr) || is_among cmp row.expr es)

  abbrev pub are_all : Rows K → Region → Option K → List K → Bool
  are_all g own asked es = are_of_faces own asked es g.faces && list_all (is_of_router g own asked es) g.routed

  -- an ask that is made is answered exactly what is seen and asked for
  abbrev pub is_answered_at_once : Rows K → Face K → Ask K → List K → Bool
  is_answered_at_once g f ask es = are_seen g f.region ask.interest.expr es && are_all g f.region ask.interest.expr es

  -- ---- an ask that stood

  -- it is answered what is declared under one of its pendings alone, and that it is, if it asks for it
  abbrev pub is_answered_later : Ask K → Option K → List K → Bool
  is_answered_later ask None es = is_nothing es
  is_answered_later ask (Some e) es =
      list_all (same cmp e) es && (not (is_about matching ask.interest.expr e) || (is_among cmp e ask.answered || is_among cmp e es))

  -- ---- one ask

  -- by answers that are new
  abbrev pub is_answered_newly : PlainTold K → ℕ → Rows K → Face K → ℕ → Ask K → List K → Bool
  is_answered_newly told gateway g f id ask es =
      if is_that told.asking gateway f.number id then is_answered_at_once g f ask es else is_answered_later ask (declared_for told gateway ask) es

  abbrev pub is_answered_so : PlainTold K → ℕ → Rows K → Face K → ℕ → Ask K → List K → Bool
  is_answered_so told gateway g f id ask es = are_new cmp matching ask.answered es && is_answered_newly told gateway g f id ask es

  abbrev pub is_answered : Fabric K → PlainTold K → ℕ → Rows K → Face K → ℕ × Ask K → Bool
  is_answered s told gateway g f row =
      not (has_tokens row.1.interest.options)
      || is_answered_so told gateway g f row.0 row.1 (answers_to s told.sents gateway f.number row.0)

  -- ---- those that a turn may make or answer

  -- those of an id
  abbrev pub is_answered_at : Fabric K → PlainTold K → ℕ → Rows K → Face K → ℕ → ℕ × Ask K → Bool
  is_answered_at s told gateway g f id row = not (id == row.0) || is_answered s told gateway g f row

  -- of a face
  abbrev pub are_answered_of : Fabric K → PlainTold K → ℕ → Rows K → ℕ → ℕ → Face K → Bool
  are_answered_of s told gateway g n id f = not (n == f.number) || list_all (is_answered_at s told gateway g f id) f.asks

  abbrev pub are_answered_at : Fabric K → PlainTold K → ℕ → ℕ → ℕ → Bool
  are_answered_at s told gateway n id = at_gateway s gateway (λ g. list_all (are_answered_of s told gateway g n id) g.faces)

  -- those that a message for a place answers
  abbrev pub are_answered_for : Fabric K → PlainTold K → Message K → Option Place → Bool
  are_answered_for s told m None = true
  are_answered_for s told (DeclareToken token e (Some id) node) (Some p) = are_answered_at s told p.gateway p.face id
  are_answered_for s told m (Some p) = true

  abbrev pub are_answered_by : Fabric K → PlainTold K → Sent K → Bool
  are_answered_by s told m = are_answered_for s told m.message (nth m.face s.faces)

  -- the one that is made
  abbrev pub made_is_answered : Fabric K → PlainTold K → Option (ℕ × ℕ × ℕ) → Bool
  made_is_answered s told None = true
  made_is_answered s told (Some asking) = are_answered_at s told asking.0 asking.1 asking.2

  -- those that were sent upstream as the pending that a token answers
  abbrev pub is_answered_under : Fabric K → PlainTold K → ℕ × ℕ × ℕ → Rows K → Face K → ℕ × Ask K → Bool
  is_answered_under s told pending g f row = not (was_sent_as pending.1 pending.2 row.1) || is_answered s told pending.0 g f row

  abbrev pub are_answered_under : Fabric K → PlainTold K → ℕ × ℕ × ℕ → Rows K → Face K → Bool
  are_answered_under s told pending g f = list_all (is_answered_under s told pending g f) f.asks

  abbrev pub pending_is_answered : Fabric K → PlainTold K → Option (ℕ × ℕ × ℕ) → Bool
  pending_is_answered s told None = true
  pending_is_answered s told (Some pending) = at_gateway s pending.0 (λ g. list_all (are_answered_under s told pending g) g.faces)

  abbrev pub asks_are_answered : Fabric K → PlainTold K → Bool
  asks_are_answered s told =
      list_all (are_answered_by s told) told.sents && (made_is_answered s told told.asking && pending_is_answered s told told.pending)
