-- What a transcript promises, as relations of its lines and entries: what faces keep, which tokens they are told,
-- what asks get and when they end, and what goes upstream. They are read off the lines and the printed messages alone,
-- from the empty fabric on, as `fabric_shown` goes on from one entry to the next.
--     MeetsPromises           the promises as they are stated
--     MeetsStricterPromises   what holds beside, where a promise could be read in two ways
use Rattle.std.specs.Prelude.{◌≡◌, ℕ, Bool, true, false, ◌+◌, ◌==◌, ◌&&◌, ◌||◌, not, nat_lt, if◌then◌else◌, List, [], ◌∷◌, ◌++◌, length, Option, Some, None, is_some, Ok, Err, filter}
use Rattle.std.specs.List.{list_any, flat_map}
use Rattle.std.specs.Option.{option_to_list}
use Rattle.std.specs.declared.cmp.Ordering.{Ordering}
use Rattle.zt_region.specs.declared.region.Bound.TheVariants.{South as SouthBound}
use Rattle.zt_region.specs.declared.region.Region.{Region}
use Rattle.zt_region.specs.declared.region.WhatAmI.{WhatAmI}
use Rattle.zt_region.specs.declared.region.WhatAmI.TheVariants.{Router, Peer, Client}
use Rattle.zt_region.specs.Admission.{admits}
use Rattle.zt_region.specs.Region.{bound_eq, is_north}
use Rattle.zt_protocol.specs.Interest.{is_current, is_future, has_tokens}
use Rattle.zt_protocol.specs.Plain.{NewTransport, DeclareToken, Interest, InterestFinal, PlainEntry, PlainLine, Link as LinkLine, Unlink}
use Rattle.zt_protocol.specs.declared.entries.Sent.{Sent}
use Rattle.zt_protocol.specs.declared.messages.Message.{Message}
use Rattle.zt_protocol.specs.declared.messages.Message.TheVariants as message
use Rattle.zt_model.specs.Fabric.{CallAt, Fabric, Node, call_of, closing_call, both_ends, number_of_place, printed_for}
use Rattle.zt_model.specs.Hearing.{heard}
use Rattle.zt_model.specs.Linking.{link_ends}
use Rattle.zt_model.specs.Lists.{at_id, has_id, is_among, is_some_and, nth, same}
use Rattle.zt_model.specs.Parts.{find_face, is_routed}
use Rattle.zt_model.specs.Routing.{asks_same, is_held_south, is_target, opening_interests, stands}
use Rattle.zt_model.specs.Rows.{Ask, Face, InterestRow, Rows}
use Rattle.zt_model.specs.Seen.{concerns, is_interested, is_owed, is_seen, is_seen_and_admitted, may_hear, sees}
use Rattle.zt_model.specs.Shown.{counts_as_declared, interest_kept}
use Rattle.zt_model.specs.Telling.{was_sent_as}
use Rattle.zt_model.specs.Transcript.{Each, fabric_shown, fabric_with, messages_of, openings}
use Rattle.zt_model.specs.Visible.{keeps}
use Rattle.zt_model.specs.Wants.{is_about}
pub use Rattle.zt_model.specs.Transcript.{FaceAt}
unfoldable pub use Rattle.zt_model.specs.Transcript.{face_numbered}

-- ---- turns

-- a line with its entry, and the fabric before and after it
pub record Turn (K : Type 0) : Type 0 where
  pub line : PlainLine K
  pub entry : PlainEntry K
  pub before : Fabric K
  pub after : Fabric K

abbrev pub is_open_face : {K : Type 0} → Fabric K → ℕ → Bool
is_open_face s n = is_some (face_numbered s n)

-- what a turn prints
abbrev pub printed : {K : Type 0} → Turn K → List (Sent K)
printed t = messages_of t.entry

abbrev pub is_accepted : {K : Type 0} → PlainEntry K → Bool
is_accepted (Ok ms) = true
is_accepted (Err refusal) = false

-- what a turn prints for a face
abbrev pub printed_to : {K : Type 0} → Turn K → ℕ → Face K → List (Message K)
printed_to t gateway f = printed_for (number_of_place t.after gateway f.number) (printed t)

-- a fact of each gateway with its number, counted from n
abbrev pub EachGateway : {K : Type 0} → (ℕ → Node K → Type 0) → ℕ → List (Node K) → Type 0
EachGateway P n [] = Unit {0}
EachGateway P n (node ∷ nodes) = P n node × EachGateway P (n + 1) nodes

-- a fact of each open face of a fabric, with its gateway's number and rows
abbrev pub EachFace : {K : Type 0} → (ℕ → Rows K → Face K → Type 0) → Fabric K → Type 0
EachFace {K} P s = EachGateway (λ n (node : Node K). Each (P n node.rows) node.rows.faces) 1 s.gateways

-- ---- messages

-- the message answers an interest of this id
abbrev pub answers_interest : {K : Type 0} → ℕ → Message K → Bool
answers_interest id (message.DeclareToken token e (Some interest) node) = id == interest
answers_interest id (message.DeclareSubscriber number e interest) = id == interest
answers_interest id (message.DeclareQueryable number e info interest) = id == interest
answers_interest id _ = false

abbrev pub is_final_of : {K : Type 0} → ℕ → Message K → Bool
is_final_of id (message.DeclareFinal interest) = id == interest
is_final_of id _ = false

-- the interests among messages, whatever their ids
abbrev pub interests_in : {K : Type 0} → List (Message K) → List (InterestRow K)
interests_in [] = []
interests_in (message.Interest id mode options e ∷ ms) = record { mode = mode; options = options; expr = e } ∷ interests_in ms
interests_in (m ∷ ms) = interests_in ms

-- the expression of a token that answers an interest of this id
abbrev pub answered_by : {K : Type 0} → ℕ → Message K → List K
answered_by id (message.DeclareToken token e (Some interest) node) = if id == interest then e ∷ [] else []
answered_by id _ = []

-- the expressions that an ask is answered, in order
abbrev pub answers_in : {K : Type 0} → ℕ → List (Message K) → List K
answers_in id ms = flat_map (answered_by id) ms

abbrev pub finals_in : {K : Type 0} → ℕ → List (Message K) → ℕ
finals_in id ms = length (filter (is_final_of id) ms)

-- after a final nothing answers its id
abbrev pub NothingFollowsFinals : {K : Type 0} → List (Message K) → Type 0
NothingFollowsFinals [] = Unit {0}
NothingFollowsFinals (message.DeclareFinal id ∷ ms) = (list_any (answers_interest id) ms ≡ false) × NothingFollowsFinals ms
NothingFollowsFinals (m ∷ ms) = NothingFollowsFinals ms

module _ {K : Type 0} (cmp : K → K → Ordering) (matching : K → K → Bool) where
  -- the turns of a transcript, from a fabric on
  unfoldable pub turns_from : List (PlainLine K) → List (PlainEntry K) → Fabric K → List (Turn K)
  turns_from [] entries s = []
  turns_from (line ∷ lines) [] s = []
  turns_from (line ∷ lines) (entry ∷ entries) s =
      let after = fabric_shown cmp matching line entry s in
      record { line = line; entry = entry; before = s; after = after } ∷ turns_from lines entries after

  -- the calls of a turn, where its line is accepted: a link opens two faces, and closes them
  unfoldable pub calls_in : Turn K → List (CallAt K)
  calls_in t = if is_accepted t.entry then calls_by t.line t.before else []
    where
      calls_by : PlainLine K → Fabric K → List (CallAt K)
      calls_by (LinkLine one two first back) s = openings cmp matching (link_ends s one two first back) s
      calls_by (Unlink link) s = flat_map (λ face. option_to_list (closing_call s face)) (both_ends cmp matching s link)
      calls_by line s = option_to_list (call_of line s)

  -- the fabric with what an accepted line itself changes, before its messages are heard: the asks that stood before
  -- and those that the line makes stand in it
  abbrev pub with_line : Turn K → Fabric K
  with_line t = if is_accepted t.entry then fabric_with cmp matching t.line (printed t) t.before else t.before

  -- ---- equality

  -- Where an admission table refuses no pair, a face keeps of what it covers exactly what is visible.
  abbrev pub KeepsExactly : Turn K → Type 0
  KeepsExactly t = EachFace (λ n g f. is_routed g f ≡ false → g.refused ≡ [] → (e : K) → is_owed matching f e ≡ true → keeps cmp f e ≡ is_seen cmp g f.region e) t.after

  -- ---- sparing

  -- an ask of the id that asks for the expression's tokens stood at the face, or was made
  abbrev pub is_asked_for : Turn K → ℕ → ℕ → K → Bool
  is_asked_for t n id e =
      is_some_and (face_numbered (with_line t) n) (λ x. is_some_and (at_id id x.face.asks) (λ ask. concerns matching ask.interest e))

  -- Outside router regions a token that answers nobody is printed for a face only with a real id, and only if the face
  -- seeks it then; an answer only for a token ask of its id that it matches.
  abbrev pub SparesMessage : Turn K → ℕ → Message K → Option (FaceAt K) → Type 0
  SparesMessage t n (message.DeclareToken id e None node) (Some x) =
      is_routed x.rows x.face ≡ false → (nat_lt 0 id ≡ true) × (may_hear matching x.face e ≡ true)
  SparesMessage t n (message.DeclareToken id e (Some interest) node) (Some x) =
      is_routed x.rows x.face ≡ false → is_asked_for t n interest e ≡ true
  SparesMessage t n _ at = Unit {0}

  abbrev pub IsSparing : Turn K → Type 0
  IsSparing t = Each (λ m. SparesMessage t m.face m.message (face_numbered t.after m.face)) (printed t)

  -- And, but where the face is new, the token is admitted to it; and an answer is printed so for faces of every region.
  abbrev pub SparesMore : Turn K → ℕ → Message K → Option (FaceAt K) → Type 0
  SparesMore t n (message.DeclareToken id e None node) (Some x) =
      is_routed x.rows x.face ≡ false → is_open_face t.before n ≡ true → is_seen_and_admitted cmp x.rows x.face.region e ≡ true
  SparesMore t n (message.DeclareToken id e (Some interest) node) at = is_asked_for t n interest e ≡ true
  SparesMore t n _ at = Unit {0}

  abbrev pub IsMoreSparing : Turn K → Type 0
  IsMoreSparing t = Each (λ m. SparesMore t m.face m.message (face_numbered t.after m.face)) (printed t)

  -- ---- the future

  -- Each face outside router regions keeps the expression that wants it, to which the pair of regions is admitted and
  -- the region shown.
  abbrev pub TellsWhoWants : Region → K → Rows K → Type 0
  TellsWhoWants source e g =
      Each (λ f. is_routed g f ≡ false → is_interested matching f e ≡ true → admits g.refused source f.region ≡ true → sees f.region source ≡ true → keeps cmp f e ≡ true) g.faces

  -- they do after an accepted declaration that passes a test
  abbrev pub TellsAfter : (Rows K → Face K → Option ℕ → Bool) → Fabric K → CallAt K → Type 0
  TellsAfter test after at = elim at.call [
    | DeclareToken n id e node interest ↦
        elim (find_face n at.rows) [
          | None ↦ Unit {0}
          | Some from ↦
              test at.rows from interest ≡ true →
              elim (nth at.gateway after.gateways) [ None ↦ Unit {0} | Some node ↦ TellsWhoWants from.region e node.rows ]
        ]
    | _ ↦ Unit {0}
  ]

  -- after a declaration that registers
  abbrev pub TellsTheFuture : Turn K → Type 0
  TellsTheFuture t = Each (TellsAfter (λ g f interest. not (is_routed g f) && counts_as_declared f interest) t.after) (calls_in t)

  -- and after one in a router region
  abbrev pub TellsOfRouters : Turn K → Type 0
  TellsOfRouters t = Each (TellsAfter (λ g f interest. is_routed g f) t.after) (calls_in t)

  -- ---- asks

  -- the call asks by this id, at this face
  abbrev pub is_asking : ℕ → ℕ → ℕ → CallAt K → Bool
  is_asking gateway n id at = elim at.call [
    | Interest face interest mode options e ↦ (gateway == at.gateway) && ((n == face) && ((id == interest) && is_current mode))
    | _ ↦ false
  ]

  -- the call declares the expression, and names a pending of the ask that stands
  abbrev pub is_answering : ℕ → Ask K → K → CallAt K → Bool
  is_answering gateway ask e at = elim at.call [
    | DeclareToken n id k node interest ↦
        (gateway == at.gateway) && (same cmp e k && is_some_and interest (λ pending. was_sent_as n pending ask && stands at.rows (n, pending)))
    | _ ↦ false
  ]

  -- each expression once, and none that was there before
  abbrev pub are_new : List K → List K → Bool
  are_new known [] = true
  are_new known (e ∷ es) = not (is_among cmp e known) && are_new (e ∷ known) es

  -- A token ask is answered in its own entry exactly the matching expressions visible to its face. Later it is
  -- answered an expression only where that is declared under one of its pendings, and then it is, once.
  pub record IsAnswered (t : Turn K) (gateway : ℕ) (g : Rows K) (f : Face K) (id : ℕ) (ask : Ask K) : Type 0 where
    pub at_once : list_any (is_asking gateway f.number id) (calls_in t) ≡ true → (e : K) → is_among cmp e (answers_in id (printed_to t gateway f)) ≡ (is_about matching ask.interest.expr e && is_seen cmp g f.region e)
    pub only_declared : list_any (is_asking gateway f.number id) (calls_in t) ≡ false → (e : K) → is_among cmp e (answers_in id (printed_to t gateway f)) ≡ true → list_any (is_answering gateway ask e) (calls_in t) ≡ true
    pub each_declared : (e : K) → is_about matching ask.interest.expr e ≡ true → list_any (is_answering gateway ask e) (calls_in t) ≡ true → is_among cmp e (ask.answered ++ answers_in id (printed_to t gateway f)) ≡ true
    pub once : are_new ask.answered (answers_in id (printed_to t gateway f)) ≡ true

  abbrev pub AnswersAsks : Turn K → Type 0
  AnswersAsks t = EachFace (λ n g f. Each (λ row. has_tokens row.1.interest.options ≡ true → IsAnswered t n g f row.0 row.1) f.asks) (with_line t)

  -- ---- finals

  abbrev pub is_finalising : ℕ → ℕ → ℕ → CallAt K → Bool
  is_finalising gateway n id at = elim at.call [
    | InterestFinal face interest ↦ (gateway == at.gateway) && ((n == face) && (id == interest))
    | _ ↦ false
  ]

  -- none of the ask's pendings stands at its gateway
  abbrev pub has_no_pending : Fabric K → ℕ → Ask K → Bool
  has_no_pending s gateway ask = is_some_and (nth gateway s.gateways) (λ node. not (list_any (stands node.rows) ask.pendings))

  -- the turn ends the ask: its last pending ends, or its interest, where it asked for both
  abbrev pub ends_ask : Turn K → ℕ → Face K → ℕ → Ask K → Bool
  ends_ask t gateway f id ask =
      has_no_pending t.after gateway ask || (is_future ask.interest.mode && list_any (is_finalising gateway f.number id) (calls_in t))

  -- each ask gets one final in the turn that ends it, and in no other
  abbrev pub FinishesAsks : Turn K → Type 0
  FinishesAsks t = EachFace (λ n g f. Each (λ row. finals_in row.0 (printed_to t n f) ≡ (if ends_ask t n f row.0 row.1 then 1 else 0)) f.asks) (with_line t)

  -- a new mutual peer gets one final of its initial interest
  abbrev pub FinishesInitial : Turn K → Type 0
  FinishesInitial t =
      EachFace (λ n g f. is_open_face t.before (number_of_place t.after n f.number) ≡ false → finals_in 0 (printed_to t n f) ≡ (if is_some f.initial then 1 else 0)) t.after

  -- a final is that of an ask, or that of a new mutual peer
  abbrev pub IsFinalOfSome : Turn K → ℕ → Message K → Type 0
  IsFinalOfSome t n (message.DeclareFinal id) =
      is_some_and (face_numbered (with_line t) n) (λ x. has_id id x.face.asks || ((id == 0) && (is_some x.face.initial && not (is_open_face t.before n)))) ≡ true
  IsFinalOfSome t n _ = Unit {0}

  pub record SendsFinals (t : Turn K) : Type 0 where
    pub asks : FinishesAsks t
    pub no_others : Each (λ m. IsFinalOfSome t m.face m.message) (printed t)
    pub come_last : EachFace (λ n g f. NothingFollowsFinals (printed_to t n f)) t.after

  -- ---- upstream

  -- The interests that a call sends to a face: its own to each of its targets, and to a new face to the north what
  -- south-bound faces hold.
  abbrev pub interests_due : ℕ → Face K → CallAt K → List (InterestRow K)
  interests_due gateway f at =
      if not (gateway == at.gateway) then []
      else elim at.call [
        | Interest n id mode options e ↦
            elim (find_face n at.rows) [
              | None ↦ []
              | Some from ↦
                  elim (find_face f.number at.rows) [
                    | None ↦ []
                    | Some target ↦ if is_target at.rows from.region mode target then interest_kept from mode options e ∷ [] else []
                  ]
            ]
        | NewTransport zid whatami region bound first ↦ if f.number == at.rows.made + 1 then opening_interests cmp matching at.rows f else []
        | _ ↦ []
      ]

  -- no other interest is printed
  abbrev pub SendsUpstream : Turn K → Type 0
  SendsUpstream t = EachFace (λ n g f. interests_in (printed_to t n f) ≡ flat_map (interests_due n f) (calls_in t)) t.after

  -- A client's face to the north, and a peer's faces to the north with remote bound South, are sent all interests in what
  -- comes later; a peer's question about now alone goes to the lowest of these alone.
  abbrev pub is_sent_all : WhatAmI → Face K → Bool
  is_sent_all Client f = is_north f.region
  is_sent_all Peer f = is_north f.region && bound_eq f.bound SouthBound
  is_sent_all Router f = false

  -- their locals are, as pairs of expression and options, what open south-bound faces hold
  abbrev pub EndsUpstream : Turn K → Type 0
  EndsUpstream t = EachFace (λ n g f. is_sent_all g.mode f ≡ true → (i : InterestRow K) → list_any (λ row. asks_same cmp matching i row.1) f.locals ≡ is_held_south cmp matching g i) t.after

  -- ---- undeclarations

  -- Outside router regions an undeclaration by expression is printed only where the expression isn't visible.
  abbrev pub IsGone : Message K → Option (FaceAt K) → Type 0
  IsGone (message.UndeclareToken id (Some e) node) (Some x) = is_routed x.rows x.face ≡ false → is_seen cmp x.rows x.face.region e ≡ false
  IsGone _ at = Unit {0}

  abbrev pub UndeclaresWhatIsGone : Turn K → Type 0
  UndeclaresWhatIsGone t = Each (λ m. IsGone m.message (face_numbered t.after m.face)) (printed t)

  -- Anywhere one by id is printed only where the face kept a pair of the id before the line.
  abbrev pub WasKept : Turn K → ℕ → Message K → Type 0
  WasKept t n (message.UndeclareToken id None node) = is_some_and (face_numbered t.before n) (λ x. has_id id x.face.told) ≡ true
  WasKept t n _ = Unit {0}

  abbrev pub UndeclaresWhatWasKept : Turn K → Type 0
  UndeclaresWhatWasKept t = Each (λ m. WasKept t m.face m.message) (printed t)

  -- ---- ids

  -- A token's real id is the face's next one, or that under which the face keeps it; an interest's is the next one.
  abbrev pub has_next_id : Message K → Face K → Bool
  has_next_id (message.DeclareToken id e interest node) f = (id == 0) || ((id == f.next) || list_any (λ row. (id == row.0) && same cmp e row.1) f.told)
  has_next_id (message.Interest id mode options e) f = id == f.next
  has_next_id _ f = true

  abbrev pub HaveNextIds : List (Message K) → Face K → Type 0
  HaveNextIds [] f = Unit {0}
  HaveNextIds (m ∷ ms) f = (has_next_id m f ≡ true) × HaveNextIds ms (heard cmp 0 m f)

  abbrev pub DrawsNextIds : Turn K → Type 0
  DrawsNextIds t = EachFace (λ n g f. HaveNextIds (printed_for (number_of_place t.after n f.number) (printed t)) f) (with_line t)

  -- ---- what messages name

  -- A token that answers nobody is told under the next id. What is ended by an id stands under it then: a kept pair by
  -- an undeclaration, a local by an interest's final.
  abbrev pub names_what_stands : Message K → Face K → Bool
  names_what_stands (message.DeclareToken id e None node) f = (id == 0) || (id == f.next)
  names_what_stands (message.UndeclareToken id None node) f = has_id id f.told
  names_what_stands (message.InterestFinal id) f = has_id id f.locals
  names_what_stands _ f = true

  abbrev pub NameWhatStands : List (Message K) → Face K → Type 0
  NameWhatStands [] f = Unit {0}
  NameWhatStands (m ∷ ms) f = (names_what_stands m f ≡ true) × NameWhatStands ms (heard cmp 0 m f)

  abbrev pub EndsWhatStands : Turn K → Type 0
  EndsWhatStands t = EachFace (λ n g f. NameWhatStands (printed_for (number_of_place t.after n f.number) (printed t)) f) (with_line t)

  -- ---- all of them

  -- what holds of each turn of a transcript
  pub record MeetsPromises (t : Turn K) : Type 0 where
    pub exact : KeepsExactly t
    pub sparing : IsSparing t
    pub future : TellsTheFuture t
    pub asks : AnswersAsks t
    pub finals : SendsFinals t
    pub upstream : SendsUpstream t
    pub upstream_ends : EndsUpstream t
    pub undeclarations : UndeclaresWhatIsGone t

  -- and beside these
  pub record MeetsStricterPromises (t : Turn K) : Type 0 where
    pub sparing : IsMoreSparing t
    pub future : TellsOfRouters t
    pub initial : FinishesInitial t
    pub undeclarations : UndeclaresWhatWasKept t
    pub ids : DrawsNextIds t
    pub ends : EndsWhatStands t

  -- a transcript has an entry for each line, and each turn keeps the promises
  abbrev pub MeetPromisesFrom : List (PlainLine K) → List (PlainEntry K) → Fabric K → Type 0
  MeetPromisesFrom lines entries s = (length entries ≡ length lines) × Each MeetsPromises (turns_from lines entries s)

  abbrev pub MeetStricterPromisesFrom : List (PlainLine K) → List (PlainEntry K) → Fabric K → Type 0
  MeetStricterPromisesFrom lines entries s = Each MeetsStricterPromises (turns_from lines entries s)
