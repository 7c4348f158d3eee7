-- How many steps can follow one another in a fabric of trees where nothing but steps comes. A step takes a message, and
-- what it brings about goes on away from where that came. What falls to a gateway falls on to each gateway below, once.
-- What rises goes on to the gateway above, once, and at each gateway on its way messages fall because of it. Beside what
-- waits, an interest that was sent up can be ended, once, and an ask be answered each token, and finished, once.
--     most_steps     counted along the links
--     plain_most     a bound of it in plain numbers: messages, interests, asks, tokens, entities and gateways
use Rattle.std.specs.Prelude.{◌≡◌, ℕ, zero, suc, Bool, true, false, nat_lt, Ok, Err, ◌+◌, ◌*◌, not, if◌then◌else◌, List, [], ◌∷◌, ◌++◌, length, sum_by, None, Some, map, filter}
use Rattle.std.specs.List.{flat_map}
use Rattle.std.specs.Option.{option_to_list}
use Rattle.std.specs.declared.cmp.Ordering.{Ordering}
use Rattle.zt_region.specs.Region.{is_north}
use Rattle.zt_protocol.specs.Plain.{PlainEntry, PlainLine, Step}
use Rattle.zt_protocol.specs.Refusal.{number_of}
use Rattle.zt_protocol.specs.declared.messages.Message.{Message}
use Rattle.zt_protocol.specs.declared.messages.Message.TheVariants.{DeclareToken, InterestFinal}
use Rattle.zt_model.specs.Fabric.{Fabric, Node, is_linked_face, number_of_place}
use Rattle.zt_model.specs.Linking.{gateway_beyond}
use Rattle.zt_model.specs.Lists.{in_key_order, is_among, nth}
use Rattle.zt_model.specs.Rows.{Ask, Face}
use Rattle.zt_model.specs.Transcript.{Each, face_numbered}
use Rattle.zt_laws.specs.Sound.{RiseFrom}

-- ---- gateways above and below

abbrev pub faces_of : {K : Type 0} → Fabric K → ℕ → List (Face K)
faces_of s n = elim (nth n s.gateways) [ None ↦ [] | Some node ↦ node.rows.faces ]

-- the gateway at the other end of a face's open link
abbrev pub beyond : {K : Type 0} → Fabric K → ℕ → List ℕ
beyond s k = option_to_list (gateway_beyond s k)

-- How many steps a message comes to that falls to a gateway: one there, and as many as it comes to at each gateway below,
-- so many levels down.
unfoldable pub steps_down : {K : Type 0} → ℕ → Fabric K → ℕ → ℕ
steps_down zero s n = 1
steps_down (suc levels) s n = 1 + sum_by (λ f. if is_north f.region then 0 else sum_by (steps_down levels s) (beyond s (number_of_place s n f.number))) (faces_of s n)

-- down to the last
abbrev pub steps_down_from : {K : Type 0} → Fabric K → ℕ → ℕ
steps_down_from s n = steps_down (length s.gateways) s n

-- the entities of a gateway's faces
abbrev pub entities_at : {K : Type 0} → Fabric K → ℕ → ℕ
entities_at s n = sum_by (λ f. length f.subscribers + length f.queryables) (faces_of s n)

-- The most that falls to gateways below because of one message that rises to this one, where there are so many tokens:
-- an interest is answered entities, tokens and its final.
abbrev pub most_answers : {K : Type 0} → ℕ → Fabric K → ℕ → ℕ
most_answers tokens s n = 3 * tokens + entities_at s n + 2

-- How many steps a message comes to that rises to a gateway: what falls because of it, and as many as it comes to at the
-- gateway above, so many levels up.
unfoldable pub steps_up : {K : Type 0} → ℕ → ℕ → Fabric K → ℕ → ℕ
steps_up zero tokens s n = 0
steps_up (suc levels) tokens s n =
    most_answers tokens s n * steps_down_from s n
    + sum_by (λ f. if is_north f.region then sum_by (steps_up levels tokens s) (beyond s (number_of_place s n f.number)) else 0) (faces_of s n)

-- up to the first
abbrev pub steps_up_from : {K : Type 0} → ℕ → Fabric K → ℕ → ℕ
steps_up_from tokens s n = steps_up (suc (length s.gateways)) tokens s n

-- How many steps the end of an interest comes to that a gateway sent up: above, its face can be untold each token.
abbrev pub steps_to_end : {K : Type 0} → ℕ → Fabric K → ℕ → ℕ
steps_to_end tokens s n = 1 + tokens * steps_down_from s n

-- ---- what messages, interests and asks come to

-- how many steps a message for a face comes to, once it is spoken at the other end
abbrev pub steps_beyond : {K : Type 0} → ℕ → Fabric K → ℕ → ℕ
steps_beyond tokens s k =
    elim (face_numbered s k) [ None ↦ 0 | Some x ↦ sum_by (λ n. if is_north x.face.region then steps_up_from tokens s n else steps_down_from s n) (beyond s k) ]

-- a message that waits for a face: the end of an interest goes on up only where an interest there ends with it
abbrev pub steps_of : {K : Type 0} → ℕ → Fabric K → ℕ → Message K → ℕ
steps_of tokens s k (InterestFinal id) = elim (face_numbered s k) [ None ↦ 0 | Some x ↦ steps_to_end tokens s x.gateway ]
steps_of tokens s k m = steps_beyond tokens s k

-- all that waits for a face comes to so many
abbrev pub steps_of_queue : {K : Type 0} → ℕ → Fabric K → ℕ × List (Message K) → ℕ
steps_of_queue tokens s row = sum_by (steps_of tokens s row.0) row.1

-- the tokens that messages declare
abbrev pub declared : {K : Type 0} → List (Message K) → List K
declared [] = []
declared (DeclareToken id e interest node ∷ ms) = e ∷ declared ms
declared (_ ∷ ms) = declared ms

module _ {K : Type 0} (cmp : K → K → Ordering) where
  -- the tokens that are live anywhere, or wait
  abbrev pub tokens_of : Fabric K → List K
  tokens_of s =
      in_key_order cmp (flat_map (λ (node : Node K). flat_map (λ f. map (λ row. row.1) f.live) node.rows.faces) s.gateways ++ flat_map (λ row. declared row.1) s.waiting)

  -- those of them that an ask wasn't answered yet
  abbrev pub unanswered : List K → Ask K → ℕ
  unanswered tokens ask = length (filter (λ e. not (is_among cmp e ask.answered)) tokens)

  -- How many steps the interests that a face was sent, and its asks, can still come to: each interest can be ended, and
  -- each ask be answered the other tokens, and finished.
  abbrev pub steps_due : List K → Fabric K → ℕ → Face K → ℕ
  steps_due tokens s n f =
      length f.locals * steps_to_end (length tokens) s n
      + sum_by (λ row. (1 + unanswered tokens row.1) * steps_beyond (length tokens) s (number_of_place s n f.number)) f.asks

  -- those of gateways, counted from the n-th on
  abbrev pub steps_due_from : List K → Fabric K → ℕ → List (Node K) → ℕ
  steps_due_from tokens s n [] = 0
  steps_due_from tokens s n (node ∷ nodes) = sum_by (steps_due tokens s n) node.rows.faces + steps_due_from tokens s (n + 1) nodes

  -- how many steps are left in a fabric, counted by the tokens and links of an earlier one
  abbrev pub steps_left : List K → Fabric K → Fabric K → ℕ
  steps_left tokens s now = sum_by (steps_of_queue (length tokens) s) now.waiting + steps_due_from tokens s 1 now.gateways

  -- The most steps that can follow one another in a fabric of trees.
  abbrev pub most_steps : Fabric K → ℕ
  most_steps s = steps_left (tokens_of s) s s

-- ---- the same in plain numbers

-- how many messages wait on links
abbrev pub messages_waiting : {K : Type 0} → Fabric K → ℕ
messages_waiting s = sum_by (λ row. length row.1) s.waiting

-- what each face counts, over all gateways
abbrev pub over_faces : {K : Type 0} → (Face K → ℕ) → Fabric K → ℕ
over_faces count s = sum_by (λ (node : Node _). sum_by count node.rows.faces) s.gateways

-- the interests that were sent up and aren't ended
abbrev pub interests_sent : {K : Type 0} → Fabric K → ℕ
interests_sent s = over_faces (λ f. length f.locals) s

-- the asks that stand
abbrev pub asks_standing : {K : Type 0} → Fabric K → ℕ
asks_standing s = over_faces (λ f. length f.asks) s

-- the subscribers and queryables of all faces
abbrev pub all_entities : {K : Type 0} → Fabric K → ℕ
all_entities s = over_faces (λ f. length f.subscribers + length f.queryables) s

module _ {K : Type 0} (cmp : K → K → Ordering) where
  -- the most that one message comes to
  abbrev pub most_of_one : Fabric K → ℕ
  most_of_one s = (3 * length (tokens_of cmp s) + all_entities s + 2) * length s.gateways * (length s.gateways + 1)

  -- the most that all come to: what waits, the interests that can be ended, and the asks with their answers and finals
  abbrev pub plain_most : Fabric K → ℕ
  plain_most s = (messages_waiting s + interests_sent s + (length (tokens_of cmp s) + 1) * asks_standing s) * most_of_one s

-- ---- steps

abbrev pub is_step : {K : Type 0} → PlainLine K → Bool
is_step (Step link back) = true
is_step _ = false

-- A step takes its message where it is accepted, and where the message's call is refused. It takes none where there is no
-- such link, or nothing waits on it.
abbrev pub takes_message : {K : Type 0} → PlainEntry K → Bool
takes_message (Ok ms) = true
takes_message (Err refusal) = nat_lt 3 (number_of refusal)

-- ---- queues

-- Messages wait for faces that end open links alone, and for each of these in one queue.
pub record QueuesStand {K : Type 0} (s : Fabric K) : Type 0 where
  pub rise : RiseFrom (λ row. row.0) 0 s.waiting
  pub ends : Each (λ row. is_linked_face s (Some row.0) ≡ true) s.waiting
