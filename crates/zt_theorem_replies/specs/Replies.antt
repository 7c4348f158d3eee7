-- What an interest is sent over many calls of one gateway: its replies and its final.
use Rattle.std.specs.Prelude.{◌≡◌, ℕ, Bool, true, false, ◌==◌, ◌&&◌, ◌++◌, List, [], ◌∷◌, Some, None}
use Rattle.std.specs.declared.cmp.Ordering.{Ordering}
use Rattle.zt_protocol.specs.Plain.{PlainCall, Interest}
use Rattle.zt_protocol.specs.declared.messages.Message.{Message}
use Rattle.zt_model.specs.Hearing.{messages_for}
use Rattle.zt_model.specs.Journal.{cause_of, rows_after}
use Rattle.zt_model.specs.Promises.{answers_in, finals_in, is_final_of}
use Rattle.zt_model.specs.Rows.{Rows}
use Rattle.zt_model.specs.Says.{Sends, said}

-- the call is an interest of the face under the id
abbrev pub is_asking_as : {K : Type 0} → ℕ → ℕ → PlainCall K → Bool
is_asking_as n id (Interest face interest mode options e) = (n == face) && (id == interest)
is_asking_as n id _ = false

-- after a final of the id comes no reply to it, and no other final
abbrev pub NothingFollowsFinal : {K : Type 0} → ℕ → List (Message K) → Type 0
NothingFollowsFinal id [] = Unit {0}
NothingFollowsFinal id (m ∷ ms) = (is_final_of id m ≡ true → (answers_in id ms ≡ []) × (finals_in id ms ≡ 0)) × NothingFollowsFinal id ms

module _ {K : Type 0} (cmp : K → K → Ordering) (matching : K → K → Bool) where
  -- the messages of a call, where it isn't refused
  abbrev pub sent_by : PlainCall K → Rows K → Sends K
  sent_by c g = elim (cause_of cmp matching c g) [ None ↦ said cmp matching c g | Some refusal ↦ [] ]

  -- what a face is sent by calls, each over the rows that those before it leave
  abbrev pub sent_to : ℕ → List (PlainCall K) → Rows K → List (Message K)
  sent_to n [] g = []
  sent_to n (c ∷ calls) g = messages_for n (sent_by c g) ++ sent_to n calls (rows_after cmp matching c g)
