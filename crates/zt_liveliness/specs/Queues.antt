-- What a message that waits for a session is to a query.
use Rattle.std.specs.Prelude.{ℕ, ◌==◌, if◌then◌else◌, [], ◌∷◌, Option, Some, None, is_some}
use Rattle.zt_protocol.specs.declared.messages.Message.{Message}
use Rattle.zt_protocol.specs.declared.messages.Message.TheVariants.{DeclareToken, DeclareFinal}
use Rattle.zt_model.specs.Parts.{Sends}

-- to the query of an id a message is a reply with an expression, or its end, or nothing
abbrev pub answer_in : {K : Type 0} → ℕ → Message K → Option (Option K)
answer_in id (DeclareToken token e (Some interest) node) = if id == interest then Some (Some e) else None
answer_in id (DeclareFinal interest) = if id == interest then Some None else None
answer_in id _ = None

-- what a message to a face is to the query of a session
abbrev pub answer_for : {K : Type 0} → ℕ → ℕ → ℕ × Message K → Option (Option K)
answer_for session id s = if session == s.0 then answer_in id s.1 else None

-- the oldest reply or end of a query
abbrev pub oldest_answer : {K : Type 0} → ℕ → ℕ → Sends K → Option (Option K)
oldest_answer session id [] = None
oldest_answer session id (s ∷ ss) = if is_some (answer_for session id s) then answer_for session id s else oldest_answer session id ss

-- the expression of an answer that is a reply
abbrev pub reply_in : {K : Type 0} → Option (Option K) → Option K
reply_in None = None
reply_in (Some reply) = reply

-- the messages but that one
abbrev pub without_answer : {K : Type 0} → ℕ → ℕ → Sends K → Sends K
without_answer session id [] = []
without_answer session id (s ∷ ss) = if is_some (answer_for session id s) then ss else s ∷ without_answer session id ss
