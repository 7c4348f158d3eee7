-- What is answered of one expression, by the id under which a face was told it, or by pairs of face and id; and the
-- ids that answers draw.
use Rattle.std.specs.Prelude.{ℕ, Bool, ◌+◌, ◌&&◌, is_none, if◌then◌else◌, List, [], ◌∷◌, Option, Some, unwrap_or}
use Rattle.std.specs.List.{flat_map}
use Rattle.std.specs.declared.cmp.Ordering.{Ordering}
use Rattle.zt_protocol.specs.Interest.{is_future}
use Rattle.zt_protocol.specs.declared.interests.InterestMode.{InterestMode}
use Rattle.zt_protocol.specs.declared.messages.Message.{Message}
use Rattle.zt_protocol.specs.declared.messages.Message.TheVariants as message
use Rattle.zt_token_index.specs.Told.{id_of}
use Rattle.zt_model.specs.Rows.{Ask, Face}
use Rattle.zt_model.specs.Telling.{is_answered_by}

-- the id that is drawn after the answer of an expression: an answer draws one where what comes later is
-- asked for, and the face wasn't told the expression
abbrev pub id_after : ℕ → Option ℕ → InterestMode → ℕ
id_after next told mode = if is_future mode && is_none told then next + 1 else next

-- the answer of an expression
abbrev pub answer_message : {K : Type 0} → ℕ → Option ℕ → InterestMode → ℕ → K → Message K
answer_message next told mode id e = message.DeclareToken (if is_future mode then unwrap_or told next else 0) e (Some id) 0

module _ {K : Type 0} (cmp : K → K → Ordering) (matching : K → K → Bool) (n id : ℕ) (e : K) (pairs : List (ℕ × ℕ)) (f : Face K) where
  -- what a face is answered to one of its asks, where the token answers it
  abbrev pub answer_of : ℕ × Ask K → List (Message K)
  answer_of row = if is_answered_by cmp matching n id e row.1 then answer_message f.next (id_of f.number pairs) row.1.interest.mode row.0 e ∷ [] else []

  -- what it is answered
  abbrev pub answer_told : List (Message K)
  answer_told = flat_map answer_of f.asks
