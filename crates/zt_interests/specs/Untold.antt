-- What a face is told of an expression that it may not want any more.
use Rattle.std.specs.Prelude.{if◌then◌else◌, List, [], ◌∷◌, Some, None}
use Rattle.std.specs.declared.cmp.Ordering.{Ordering}
use Rattle.std.specs.Prelude.{Bool}
use Rattle.zt_protocol.specs.declared.messages.Message.{Message}
use Rattle.zt_protocol.specs.declared.messages.Message.TheVariants as message
use Rattle.zt_model.specs.Parts.{told_id}
use Rattle.zt_model.specs.Rows.{ById, Face}
use Rattle.zt_model.specs.Wants.{wants}

-- that it is gone, by the id under which it was told
abbrev pub gone_by_id : {K : Type 0} → (K → K → Ordering) → ById K → K → List (Message K)
gone_by_id cmp told e = elim (told_id cmp e told) [ None ↦ [] | Some id ↦ message.UndeclareToken id None 0 ∷ [] ]

-- the same, where the face doesn't want the expression
abbrev pub untold_of : {K : Type 0} → (K → K → Ordering) → (K → K → Bool) → Face K → K → List (Message K)
untold_of cmp matching f e = if wants matching f e then [] else gone_by_id cmp f.told e
