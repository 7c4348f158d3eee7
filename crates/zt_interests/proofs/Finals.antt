-- When asks that were sent to nobody end.
use Rattle.std.proofs.Common.{◌≡◌, ◌==◌, ℕ, if◌then◌else◌, List, [], ◌∷◌, Option, Some, None, length, ne_eqb, arith, refl}
use Rattle.zt_protocol.specs.declared.messages.Message.{Message}
use Rattle.zt_protocol.specs.declared.messages.Message.TheVariants as message
use Rattle.zt_model.specs.Lists.{at_id, is_some_and}
use Rattle.zt_model.specs.Routing.{final_of}
use Rattle.zt_model.specs.Rows.{Ask, Face}

-- an ask's final goes where no face was asked
final_of_ask : {K : Type 0} (id : ℕ) (found : Option (Ask K))
    → elim found as (λ _. List (Message K)) [ None ↦ [] | Some ask ↦ elim ask.pendings as (λ _. List (Message K)) [ [] ↦ message.DeclareFinal id ∷ [] | pending ∷ pendings ↦ [] ] ]
    ≡ (if is_some_and found (λ ask. length ask.pendings == 0) then message.DeclareFinal id ∷ [] else [])
final_of_ask id None = refl
final_of_ask {K} id (Some ask) =
    elim ask.pendings as (λ ps. elim ps as (λ _. List (Message K)) [ [] ↦ message.DeclareFinal id ∷ [] | pending ∷ pendings ↦ [] ] ≡ (if length ps == 0 then message.DeclareFinal id ∷ [] else [])) [
      | [] ↦ refl
      | p ∷ ps ↦ rw (ne_eqb (length (p ∷ ps)) 0 (omega arith)) refl
    ]

pub final_of_nobody : {K : Type 0} (id : ℕ) (f : Face K)
    → final_of id f ≡ (if is_some_and (at_id id f.asks) (λ ask. length ask.pendings == 0) then message.DeclareFinal id ∷ [] else [])
final_of_nobody id f = final_of_ask id (at_id id f.asks)
