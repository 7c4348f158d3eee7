-- What is printed is added to what waits: at once, or one after another.
use Rattle.std.proofs.Common.{◌≡◌, ℕ, List, [], ◌∷◌, ◌++◌, map, refl, sym, ap, ◌∙◌, append_assoc}
use Rattle.zt_protocol.specs.declared.entries.Sent.{Sent}
use Rattle.zt_protocol.specs.declared.messages.Message.{Message}
use Rattle.zt_model.specs.Fabric.{printed_for}
use Rattle.zt_model.specs.Rows.{ById}
use Rattle.zt_model.specs.Transcript.{Each}

module _ {K : Type 0} where
  abbrev pub added : List (Sent K) → ById (List (Message K)) → ById (List (Message K))
  added ms w = map (λ row. (row.0, row.1 ++ printed_for row.0 ms)) w

  pub queues_same : (ms one two : List (Sent K)) (w : ById (List (Message K))) → Each (λ row. printed_for row.0 ms ≡ printed_for row.0 one ++ printed_for row.0 two) w → added ms w ≡ added two (added one w)
  queues_same ms one two [] all = refl
  queues_same ms one two (row ∷ w) all =
      let first : row.1 ++ printed_for row.0 ms ≡ (row.1 ++ printed_for row.0 one) ++ printed_for row.0 two = ap (λ xs. row.1 ++ xs) all.0 ∙ sym (append_assoc row.1 (printed_for row.0 one) (printed_for row.0 two)) in
      let row_of = λ (xs : List (Message K)). (let r : ℕ × List (Message K) = (row.0, xs) in r) in
      ap (λ xs. row_of xs ∷ added ms w) first ∙ ap (λ rest. row_of ((row.1 ++ printed_for row.0 one) ++ printed_for row.0 two) ∷ rest) (queues_same ms one two w all.1)
