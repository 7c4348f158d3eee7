-- Which way messages go on at a gateway of a tree.
use Rattle.std.specs.Prelude.{◌≡◌, ℕ, Bool, true, false, not, ◌&&◌, length, filter}
use Rattle.zt_region.specs.Region.{is_north}
use Rattle.zt_protocol.specs.Plain.{PlainCall, DeclareToken, UndeclareToken, Interest, DeclareFinal}
use Rattle.zt_protocol.specs.declared.messages.Message.{Message}
use Rattle.zt_protocol.specs.declared.messages.Message.TheVariants.{InterestFinal}
use Rattle.zt_model.specs.Lists.{is_some_and}
use Rattle.zt_model.specs.Parts.{Sends, find_face}
use Rattle.zt_model.specs.Rows.{Rows}

-- a message is for the face that leads up
abbrev pub is_for_above : {K : Type 0} → Rows K → ℕ × Message K → Bool
is_for_above g m = is_some_and (find_face m.0 g) (λ f. is_north f.region)

abbrev pub ends_interest : {K : Type 0} → ℕ × Message K → Bool
ends_interest (n, InterestFinal id) = true
ends_interest _ = false

-- how many messages go on up that end no interest
abbrev pub going_up : {K : Type 0} → Rows K → Sends K → ℕ
going_up g ms = length (filter (λ m. is_for_above g m && not (ends_interest m)) ms)

-- the call of a face's message that a gateway above sends
abbrev pub ComesFromAbove : {K : Type 0} → ℕ → PlainCall K → Type 0
ComesFromAbove n (DeclareToken face id e node interest) = face ≡ n
ComesFromAbove n (UndeclareToken face id e node) = face ≡ n
ComesFromAbove n (DeclareFinal face id) = face ≡ n
ComesFromAbove n _ = ⊥

-- and that a gateway below sends, where it ends no interest
abbrev pub ComesFromBelow : {K : Type 0} → ℕ → PlainCall K → Type 0
ComesFromBelow n (DeclareToken face id e node interest) = face ≡ n
ComesFromBelow n (UndeclareToken face id e node) = face ≡ n
ComesFromBelow n (Interest face id mode options e) = face ≡ n
ComesFromBelow n _ = ⊥
