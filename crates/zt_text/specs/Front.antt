-- A message's line in two: what comes before its key, and the key.
use Rattle.std.specs.Prelude.{ℕ, List, [], ◌∷◌, codes, decimal, Option, Some, None}
use Rattle.zt_protocol.specs.declared.messages.Message.{Message}
use Rattle.zt_protocol.specs.declared.messages.Message.TheVariants.{DeclareToken, UndeclareToken, DeclareFinal, Interest, InterestFinal, DeclareSubscriber, DeclareQueryable}
use Rattle.zt_protocol.specs.declared.entries.Sent.{Sent}
use Rattle.zt_fields.specs.Spellings.{options_text, interest_mode_text, flag_text}
use Rattle.zt_text.specs.Text.{spaced}

-- the key of a message, where it has one
abbrev pub key_of : {K : Type 0} → Message K → Option K
key_of (DeclareToken id expr interest node) = Some expr
key_of (UndeclareToken id expr node) = expr
key_of (DeclareFinal interest) = None
key_of (Interest id mode options expr) = expr
key_of (InterestFinal id) = None
key_of (DeclareSubscriber id expr interest) = Some expr
key_of (DeclareQueryable id expr info interest) = Some expr

-- the fields of a message before its key
abbrev pub fields_before : {K : Type 0} → Message K → List (List ℕ)
fields_before (DeclareToken id expr None node) = codes "token" ∷ decimal id ∷ decimal node ∷ []
fields_before (DeclareToken id expr (Some interest) node) = codes "answer" ∷ decimal interest ∷ decimal id ∷ decimal node ∷ []
fields_before (UndeclareToken id expr node) = codes "untoken" ∷ decimal id ∷ decimal node ∷ []
fields_before (DeclareFinal interest) = codes "final" ∷ decimal interest ∷ []
fields_before (Interest id mode options expr) = codes "interest" ∷ decimal id ∷ interest_mode_text mode ∷ options_text options ∷ []
fields_before (InterestFinal id) = codes "interest-final" ∷ decimal id ∷ []
fields_before (DeclareSubscriber id expr interest) = codes "subscriber" ∷ decimal interest ∷ decimal id ∷ []
fields_before (DeclareQueryable id expr info interest) = codes "queryable" ∷ decimal interest ∷ decimal id ∷ flag_text info.complete ∷ decimal info.distance ∷ []

-- a message's line before its key
abbrev pub front_text : {K : Type 0} → Sent K → List ℕ
front_text sent = 62 ∷ spaced (decimal sent.gateway ∷ decimal sent.face ∷ fields_before sent.message)
