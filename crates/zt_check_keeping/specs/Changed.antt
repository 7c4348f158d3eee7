-- What a line may change of who sees and seeks which tokens, each under the number of its gateway. It is read off the fabric
-- before the line.
use Rattle.std.specs.Prelude.{ℕ, Bool, true, ◌+◌, ◌==◌, ◌&&◌, not, if◌then◌else◌, List, [], ◌∷◌, ◌++◌, Option, Some, None}
use Rattle.std.specs.List.{list_any}
use Rattle.zt_region.specs.declared.region.Region.{Region}
use Rattle.zt_region.specs.Region.{region_eq}
use Rattle.zt_protocol.specs.Interest.{is_future}
use Rattle.zt_protocol.specs.Plain.{PlainCall, PlainLine, Trees, NewSession, NewTransport, DeclareToken, UndeclareToken, Interest, InterestFinal, CloseFace, SetTrees, Link as LinkLine, Unlink}
use Rattle.zt_model.specs.Fabric.{CallAt, Fabric, Link, Node, closing_call}
use Rattle.zt_model.specs.Lists.{has_id, nth}
use Rattle.zt_model.specs.Rows.{ById, Face, RoutedRow, Rows}
use Rattle.zt_model.specs.Trees.{counted_table, is_listed}

-- an id is the one that is sought, where one is
abbrev pub is_sought : Option ℕ → ℕ → Bool
is_sought None id = true
is_sought (Some sought) id = sought == id

-- the expressions of a list of rows, all of them or those under an id
abbrev pub expressions : {K : Type 0} → ℕ → Option ℕ → ById K → List (ℕ × K)
expressions gateway sought [] = []
expressions gateway sought (row ∷ rows) = if is_sought sought row.0 then (gateway, row.1) ∷ expressions gateway sought rows else expressions gateway sought rows

-- those that faces of a number declare
abbrev pub declared : {K : Type 0} → ℕ → ℕ → Option ℕ → List (Face K) → List (ℕ × K)
declared gateway n sought [] = []
declared gateway n sought (f ∷ fs) = if n == f.number then expressions gateway sought f.live ++ declared gateway n sought fs else declared gateway n sought fs

-- a row is of a router that a new table of its region lists no more
abbrev pub is_unlisted : {K : Type 0} → Region → Trees → RoutedRow K → Bool
is_unlisted region table row = region_eq region row.region && not (is_listed row.source table)

-- the expressions of such rows
abbrev pub unlisted : {K : Type 0} → ℕ → Region → Trees → List (RoutedRow K) → List (ℕ × K)
unlisted gateway region table [] = []
unlisted gateway region table (row ∷ rows) = if is_unlisted region table row then (gateway, row.expr) ∷ unlisted gateway region table rows else unlisted gateway region table rows

abbrev pub named : {K : Type 0} → ℕ → Option K → List (ℕ × K)
named gateway None = []
named gateway (Some e) = (gateway, e) ∷ []

-- The expressions whose tokens a call may add or take away: that which it names, those that stood under its id, all of a
-- face that closes, and those of routers that a table lists no more.
abbrev pub tokens_of : {K : Type 0} → ℕ → Rows K → PlainCall K → List (ℕ × K)
tokens_of gateway g (DeclareToken n id e node interest) = (gateway, e) ∷ declared gateway n (Some id) g.faces
tokens_of gateway g (UndeclareToken n id e node) = named gateway e ++ declared gateway n (Some id) g.faces
tokens_of gateway g (CloseFace n) = declared gateway n None g.faces
tokens_of gateway g (SetTrees region table) = unlisted gateway region (counted_table table) g.routed
tokens_of gateway g _ = []

-- the face that a call opens
abbrev pub opened_of : {K : Type 0} → ℕ → Rows K → PlainCall K → List (ℕ × ℕ)
opened_of gateway g (NewSession first) = (gateway, g.made + 1) ∷ []
opened_of gateway g (NewTransport zid whatami region bound first) = (gateway, g.made + 1) ∷ []
opened_of gateway g _ = []

-- the face that begins to hold an interest, with its id
abbrev pub held_of : {K : Type 0} → ℕ → PlainCall K → List (ℕ × ℕ × ℕ)
held_of gateway (Interest n id mode options e) = if is_future mode then (gateway, n, id) ∷ [] else []
held_of gateway _ = []

-- a face of the number holds an interest of the id
abbrev pub is_holding : {K : Type 0} → ℕ → ℕ → List (Face K) → Bool
is_holding n id fs = list_any (λ f. (n == f.number) && has_id id f.held) fs

-- the face that holds an interest no more, or holds another under its id
abbrev pub unheld_of : {K : Type 0} → ℕ → Rows K → PlainCall K → List (ℕ × ℕ)
unheld_of gateway g (InterestFinal n id) = (gateway, n) ∷ []
unheld_of gateway g (Interest n id mode options e) = if is_future mode && is_holding n id g.faces then (gateway, n) ∷ [] else []
unheld_of gateway g _ = []

-- ---- of the calls of a line

abbrev pub tokens_at : {K : Type 0} → Option (CallAt K) → List (ℕ × K)
tokens_at None = []
tokens_at (Some at) = tokens_of at.gateway at.rows at.call

abbrev pub opened_at : {K : Type 0} → Option (CallAt K) → List (ℕ × ℕ)
opened_at None = []
opened_at (Some at) = opened_of at.gateway at.rows at.call

abbrev pub held_at : {K : Type 0} → Option (CallAt K) → List (ℕ × ℕ × ℕ)
held_at None = []
held_at (Some at) = held_of at.gateway at.call

abbrev pub unheld_at : {K : Type 0} → Option (CallAt K) → List (ℕ × ℕ)
unheld_at None = []
unheld_at (Some at) = unheld_of at.gateway at.rows at.call

-- both faces of a link close
abbrev pub tokens_between : {K : Type 0} → Fabric K → Option Link → List (ℕ × K)
tokens_between s None = []
tokens_between s (Some link) = tokens_at (closing_call s link.one) ++ tokens_at (closing_call s link.two)

-- the faces that a gateway makes next: so many
abbrev pub next_one : {K : Type 0} → ℕ → Option (Node K) → List (ℕ × ℕ)
next_one gateway None = []
next_one gateway (Some node) = (gateway, node.rows.made + 1) ∷ []

abbrev pub next_two : {K : Type 0} → ℕ → Option (Node K) → List (ℕ × ℕ)
next_two gateway None = []
next_two gateway (Some node) = (gateway, node.rows.made + 1) ∷ (gateway, node.rows.made + 2) ∷ []

-- What a line changes, where `found` is its one call: a link opens a face at each of its gateways, and closing it closes
-- both. Where both are of one gateway, that makes two faces.
abbrev pub tokens_by : {K : Type 0} → PlainLine K → Option (CallAt K) → Fabric K → List (ℕ × K)
tokens_by (Unlink link) found s = tokens_between s (nth link s.links)
tokens_by line found s = tokens_at found

abbrev pub opened_by : {K : Type 0} → PlainLine K → Option (CallAt K) → Fabric K → List (ℕ × ℕ)
opened_by (LinkLine one two first back) found s = next_one one (nth one s.gateways) ++ next_two two (nth two s.gateways)
opened_by line found s = opened_at found
