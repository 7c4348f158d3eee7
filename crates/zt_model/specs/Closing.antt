-- Closing a face, and what time ends. Closing is undeclaring what the face declared, finalising what it holds,
-- dropping its asks and ending its pendings, in this order; nothing is said to the face itself.
use Rattle.std.specs.Prelude.{ℕ, Bool, ◌-◌, ◌==◌, not, nat_le, if◌then◌else◌, List, [], ◌∷◌, ◌++◌, None, filter}
use Rattle.std.specs.List.{flat_map}
use Rattle.std.specs.declared.cmp.Ordering.{Ordering}
use Rattle.zt_model.specs.Parts.{Part, Alter, is_routed, unsaid_to, with_face}
use Rattle.zt_model.specs.Routing.{ending, finalising}
use Rattle.zt_model.specs.Rows.{Face, Pending, Rows}
use Rattle.zt_model.specs.Telling.{undeclaring}
use Rattle.zt_model.specs.Trees.{hiding}

abbrev pub without_face : {K : Type 0} → ℕ → Rows K → Rows K
without_face n g = record g { faces = filter (λ f. not (n == f.number)) g.faces }

abbrev pub without_asks : {K : Type 0} → Face K → Face K
without_asks f = record f { asks = [] }

-- the pending has waited for the timeout
abbrev pub is_expired : ℕ → ℕ → ℕ × Pending → Bool
is_expired now timeout row = nat_le timeout (now - row.1.since)

-- the gateway's moment becomes now, and what has waited for the timeout ends, by face and id
abbrev pub expiring : {K : Type 0} → ℕ → Rows K → List (Part K)
expiring now g =
    Alter (λ h. record h { moment = now })
    ∷ flat_map (λ f. flat_map (λ row. ending f.number row.0) (filter (is_expired now g.timeout) f.pendings)) g.faces

module _ {K : Type 0} (cmp : K → K → Ordering) (matching : K → K → Bool) where
  abbrev pub leaving : ℕ → Face K → List (Part K)
  leaving n f =
      flat_map (λ row. undeclaring cmp matching n row.0 None f ++ hiding cmp f.region row.1) f.live
      ++ flat_map (λ row. finalising cmp matching n row.0 row.1) f.held
      ++ Alter (with_face n without_asks)
      ∷ flat_map (λ row. ending n row.0) f.pendings

  -- a face of a router region leaves without a word, and the rows of its region stay until a table leaves them out
  abbrev pub closing : ℕ → Rows K → Face K → List (Part K)
  closing n g f = (if is_routed g f then [] else unsaid_to n (leaving n f)) ++ Alter (without_face n) ∷ []
