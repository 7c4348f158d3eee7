-- Interests on their way: which faces to the north an interest is sent to, what a new face to the north is sent,
-- and how interests and asks end.
use Rattle.std.specs.Prelude.{ℕ, Bool, true, false, ◌+◌, ◌==◌, ◌&&◌, ◌||◌, not, if◌then◌else◌, List, [], ◌∷◌, ◌++◌, Option, Some, None, option_map, map, filter}
use Rattle.std.specs.List.{list_any, flat_map}
use Rattle.std.specs.Ordering.{is_eq, nat_cmp, ordering_then}
use Rattle.std.specs.declared.cmp.Ordering.{Ordering}
use Rattle.std.specs.declared.cmp.Ordering.TheVariants.{Less, Equal, Greater}
use Rattle.zt_region.specs.declared.region.Bound.{Bound}
use Rattle.zt_region.specs.declared.region.Region.{Region}
use Rattle.zt_region.specs.declared.region.WhatAmI.{WhatAmI}
use Rattle.zt_region.specs.declared.region.Zid.{Zid}
use Rattle.zt_region.specs.Region.{is_north}
use Rattle.zt_protocol.specs.Interest.{is_current, is_future}
use Rattle.zt_protocol.specs.declared.interests.InterestMode.{InterestMode}
use Rattle.zt_protocol.specs.declared.interests.InterestMode.TheVariants.{CurrentFuture}
use Rattle.zt_protocol.specs.declared.messages.Message.{Message}
use Rattle.zt_protocol.specs.declared.messages.Message.TheVariants as message
use Rattle.zt_model.specs.Hearing.{put_if}
use Rattle.zt_model.specs.Hat.{hat_of, hat_of_face, north_hat}
use Rattle.zt_model.specs.Lists.{at_id, first_where, has_id, in_key_order, is_some_and, without_id}
use Rattle.zt_model.specs.Parts.{Part, Alter, Say, Sends, find_face, is_routed, new_face, to_each, to_face, told_id, with_face}
use Rattle.zt_model.specs.Rows.{Ask, Face, InterestRow, Rows}
use Rattle.zt_model.specs.Telling.{was_sent_as}
use Rattle.zt_model.specs.Visible.{visible_expressions}
use Rattle.zt_model.specs.Wants.{wants}

-- ---- where an interest goes

-- a face to a gateway above
abbrev pub leads_up : {K : Type 0} → WhatAmI → Face K → Bool
leads_up mode f = is_north f.region && (north_hat mode).leads_up f.bound

-- the gateway above that has the lowest face
abbrev pub is_lowest_up : {K : Type 0} → Rows K → Face K → Bool
is_lowest_up g f = is_some_and (first_where (leads_up g.mode) g.faces) (λ x. x.number == f.number)

-- a mutual peer whose initial interest isn't finalised
abbrev pub awaits_initial : {K : Type 0} → Face K → Bool
awaits_initial f = is_some_and f.initial not

-- Interests go to all gateways above; by some hats of north, what is there now alone is asked of one of them, beside the
-- mutual peers that are still starting.
abbrev pub is_asked : {K : Type 0} → Rows K → InterestMode → Face K → Bool
is_asked g mode f =
    if is_future mode || not (north_hat g.mode).asks_one then leads_up g.mode f
    else is_north f.region && (awaits_initial f || is_lowest_up g f)

-- the interest of a south-bound face goes to this face
unfoldable pub is_target : {K : Type 0} → Rows K → Region → InterestMode → Face K → Bool
is_target g asker mode f = not (is_north asker) && is_asked g mode f

unfoldable pub route_to : {K : Type 0} → Rows K → Region → InterestRow K → Face K → List (Message K)
route_to g asker interest f = if is_target g asker interest.mode f then message.Interest f.next interest.mode interest.options interest.expr ∷ [] else []

-- zenoh's route_interest
abbrev pub route : {K : Type 0} → Region → InterestRow K → Rows K → Sends K
route asker interest g = to_each (route_to g asker interest) g.faces

-- the faces that an interest goes to, with the ids that it gets there
unfoldable pub sent_as : {K : Type 0} → Rows K → Region → InterestMode → List (ℕ × ℕ)
sent_as g asker mode = map (λ f. (f.number, f.next)) (filter (is_target g asker mode) g.faces)

-- ---- an interest at its own face

-- a future-mode interest is held, and a current-mode one is an ask until its final
abbrev pub asked_as : {K : Type 0} → List (ℕ × ℕ) → ℕ → InterestRow K → Face K → Face K
asked_as pendings id interest f =
    record f {
      held = put_if (is_future interest.mode) id interest f.held;
      asks = put_if (is_current interest.mode) id (record { interest = interest; pendings = pendings; answered = [] }) f.asks;
    }

-- the same of an interest that was sent to nobody
abbrev pub asked : {K : Type 0} → ℕ → InterestRow K → Face K → Face K
asked id interest f = asked_as [] id interest f

-- an ask that was sent to nobody is finished in its own call
abbrev pub final_of : {K : Type 0} → ℕ → Face K → List (Message K)
final_of id f = elim (at_id id f.asks) [ None ↦ [] | Some ask ↦ elim ask.pendings [ [] ↦ message.DeclareFinal id ∷ [] | pending ∷ pendings ↦ [] ] ]

-- ---- the end of an interest

abbrev pub unheld : {K : Type 0} → ℕ → Face K → Face K
unheld id f = record f { held = without_id id f.held }

-- an interest that asked for both ends its ask with it
abbrev pub final_of_both : {K : Type 0} → ℕ → InterestRow K → Face K → List (Message K)
final_of_both id interest f =
    if is_current interest.mode && is_some_and (at_id id f.asks) (λ ask. is_future ask.interest.mode) then message.DeclareFinal id ∷ [] else []

module _ {K : Type 0} (cmp : K → K → Ordering) (matching : K → K → Bool) where
  -- no expression comes first, then expressions in key order
  abbrev pub expression_order : Option K → Option K → Ordering
  expression_order None None = Equal
  expression_order None (Some b) = Less
  expression_order (Some a) None = Greater
  expression_order (Some a) (Some b) = cmp a b

  -- interests in order of expression and then of option bits, whatever their modes
  abbrev pub interest_order : InterestRow K → InterestRow K → Ordering
  interest_order a b = ordering_then (expression_order a.expr b.expr) (nat_cmp a.options.0 b.options.0)

  -- two interests ask for the same
  abbrev pub asks_same : InterestRow K → InterestRow K → Bool
  asks_same a b = is_eq (interest_order a b)

  -- some south-bound face holds such an interest, in any mode
  unfoldable pub is_held_south : Rows K → InterestRow K → Bool
  is_held_south g interest = list_any (λ f. not (is_north f.region) && list_any (λ row. asks_same interest row.1) f.held) g.faces

  -- The face is told that what it doesn't want any more is gone, each by its id, in key order; one that is told unasked
  -- goes on being told.
  unfoldable pub untell_to : Rows K → Face K → List (Message K)
  untell_to g f =
      if (hat_of_face g f).is_told_unasked f.region then []
      else flat_map (λ e. elim (told_id cmp e f.told) [ None ↦ [] | Some id ↦ message.UndeclareToken id None 0 ∷ [] ])
      (filter (λ e. not (wants matching f e)) (in_key_order cmp (map (λ row. row.1) f.told)))

  -- an interest ends upstream when no south-bound face holds it any more: zenoh's route_interest_final
  unfoldable pub end_upstream_to : Rows K → InterestRow K → Face K → List (Message K)
  end_upstream_to g interest f =
      if is_north f.region && not (is_held_south g interest)
      then map (λ row. message.InterestFinal row.0) (filter (λ row. asks_same interest row.1) f.locals)
      else []

  abbrev pub end_upstream : InterestRow K → Rows K → Sends K
  end_upstream interest g = to_each (end_upstream_to g interest) g.faces

  -- a held interest is finalised
  abbrev pub finalising : ℕ → ℕ → InterestRow K → List (Part K)
  finalising n id interest =
      Alter (with_face n (unheld id))
      ∷ Say (λ g. to_face n (untell_to g) g)
      ∷ Say (to_face n (final_of_both id interest))
      ∷ Say (end_upstream interest)
      ∷ []

-- ---- the end of a pending

abbrev pub ended : {K : Type 0} → ℕ → Face K → Face K
ended id f = record f { pendings = without_id id f.pendings }

-- a pending stands while its face is open and it is neither finalised nor expired
abbrev pub stands : {K : Type 0} → Rows K → ℕ × ℕ → Bool
stands g p = is_some_and (find_face p.0 g) (λ f. has_id p.1 f.pendings)

-- the ask had this pending, and has none any more
abbrev pub is_finished_by : {K : Type 0} → Rows K → ℕ → ℕ → Ask K → Bool
is_finished_by g n id ask = was_sent_as n id ask && not (list_any (stands g) ask.pendings)

unfoldable pub finish_to : {K : Type 0} → Rows K → ℕ → ℕ → Face K → List (Message K)
finish_to g n id f = map (λ row. message.DeclareFinal row.0) (filter (λ row. is_finished_by g n id row.1) f.asks)

-- the ask whose last pending has ended gets its final
abbrev pub finish : {K : Type 0} → ℕ → ℕ → Rows K → Sends K
finish n id g = to_each (finish_to g n id) g.faces

-- a pending ends
abbrev pub ending : {K : Type 0} → ℕ → ℕ → List (Part K)
ending n id = Alter (with_face n (ended id)) ∷ Say (finish n id) ∷ []

-- a final 0 finalises the initial interest of a mutual peer
abbrev pub initial_finalised : {K : Type 0} → ℕ → Face K → Face K
initial_finalised id f = record f { initial = if id == 0 then option_map (λ _. true) f.initial else f.initial }

-- a final from the north
abbrev pub finishing : {K : Type 0} → ℕ → ℕ → Face K → List (Part K)
finishing n id f = Alter (with_face n (initial_finalised id)) ∷ (if has_id id f.pendings then ending n id else [])

-- ---- opening a face

-- an initial interest isn't finalised at first
abbrev pub initial_of : WhatAmI → Region → Bound → Option Bool
initial_of mode region bound = if (hat_of mode region).has_initial region bound then Some false else None

abbrev pub face_opened : {K : Type 0} → Zid → WhatAmI → Region → Bound → ℕ → Rows K → Face K
face_opened zid whatami region bound first g =
    record (new_face (g.made + 1) region bound whatami zid first) { initial = initial_of g.mode region bound }

abbrev pub opened : {K : Type 0} → Zid → WhatAmI → Region → Bound → ℕ → Rows K → Rows K
opened zid whatami region bound first g = record g { made = g.made + 1; faces = g.faces ++ face_opened zid whatami region bound first g ∷ [] }

-- interests under the ids from next on
unfoldable pub interests_from : {K : Type 0} → ℕ → List (InterestRow K) → List (Message K)
interests_from next [] = []
interests_from next (i ∷ is) = message.Interest next i.mode i.options i.expr ∷ interests_from (next + 1) is

-- tokens under the ids from next on
unfoldable pub tokens_from : {K : Type 0} → ℕ → List K → List (Message K)
tokens_from next [] = []
tokens_from next (e ∷ es) = message.DeclareToken next e None 0 ∷ tokens_from (next + 1) es

module _ {K : Type 0} (cmp : K → K → Ordering) (matching : K → K → Bool) where
  -- a new face is told of what is there where it is told unasked, and not by trees
  abbrev pub is_greeted : Rows K → Face K → Bool
  is_greeted g f = not (is_routed g f) && (hat_of_face g f).is_told_unasked f.region

  -- what south-bound faces hold, each pair of expression and options once, asked for now and later
  unfoldable pub held_south : Rows K → List (InterestRow K)
  held_south g =
      in_key_order (interest_order cmp matching)
      (flat_map (λ f. if is_north f.region then [] else map (λ row. record row.1 { mode = CurrentFuture }) f.held) g.faces)

  -- the interests that a new face is sent
  abbrev pub opening_interests : Rows K → Face K → List (InterestRow K)
  opening_interests g f = if leads_up g.mode f then held_south g else []

  -- the tokens that a new face is told
  abbrev pub opening_tokens : Rows K → Face K → List K
  opening_tokens g f = if is_greeted g f then visible_expressions cmp g f.region else []

  -- a new mutual peer is sent the final of its initial interest
  abbrev pub opening_final : Face K → List (Message K)
  opening_final f = elim f.initial [ None ↦ [] | Some finalised ↦ message.DeclareFinal 0 ∷ [] ]

  abbrev pub opening : Zid → WhatAmI → Region → Bound → ℕ → Rows K → List (Part K)
  opening zid whatami region bound first g =
      Alter (opened zid whatami region bound first)
      ∷ Say (λ h. to_face (g.made + 1) (λ f. interests_from f.next (opening_interests h f)) h)
      ∷ Say (λ h. to_face (g.made + 1) (λ f. tokens_from f.next (opening_tokens h f)) h)
      ∷ Say (to_face (g.made + 1) opening_final)
      ∷ []
