-- What the hats' rules come to, whatever the region: the four files together.
use Rattle.std.proofs.Common.{◌≡◌, ℕ, Bool, true, false, not, ◌&&◌, ◌||◌, if◌then◌else◌, [], ◌∷◌, filter, map, Some, None, refl, ap, ◌∙◌}
use Rattle.std.specs.List.{list_any, flat_map}
use Rattle.std.specs.declared.cmp.Ordering.{Ordering}
use Rattle.zt_region.specs.declared.region.Bound.{Bound}
use Rattle.zt_region.specs.declared.region.Bound.TheVariants.{North as NorthBound, South as SouthBound}
use Rattle.zt_region.specs.declared.region.Region.{Region}
use Rattle.zt_region.specs.declared.region.Region.TheVariants.{North, Local, South}
use Rattle.zt_region.specs.declared.region.WhatAmI.{WhatAmI}
use Rattle.zt_region.specs.declared.region.WhatAmI.TheVariants.{Router, Peer, Client}
use Rattle.zt_region.specs.Region.{bound_eq, is_north, region_eq, whatami_eq}
use Rattle.zt_protocol.specs.Interest.{is_current, is_future}
use Rattle.zt_protocol.specs.declared.interests.InterestMode.{InterestMode}
use Rattle.zt_protocol.specs.declared.messages.Message.TheVariants as message
use Rattle.zt_model.specs.Hat.{hat_of, north_hat}
use Rattle.zt_model.specs.Lists.{in_key_order}
use Rattle.zt_model.specs.Parts.{told_id}
use Rattle.zt_model.specs.Refusals.{asks_from_north, is_north_taken}
use Rattle.zt_model.specs.Routing.{awaits_initial, initial_of, is_asked, is_greeted, is_lowest_up, leads_up, untell_to}
use Rattle.zt_model.specs.Rows.{Face, Rows}
use Rattle.zt_model.specs.Visible.{shows}
use Rattle.zt_model.specs.Wants.{asks_token, covers, seeks, wants}

-- faces to the north are told unasked, and no others; of routers this is asked of none
pub told_unasked_north : (mode : WhatAmI) (region : Region) → (hat_of mode region).is_told_unasked region ≡ is_north region
told_unasked_north Router North = refl
told_unasked_north Peer North = refl
told_unasked_north Client North = refl
told_unasked_north mode Local = refl
told_unasked_north mode (South id Router) = refl
told_unasked_north mode (South id Peer) = refl
told_unasked_north mode (South id Client) = refl

-- the region alone tells whether its faces are shown each other's tokens
pub shares_tokens_by_region : (mode other : WhatAmI) (region : Region) → (hat_of mode region).shares_tokens ≡ (hat_of other region).shares_tokens
shares_tokens_by_region Router Router North = refl
shares_tokens_by_region Router Peer North = refl
shares_tokens_by_region Router Client North = refl
shares_tokens_by_region Peer Router North = refl
shares_tokens_by_region Peer Peer North = refl
shares_tokens_by_region Peer Client North = refl
shares_tokens_by_region Client Router North = refl
shares_tokens_by_region Client Peer North = refl
shares_tokens_by_region Client Client North = refl
shares_tokens_by_region mode other Local = refl
shares_tokens_by_region mode other (South id m) = refl

or_any : (b : Bool) → (b || true) ≡ true
or_any true = refl
or_any false = refl

-- what the face of another region declares is shown to each
pub shows_others : (mode : WhatAmI) (own source : Region) → region_eq source own ≡ false → shows mode own source ≡ true
shows_others mode own source apart = rw apart (or_any (hat_of mode own).shares_tokens)

-- routers stand to the north of router gateways, and in router regions of the south
pub goes_by_trees_north : (mode : WhatAmI) → (north_hat mode).goes_by_trees ≡ whatami_eq mode Router
goes_by_trees_north Router = refl
goes_by_trees_north Peer = refl
goes_by_trees_north Client = refl

pub has_one_face_is : (mode : WhatAmI) (region : Region) → (hat_of mode region).has_one_face ≡ (whatami_eq mode Client && is_north region)
has_one_face_is Router North = refl
has_one_face_is Peer North = refl
has_one_face_is Client North = refl
has_one_face_is Router Local = refl
has_one_face_is Peer Local = refl
has_one_face_is Client Local = refl
has_one_face_is Router (South id Router) = refl
has_one_face_is Peer (South id Router) = refl
has_one_face_is Client (South id Router) = refl
has_one_face_is Router (South id Peer) = refl
has_one_face_is Peer (South id Peer) = refl
has_one_face_is Client (South id Peer) = refl
has_one_face_is Router (South id Client) = refl
has_one_face_is Peer (South id Client) = refl
has_one_face_is Client (South id Client) = refl

pub initial_is : (mode : WhatAmI) (region : Region) (bound : Bound)
    → initial_of mode region bound ≡ (if whatami_eq mode Peer && (is_north region && bound_eq bound NorthBound) then Some false else None)
initial_is Router North bound = refl
initial_is Peer North bound = refl
initial_is Client North bound = refl
initial_is Router Local bound = refl
initial_is Peer Local bound = refl
initial_is Client Local bound = refl
initial_is Router (South id Router) bound = refl
initial_is Peer (South id Router) bound = refl
initial_is Client (South id Router) bound = refl
initial_is Router (South id Peer) bound = refl
initial_is Peer (South id Peer) bound = refl
initial_is Client (South id Peer) bound = refl
initial_is Router (South id Client) bound = refl
initial_is Peer (South id Client) bound = refl
initial_is Client (South id Client) bound = refl

-- south regions take remotes of their mode, which are bound north
pub fits_south : (mode : WhatAmI) (id : ℕ) (m remote : WhatAmI) (bound : Bound)
    → (hat_of mode (South id m)).fits (South id m) remote bound ≡ (whatami_eq remote m && bound_eq bound NorthBound)
fits_south mode id Router remote bound = refl
fits_south mode id Peer remote bound = refl
fits_south mode id Client remote bound = refl

-- to the north of a client gateway there is one face at most
pub north_taken_is : {K : Type 0} (region : Region) (g : Rows K)
    → is_north_taken region g ≡ (whatami_eq g.mode Client && (is_north region && list_any (λ f. is_north f.region) g.faces))
north_taken_is region g = taken_by g.mode region
  where
    taken_by : (mode : WhatAmI) (region : Region)
        → ((hat_of mode region).has_one_face && list_any (λ f. region_eq f.region region) g.faces)
        ≡ (whatami_eq mode Client && (is_north region && list_any (λ f. is_north f.region) g.faces))
    taken_by Router North = refl
    taken_by Peer North = refl
    taken_by Client North = refl
    taken_by Router Local = refl
    taken_by Peer Local = refl
    taken_by Client Local = refl
    taken_by Router (South id Router) = refl
    taken_by Peer (South id Router) = refl
    taken_by Client (South id Router) = refl
    taken_by Router (South id Peer) = refl
    taken_by Peer (South id Peer) = refl
    taken_by Client (South id Peer) = refl
    taken_by Router (South id Client) = refl
    taken_by Peer (South id Client) = refl
    taken_by Client (South id Client) = refl

-- to the north, interests are taken from mutual peers alone
pub asks_from_north_is : {K : Type 0} (g : Rows K) (f : Face K)
    → asks_from_north g f ≡ (is_north f.region && not (whatami_eq f.mode Peer && whatami_eq g.mode Peer))
asks_from_north_is g f = from_north g.mode f.region f.mode
  where
    from_north : (mode : WhatAmI) (region : Region) (remote : WhatAmI)
        → (is_north region && not ((hat_of mode region).takes_interests remote))
        ≡ (is_north region && not (whatami_eq remote Peer && whatami_eq mode Peer))
    from_north Router North Router = refl
    from_north Router North Peer = refl
    from_north Router North Client = refl
    from_north Peer North Router = refl
    from_north Peer North Peer = refl
    from_north Peer North Client = refl
    from_north Client North Router = refl
    from_north Client North Peer = refl
    from_north Client North Client = refl
    from_north mode Local remote = refl
    from_north mode (South id m) remote = refl

-- Whom a gateway asks, by its mode: a client its face to the north, whatever is asked; a peer all gateways above for what
-- comes later, and for what is there now alone the lowest of them, beside peers that are still starting; a router nobody.
abbrev pub asked_in : {K : Type 0} → WhatAmI → Rows K → InterestMode → Face K → Bool
asked_in Client g mode f = is_north f.region
asked_in Peer g mode f =
    if is_future mode then is_north f.region && bound_eq f.bound SouthBound
    else is_north f.region && (awaits_initial f || is_lowest_up g f)
asked_in Router g mode f = false

and_true : (b : Bool) → (b && true) ≡ b
and_true true = refl
and_true false = refl

and_false : (b : Bool) → (b && false) ≡ false
and_false true = refl
and_false false = refl

pub asked_is : {K : Type 0} (g : Rows K) (mode : InterestMode) (f : Face K) → is_asked g mode f ≡ asked_in g.mode g mode f
asked_is g mode f = by_mode g.mode
  where
    -- a peer asks one of what is there now, and all of what comes later
    of_peer : (future : Bool) (above one : Bool) → (if future || false then above else one) ≡ (if future then above else one)
    of_peer true above one = refl
    of_peer false above one = refl

    -- another hat asks all, whatever is asked
    of_all : (future : Bool) (above one : Bool) → (if future || true then above else one) ≡ above
    of_all true above one = refl
    of_all false above one = refl

    by_mode : (m : WhatAmI)
        → (if is_future mode || not (north_hat m).asks_one then is_north f.region && (north_hat m).leads_up f.bound
        else is_north f.region && (awaits_initial f || is_lowest_up g f))
        ≡ asked_in m g mode f
    by_mode Client =
        of_all (is_future mode) (is_north f.region && true) (is_north f.region && (awaits_initial f || is_lowest_up g f))
        ∙ and_true (is_north f.region)
    by_mode Peer =
        of_peer (is_future mode) (is_north f.region && bound_eq f.bound SouthBound) (is_north f.region && (awaits_initial f || is_lowest_up g f))
    by_mode Router =
        of_all (is_future mode) (is_north f.region && false) (is_north f.region && (awaits_initial f || is_lowest_up g f))
        ∙ and_false (is_north f.region)

-- whoever is asked is to the north
pub asked_north : {K : Type 0} (g : Rows K) (mode : InterestMode) (f : Face K) → is_asked g mode f ≡ true → is_north f.region ≡ true
asked_north g mode f asked = by_test (is_future mode || not (north_hat g.mode).asks_one) asked
  where
    both : (a b : Bool) → (a && b) ≡ true → a ≡ true
    both true b h = refl
    both false b h = h

    by_test : (test : Bool)
        → (if test then leads_up g.mode f else is_north f.region && (awaits_initial f || is_lowest_up g f)) ≡ true
        → is_north f.region ≡ true
    by_test true h = both (is_north f.region) ((north_hat g.mode).leads_up f.bound) h
    by_test false h = both (is_north f.region) (awaits_initial f || is_lowest_up g f) h

module _ {K : Type 0} (matching : K → K → Bool) where
  pub seeks_is : (mode : WhatAmI) (f : Face K) (e : K) → seeks matching mode f e ≡ (is_north f.region || wants matching f e)
  unfolding seeks
  seeks_is mode f e = ap (λ told. told || wants matching f e) (told_unasked_north mode f.region)

  pub covers_is : (mode : WhatAmI) (f : Face K) (e : K)
      → covers matching mode f e ≡ (is_north f.region || list_any (λ row. is_current row.1.mode && asks_token matching row.1 e) f.held)
  unfolding covers
  covers_is mode f e = ap (λ told. told || list_any (λ row. is_current row.1.mode && asks_token matching row.1 e) f.held) (told_unasked_north mode f.region)

module _ {K : Type 0} (cmp : K → K → Ordering) (matching : K → K → Bool) where
  -- the face is told that what it doesn't want any more is gone, unless it is to the north
  pub untell_is : (g : Rows K) (f : Face K)
      → untell_to cmp matching g f
      ≡ (if is_north f.region then []
      else flat_map (λ e. elim (told_id cmp e f.told) [ None ↦ [] | Some id ↦ message.UndeclareToken id None 0 ∷ [] ])
      (filter (λ e. not (wants matching f e)) (in_key_order cmp (map (λ row. row.1) f.told))))
  unfolding untell_to
  untell_is g f =
      ap
      (λ told. if told then []
      else flat_map (λ e. elim (told_id cmp e f.told) [ None ↦ [] | Some id ↦ message.UndeclareToken id None 0 ∷ [] ])
      (filter (λ e. not (wants matching f e)) (in_key_order cmp (map (λ row. row.1) f.told))))
      (told_unasked_north g.mode f.region)

  greeted_by : (mode : WhatAmI) (region : Region)
      → (not (hat_of mode region).goes_by_trees && (hat_of mode region).is_told_unasked region) ≡ (is_north region && not (whatami_eq mode Router))
  greeted_by Router North = refl
  greeted_by Peer North = refl
  greeted_by Client North = refl
  greeted_by mode Local = refl
  greeted_by mode (South id Router) = refl
  greeted_by mode (South id Peer) = refl
  greeted_by mode (South id Client) = refl

  -- a new face is told of what is there to the north of clients and peers
  pub greeted_is : (g : Rows K) (f : Face K) → is_greeted cmp matching g f ≡ (is_north f.region && not (whatami_eq g.mode Router))
  greeted_is g f = greeted_by g.mode f.region
