-- What sets one hat off from another: eleven rules. A hat is the strategy of one region; `Broker`, `Client`, `Peer` and
-- `Router` beside this file give these rules for each of the four, in this order. A rule takes what it needs to know of
-- a face: its region, since peers and routers are to the north or to the south, and the mode or the bound of its remote.
-- Beside each stands where Zenoh has it, in the folder `hat` if no other is named.
use Rattle.std.specs.Prelude.{Bool}
use Rattle.zt_region.specs.declared.region.Bound.{Bound}
use Rattle.zt_region.specs.declared.region.Region.{Region}
use Rattle.zt_region.specs.declared.region.WhatAmI.{WhatAmI}

pub record Hat : Type 0 where
  -- ---- who is there

  -- A remote of this mode and bound may have a face of the region: the assertions of each `mod.rs` in `new` and
  -- `new_transport_unicast_face`, and `compute_region_of` of `runtime/region.rs`.
  pub fits : Region → WhatAmI → Bound → Bool
  -- The region has one face at most: an assertion of `client/mod.rs`.
  pub has_one_face : Bool
  -- Interests of a remote of this mode are taken: the assertions of each `interests.rs`, asked by `interest` of
  -- `dispatcher/interests.rs`.
  pub takes_interests : WhatAmI → Bool
  -- A new face has an initial interest, by its region and its remote's bound: `do_initial_interest` of `peer/mod.rs`.
  pub has_initial : Region → Bound → Bool
  -- ---- what its faces are told

  -- They are shown each other's tokens: `propagate_token`, which in `broker/token.rs` doesn't ask who owns the source.
  pub shares_tokens : Bool
  -- They are told of each token that they are shown, from their opening on, whether they ask or not:
  -- `maybe_propagate_token` and `repropagate_tokens`.
  pub is_told_unasked : Region → Bool
  -- A face that asks for a token and wasn't told of it is told all the same that it is gone, by expression: the second
  -- branch of `maybe_unpropagate_token`.
  pub undeclares_untold : Bool
  -- Tokens go along trees instead, each from its router, with node ids; what the gateway shows there are its own rows:
  -- the whole of `router/token.rs`, and `map_routing_context`.
  pub goes_by_trees : Bool
  -- ---- where interests of the south go, if the region is north

  -- To the faces whose remotes have this bound: `route_interest`, `repropagate_interests` and `route_interest_final`.
  pub leads_up : Bound → Bool
  -- Where they ask for what is there now alone, to the lowest of these, and to the faces that await their initial final:
  -- `route_interest` of `peer/interests.rs`, in the mode `Current`.
  pub asks_one : Bool
  -- ---- how its sources are listed

  -- A face that declares a token is listed as this, by its remote's mode: `sourced_tokens`.
  pub kind_of : WhatAmI → WhatAmI
