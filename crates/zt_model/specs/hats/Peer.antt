-- Peers speak to each other. To the north a peer tells mutual peers and gateways above of all tokens, unasked, and asks
-- the gateways above; to the south it is itself the gateway of its peers, and tells each what it asks for. Zenoh's
-- `hat/peer`.
use Rattle.std.specs.Prelude.{true, false, ◌&&◌, ◌||◌, if◌then◌else◌}
use Rattle.zt_region.specs.declared.region.Bound.TheVariants.{North as NorthBound, South as SouthBound}
use Rattle.zt_region.specs.declared.region.WhatAmI.TheVariants.{Peer}
use Rattle.zt_region.specs.Region.{bound_eq, is_north, whatami_eq}
use Rattle.zt_model.specs.hats.Rules.{Hat}

abbrev pub peer : Hat
peer = record {
  fits = λ region remote bound.
      if is_north region then bound_eq bound SouthBound || whatami_eq remote Peer
      else whatami_eq remote Peer && bound_eq bound NorthBound;
  has_one_face = false;
  takes_interests = λ remote. whatami_eq remote Peer;
  -- two mutual peers: each is north to the other
  has_initial = λ region bound. is_north region && bound_eq bound NorthBound;
  shares_tokens = false;
  is_told_unasked = λ region. is_north region;
  undeclares_untold = true;
  goes_by_trees = false;
  leads_up = λ bound. bound_eq bound SouthBound;
  asks_one = true;
  kind_of = λ remote. Peer;
}
