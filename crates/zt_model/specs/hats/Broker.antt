-- The broker: it serves sessions, in the region Local, and clients, in client regions of the south. It shows them each
-- other's tokens, and tells each what it asks for. Zenoh's `hat/broker`.
use Rattle.std.specs.Prelude.{true, false, ◌&&◌, not}
use Rattle.zt_region.specs.declared.region.Bound.TheVariants.{North as NorthBound}
use Rattle.zt_region.specs.declared.region.Region.TheVariants.{Local}
use Rattle.zt_region.specs.declared.region.WhatAmI.TheVariants.{Client}
use Rattle.zt_region.specs.Region.{bound_eq, region_eq, whatami_eq}
use Rattle.zt_model.specs.hats.Rules.{Hat}

abbrev pub broker : Hat
broker = record {
  -- Local has sessions alone, and these are no transports
  fits = λ region remote bound. not (region_eq region Local) && (whatami_eq remote Client && bound_eq bound NorthBound);
  has_one_face = false;
  takes_interests = λ remote. true;
  has_initial = λ region bound. false;
  shares_tokens = true;
  is_told_unasked = λ region. false;
  undeclares_untold = true;
  goes_by_trees = false;
  -- a broker is never north
  leads_up = λ bound. false;
  asks_one = false;
  kind_of = λ remote. Client;
}
