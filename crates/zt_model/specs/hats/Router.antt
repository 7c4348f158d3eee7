-- Routers speak to each other by trees, whatever is asked: a router asks nobody, and takes no interest from a router.
-- Zenoh's `hat/router`.
use Rattle.std.specs.Prelude.{true, false, ◌&&◌, ◌||◌}
use Rattle.zt_region.specs.declared.region.Bound.TheVariants.{North as NorthBound}
use Rattle.zt_region.specs.declared.region.WhatAmI.TheVariants.{Router}
use Rattle.zt_region.specs.Region.{bound_eq, is_north, whatami_eq}
use Rattle.zt_model.specs.hats.Rules.{Hat}

abbrev pub router : Hat
router = record {
  fits = λ region remote bound. whatami_eq remote Router && (is_north region || bound_eq bound NorthBound);
  has_one_face = false;
  takes_interests = λ remote. false;
  has_initial = λ region bound. false;
  shares_tokens = false;
  -- what its faces hear goes along trees, so this is asked of no face; it is answered as for peers
  is_told_unasked = λ region. is_north region;
  undeclares_untold = false;
  goes_by_trees = true;
  leads_up = λ bound. false;
  asks_one = false;
  kind_of = λ remote. Router;
}
