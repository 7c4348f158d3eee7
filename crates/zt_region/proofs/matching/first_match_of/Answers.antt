use Rattle.std.proofs.Common.{rules, tests}
use Rattle.std.proofs.lemmas.Iterator.{YieldsList-from_slice}
use Rattle.std.proofs.lemmas.Iterator.Search.{position_from_yields_List}
use Rattle.zt_region.specs.South.{plain_subregion, plain_peer, subregion_matches}
use Rattle.zt_region.proofs.Lists.{position-map}
use Rattle.zt_region.proofs.matching.first_match_of.Goals as goal

pub returns : goal.returns
returns c =
    rw (position-map (λ s. subregion_matches s (plain_peer c.args.peer.now)) plain_subregion c.args.subregions.now)
    (position_from_yields_List (λ s. subregion_matches (plain_subregion s) (plain_peer c.args.peer.now)) _ _ _ c.position.ensures.ran
    (YieldsList-from_slice c.args.subregions.now cc) (λ x b q k. search (rules, tests)))
