use Rattle.std.proofs.Common.{rules, tests}
use Rattle.std.proofs.lemmas.Iterator.{YieldsList-from_slice}
use Rattle.std.proofs.lemmas.Iterator.Search.{any_from_yields_List}
use Rattle.zt_region.specs.South.{plain_filter, plain_peer, filter_holds}
use Rattle.zt_region.proofs.Lists.{list_any-map}
use Rattle.zt_region.proofs.matching.does_one_hold.Goals as goal

pub returns : goal.returns
returns c =
    rw list_any-map (any_from_yields_List (λ f. filter_holds (plain_filter f) (plain_peer c.args.peer.now)) _ _ _ c.any.ensures.ran
    (YieldsList-from_slice c.args.filters.now cc) (λ x b q k. search (rules, tests)))
