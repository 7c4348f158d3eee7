use Rattle.std.proofs.Common.{◌∙◌}
use Rattle.zt_lookups.proofs.Listed.{region_found}
use Rattle.zt_lookups.proofs.regions.search_region.Goals as goal

pub returns : goal.returns
returns c =
    c.is_ok.ensures.value ∙ region_found c.args.region c.args.regions.now c.binary_search.result c.requires c.binary_search.ensures.bound c.binary_search.ensures.position
