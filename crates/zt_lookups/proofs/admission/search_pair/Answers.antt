use Rattle.std.proofs.Common.{◌∙◌}
use Rattle.zt_lookups.proofs.Pairs.{pair_found}
use Rattle.zt_lookups.proofs.admission.search_pair.Goals as goal

pub returns : goal.returns
returns c =
    c.is_ok.ensures.value ∙ pair_found c.args.src c.args.dst c.args.pairs.now c.binary_search.result c.requires c.binary_search.ensures.bound c.binary_search.ensures.position
