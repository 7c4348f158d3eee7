use Rattle.std.proofs.Common.{rules, tests}
use Rattle.std.proofs.lemmas.Fn.{filter_same}
use Rattle.zt_lookups.specs.Listed.{may_go_by_trees}
use Rattle.zt_lookups.proofs.regions.drop_others.Goals as goal

pub returns : goal.returns
returns c = filter_same _ may_go_by_trees _ (λ x b f h. (search (rules, tests), search (rules, tests))) _ _ c.retain.ensures.filtered
