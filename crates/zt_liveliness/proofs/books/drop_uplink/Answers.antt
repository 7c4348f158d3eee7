use Rattle.std.proofs.Common.{rules, tests, not, ◌==◌}
use Rattle.std.proofs.lemmas.Fn.{filter_same}
use Rattle.zt_liveliness.proofs.books.drop_uplink.Goals as goal

pub returns : goal.returns
returns c = filter_same _ (λ uplink. not (c.args.number == uplink)) _ (λ x b f h. (search (rules, tests), search (rules, tests))) _ _ c.retain.ensures.filtered
