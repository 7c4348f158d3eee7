use Rattle.std.proofs.Common.{rules, tests, not}
use Rattle.std.proofs.lemmas.Fn.{filter_same}
use Rattle.zt_interest_index.specs.Holdings.{is_of}
use Rattle.zt_interest_index.proofs.holdings.drop_anywhere.Goals as goal

pub returns : goal.returns
returns g c = filter_same _ (λ row. not (is_of c.args.face c.args.id row)) _ (λ x b f h. (search (rules, tests), search (rules, tests))) _ _ c.retain.ensures.filtered
