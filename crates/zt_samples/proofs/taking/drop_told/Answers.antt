use Rattle.std.proofs.Common.{rules, tests, not, ◌==◌}
use Rattle.std.proofs.lemmas.Fn.{filter_same}
use Rattle.zt_samples.proofs.taking.drop_told.Goals as goal

pub returns : goal.returns
returns g c = filter_same _ (λ row. not (c.args.session == row.session)) _ (λ x b f h. (search (rules, tests), search (rules, tests))) _ _ c.retain.ensures.filtered
