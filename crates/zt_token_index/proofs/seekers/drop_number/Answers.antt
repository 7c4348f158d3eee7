use Rattle.std.proofs.Common.{◌==◌, rules, tests, not}
use Rattle.std.proofs.lemmas.Fn.{filter_same}
use Rattle.zt_token_index.proofs.seekers.drop_number.Goals as goal

pub returns : goal.returns
returns c = filter_same _ (λ n. not (c.args.number == n)) _ (λ x b f h. (search (rules, tests), search (rules, tests))) _ _ c.retain.ensures.filtered
