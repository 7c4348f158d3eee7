use Rattle.std.proofs.Common.{rules, tests, not, ◌==◌}
use Rattle.std.proofs.lemmas.Fn.{filter_same}
use Rattle.zt_calls.proofs.speech.spare.Goals as goal

pub returns : goal.returns
returns g c = filter_same _ (λ send. not (c.args.face == send.0)) _ (λ x b f h. (search (rules, tests), search (rules, tests))) _ _ c.retain.ensures.filtered
