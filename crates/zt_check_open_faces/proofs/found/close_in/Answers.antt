use Rattle.std.proofs.Common.{◌==◌, rules, tests, not}
use Rattle.std.proofs.lemmas.Fn.{filter_same}
use Rattle.zt_check_open_faces.proofs.found.close_in.Goals as goal

pub returns : goal.returns
returns g c = filter_same _ (λ f. not (c.args.number == f.number)) _ (λ x b f h. (search (rules, tests), search (rules, tests))) _ _ c.retain.ensures.filtered
