use Rattle.std.proofs.Common.{◌==◌, rules, tests, not}
use Rattle.std.proofs.lemmas.Fn.{filter_same}
use Rattle.zt_check_faces.proofs.by_id.remove.Goals as goal

pub returns : goal.returns
returns g c = filter_same _ (λ row. not (c.args.id == row.0)) _ (λ x b f h. (search (rules, tests), search (rules, tests))) _ _ c.retain.ensures.filtered
