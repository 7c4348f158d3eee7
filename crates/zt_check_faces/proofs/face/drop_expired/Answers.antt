use Rattle.std.proofs.Common.{◌-◌, rules, tests, not}
use Rattle.std.proofs.lemmas.Fn.{filter_same}
use Rattle.std.specs.Prelude.{nat_le}
use Rattle.zt_check_faces.proofs.face.drop_expired.Goals as goal

pub returns : goal.returns
returns c = filter_same _ (λ row. not (nat_le c.args.timeout (c.args.now - row.1.since))) _ (λ x b f h. (search (rules, tests), search (rules, tests))) _ _ c.retain.ensures.filtered
