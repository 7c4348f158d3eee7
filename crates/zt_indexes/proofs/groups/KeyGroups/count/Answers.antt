use Rattle.std.proofs.Common.{[], ap, length, unwrap_or, ◌∙◌}
use Rattle.zt_indexes.proofs.Hashed.{at-number}
use Rattle.zt_indexes.proofs.groups.KeyGroups.count.Goals as goal

pub returns-in-Some : goal.returns-in-Some
returns-in-Some g c =
    rw (← c.self.view_is)
    (c.len.ensures ∙ ap length (ap (λ found. unwrap_or found []) c.in-Some.ensures.value ∙ at-number c.args.number c.self.inside.groups.entries))

pub returns-in-None : goal.returns-in-None
returns-in-None g c =
    rw (← c.self.view_is)
    (ap length (ap (λ found. unwrap_or found []) c.in-None.ensures.value ∙ at-number c.args.number c.self.inside.groups.entries))
