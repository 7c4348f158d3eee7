use Rattle.std.proofs.Common.{IfNone, IfSome, [], nat_eq, subst, ◌≡◌}
use Rattle.std.specs.Map.{lookup}
use Rattle.std.specs.Option.{option_eq}
use Rattle.zt_indexes.proofs.Hashed.{at-number, found-none, found-some}
use Rattle.zt_indexes.proofs.groups.KeyGroups.get.Goals as goal

pub returns-clause-some : goal.returns-clause-some
returns-clause-some g c =
    let groups = c.self.inside.groups.entries in
    rw (← c.self.view_is)
    (subst (λ at. IfSome c.get.result (λ keys. keys.now ≡ at)) (at-number c.args.number groups) (found-some c.get.result (lookup (option_eq nat_eq c.args.number) groups) c.get.ensures.value))

pub returns-clause-none : goal.returns-clause-none
returns-clause-none g c =
    let groups = c.self.inside.groups.entries in
    rw (← c.self.view_is)
    (subst (λ at. IfNone c.get.result (at ≡ [])) (at-number c.args.number groups) (found-none c.get.result (lookup (option_eq nat_eq c.args.number) groups) c.get.ensures.value))
