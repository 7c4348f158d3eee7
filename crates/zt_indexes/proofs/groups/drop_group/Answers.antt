use Rattle.std.proofs.Common.{None}
use Rattle.zt_indexes.specs.Grouped.{number_cmp}
use Rattle.zt_indexes.proofs.Hashed.{entries-changed, number-ties}
use Rattle.zt_indexes.proofs.groups.drop_group.Goals as goal

pub returns : goal.returns
returns g c = record { at = entries-changed number_cmp number-ties None c.args.number c.args.groups.now.entries c.remove.new.self.entries c.remove.ensures.updates.0 }
