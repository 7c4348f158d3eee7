use Rattle.std.proofs.Common.{rules}
use Rattle.zt_shared_value.proofs.Allowed.{counts_at}
use Rattle.zt_shared_value.proofs.steps.count.Goals as goal

pub load-requires : goal.load-requires
load-requires g c = (search rules, search rules, counts_at _ _ _ _ _ _ _ c.requires.one)
