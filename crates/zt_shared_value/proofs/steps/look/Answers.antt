use Rattle.std.proofs.Common.{rules}
use Rattle.zt_shared_value.proofs.Allowed.{looks_at}
use Rattle.zt_shared_value.proofs.steps.look.Goals as goal

pub load-requires : goal.load-requires
load-requires g c = (search rules, search rules, looks_at _ _ _ _ _ _ _ c.requires.one)
