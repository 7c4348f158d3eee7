use Rattle.std.proofs.Common.{rules}
use Rattle.zt_shared_value.proofs.Allowed.{releases_at}
use Rattle.zt_shared_value.proofs.steps.release.Goals as goal

pub swap-requires : goal.swap-requires
swap-requires g c = (search rules, search rules, releases_at _ _ _ _ _ _ _ c.requires.may)
