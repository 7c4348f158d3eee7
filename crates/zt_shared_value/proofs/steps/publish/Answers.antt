use Rattle.std.proofs.Common.{rules}
use Rattle.zt_shared_value.proofs.Allowed.{publishes_at}
use Rattle.zt_shared_value.proofs.steps.publish.Goals as goal

pub fetch_add-requires : goal.fetch_add-requires
fetch_add-requires g c = (search rules, search rules, publishes_at _ _ _ _ _ _ _ c.requires.ahead)
