use Rattle.std.proofs.Common.{◌∙◌}
use Rattle.zt_keys.proofs.Pieces.{stops-after}
use Rattle.zt_keys.proofs.Scan.{nonempty_from_test}
use Rattle.zt_keys.proofs.walk.stops.Goals as goal

pub returns-else-is_empty : goal.returns-else-is_empty
returns-else-is_empty c =
    c.is_some.ensures ∙ stops-after c.args.rest.now c.after_double.result (nonempty_from_test _ _ c.is_empty.ensures c.if-is_empty.false) c.after_double.ensures.rest
