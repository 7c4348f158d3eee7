use Rattle.std.proofs.Common.{sym}
use Rattle.zt_check_faces.proofs.told.finds_pair.Goals as goal

pub returns-then-is_found : goal.returns-then-is_found
returns-then-is_found g c = sym (c.is_found.ensures c.if-is_found.true)
