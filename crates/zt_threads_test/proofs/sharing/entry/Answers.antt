use Rattle.std.proofs.Common.{◌≡◌, ap, ◌∙◌}
use Rattle.zt_threads_test.proofs.sharing.entry.Goals as goal

pub returns : goal.returns
returns g c = ap (λ pass. pass.table) c.read_entry.ensures.read.looked ∙ c.requires
