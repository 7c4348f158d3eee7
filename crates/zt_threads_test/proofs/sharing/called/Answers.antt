use Rattle.std.proofs.Common.{◌≡◌, ap, ◌∙◌}
use Rattle.zt_threads_test.proofs.sharing.called.Goals as goal

pub returns : goal.returns
returns g c = ap (λ pass. pass.table) c.in_ok-receipt.ensures.ok.adds.rest ∙ c.requires.own
