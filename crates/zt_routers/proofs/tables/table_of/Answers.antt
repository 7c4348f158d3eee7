use Rattle.std.proofs.Common.{ap, ◌∙◌}
use Rattle.std.proofs.lemmas.Result.{IfOk-weaker}
use Rattle.zt_model.specs.Trees.{counted_table}
use Rattle.zt_routers.proofs.tables.table_of.Goals as goal

pub returns-in-Some : goal.returns-in-Some
returns-in-Some g c = IfOk-weaker c.copy.result _ _ (λ table is. ap counted_table is ∙ c.in-Some.ensures.some) c.copy.ensures
