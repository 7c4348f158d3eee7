use Rattle.std.proofs.Common.{rules, tests, not}
use Rattle.std.proofs.lemmas.Fn.{filter_same}
use Rattle.zt_model.specs.Lists.{same}
use Rattle.zt_check_faces.proofs.told.drop_expression.Goals as goal

pub returns : goal.returns
returns g c = filter_same _ (λ row. not (same g.K.Ord.cmp c.args.expr.now row.1)) _ (λ x b f h. (search (rules, tests), search (rules, tests))) _ _ c.retain.ensures.filtered
