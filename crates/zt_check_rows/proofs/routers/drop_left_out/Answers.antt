use Rattle.std.proofs.Common.{rules, tests, not}
use Rattle.std.proofs.lemmas.Fn.{filter_same}
use Rattle.zt_model.specs.Trees.{counted_table, is_left_out}
use Rattle.zt_check_rows.proofs.routers.drop_left_out.Goals as goal

pub returns : goal.returns
returns g c = filter_same _ (λ row. not (is_left_out g.K.Ord.cmp c.args.region (counted_table c.args.table.now) row)) _ (λ x b f h. (search (rules, tests), search (rules, tests))) _ _ c.retain.ensures.filtered
