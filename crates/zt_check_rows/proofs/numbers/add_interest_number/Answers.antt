use Rattle.std.proofs.Common.{sym, ◌∙◌}
use Rattle.zt_check_rows.proofs.Counted.{number_by}
use Rattle.zt_check_rows.proofs.numbers.add_interest_number.Goals as goal

pub returns : goal.returns
returns g c = number_by g.K.Ord.cmp c.args.interest.now c.args.known.now.items (sym c.asks_aggregate.ensures ∙ c.if-asks_aggregate.false)
