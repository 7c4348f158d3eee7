use Rattle.zt_check_rows.proofs.Counted.{number_none}
use Rattle.zt_check_rows.proofs.numbers.add_given_number.Goals as goal

pub returns-in-None : goal.returns-in-None
returns-in-None g c = rw c.in-None.is (number_none g.K.Ord.cmp c.args.known.now.items)
