use Rattle.std.proofs.Common.{Some}
use Rattle.zt_indexes.proofs.Hashed.{entries-changed}
use Rattle.zt_interest_index.proofs.keyed.put_rows.Goals as goal

pub returns-clause-with : goal.returns-clause-with
returns-clause-with g c =
    rw (← c.in_ok-copy.ensures)
    (record { at = entries-changed g.K.Ord.cmp g.met.K.Ord.matches_eq (Some c.args.rows) c.in_ok-copy.field-0 c.args.keyed.now.entries c.insert.new.self.entries c.in_ok-insert.ensures.updates.0 })
