use Rattle.std.proofs.Common.{Some}
use Rattle.zt_token_index.proofs.Changed.{entries-changed}
use Rattle.zt_token_index.proofs.Placed.{stands-put}
use Rattle.zt_token_index.proofs.index.put_faces.Goals as goal

pub returns-clause-with : goal.returns-clause-with
returns-clause-with g c =
    rw (← c.in_ok-copy.ensures)
    (record { at = entries-changed g.K.Ord.cmp g.met.K.Ord.matches_eq (Some c.args.told) c.in_ok-copy.field-0 c.args.faces.now.entries c.insert_full.new.self.entries c.in_ok-at.ensures.updates.0 })

pub returns-clause-at : goal.returns-clause-at
returns-clause-at g c =
    rw (← c.in_ok-copy.ensures, c.in_ok-at.ensures.entries, c.in_ok-at.ensures.index)
    (stands-put g.K.Ord.cmp g.met.K.Ord.matches_eq g.met.K.Key.laws.equal_is_same c.in_ok-copy.field-0 c.args.told c.args.faces.now.entries)
