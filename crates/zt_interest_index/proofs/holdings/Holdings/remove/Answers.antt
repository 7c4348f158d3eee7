use Rattle.std.proofs.Common.{not}
use Rattle.zt_interest_index.specs.Holdings.{is_of}
use Rattle.zt_interest_index.proofs.Alike.{alike-kept}
use Rattle.zt_interest_index.proofs.Rising.{rising-kept}
use Rattle.zt_interest_index.proofs.holdings.Holdings.remove.Goals as goal

pub invariant_of-self : goal.invariant_of-self
invariant_of-self g c =
    let rows = c.self.inside.rows.items in (
      (λ alike. rw c.drop_in.ensures (alike-kept (λ row. not (is_of c.args.face c.args.id row)) rows (c.self.invariant.0 alike))),
      (λ rising. rw c.drop_in.ensures (rising-kept c.args.face c.args.id rows (c.self.invariant.1 rising))),
    )
