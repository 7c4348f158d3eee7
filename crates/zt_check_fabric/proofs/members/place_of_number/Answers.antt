use Rattle.std.proofs.Common.{◌≡◌, ◌+◌, ◌-◌, Some, slice_index_or, arith, subst}
use Rattle.zt_model.specs.Lists.{nth}
use Rattle.zt_check_fabric.proofs.Numbered.{nth_at, nth_beyond, nth_zero}
use Rattle.zt_check_fabric.proofs.members.place_of_number.Goals as goal
use Rattle.zt_check_fabric.proofs.members.place_of_number.Goals.{then-number-eq0-via-then-number-eq0, then-number-eq0-via-else-number-eq0+then-number-members}

pub returns-then-number-eq0-clause-none : goal.returns-then-number-eq0-clause-none
returns-then-number-eq0-clause-none g c =
    elim c.then-number-eq0.branch [
      | then-number-eq0-via-then-number-eq0 w ↦ rw (w.if-number-eq0.true) (nth_zero c.args.members.now)
      | then-number-eq0-via-else-number-eq0+then-number-members w ↦ nth_beyond c.args.number c.args.members.now (omega arith)
    ]

pub returns-clause-found : goal.returns-clause-found
returns-clause-found g c member =
    let back : c.args.number - 1 + 1 ≡ c.args.number = omega arith in
    subst (λ n. nth n c.args.members.now ≡ Some (slice_index_or c.args.members.now (c.args.number - 1) member)) back (nth_at (c.args.number - 1) c.args.members.now member (omega arith))
