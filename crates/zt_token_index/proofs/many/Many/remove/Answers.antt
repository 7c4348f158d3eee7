use Rattle.std.proofs.Common.{sym, ◌∙◌}
use Rattle.std.specs.Cmp.{nat_cmp_total}
use Rattle.std.specs.Ordering.{nat_cmp}
use Rattle.zt_ordered.specs.Placing.{without-gap, without-place}
use Rattle.zt_token_index.proofs.Pairs.{without-is}
use Rattle.zt_token_index.proofs.many.Many.remove.Goals as goal

pub returns-in-Ok : goal.returns-in-Ok
returns-in-Ok c =
    let there = sym (rw c.as_slice.ensures at c.in-Ok.ensures.place) in
    c.tidy.ensures
    ∙ c.remove_at.ensures
    ∙ sym (without-place nat_cmp nat_cmp_total c.args.face c.args.self.now c.in-Ok.place c.requires there)
    ∙ without-is c.args.face c.args.self.now

pub returns-in_default : goal.returns-in_default
returns-in_default c =
    let gap = sym (rw c.as_slice.ensures at c.in_default.ensures.place) in
    sym (without-gap nat_cmp nat_cmp_total c.args.face c.args.self.now c.in_default.field-0 c.requires gap) ∙ without-is c.args.face c.args.self.now
