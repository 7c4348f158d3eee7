use Rattle.std.proofs.Common.{ℕ, ap, ◌∙◌}
use Rattle.std.specs.FinMap.Entries.{put}
use Rattle.std.specs.Ordering.{nat_cmp}
use Rattle.zt_rows.proofs.ById.{copied_more}
use Rattle.zt_face.proofs.copying.copy_rows.Goals as goal

pub loop-id-preserved : goal.loop-id-preserved
loop-id-preserved g c =
    let row : ℕ × g.row.T.Denot = (c.in-Some.id.now, c.in-Some.row.now) in
    copied_more c.loop-id.copies c.loop-id.id-iterator c.next.new.self c.args.rows.now c.put.new.self row c.iter-id-items.ensures.ordered c.loop-id.invariant c.in-Some.ensures.steps
    (c.in_ok-put.ensures.ok ∙ ap (λ x. put nat_cmp row.0 x c.loop-id.copies) c.in_ok-duplicate.ensures)
