use Rattle.std.proofs.Common.{refl}
use Rattle.zt_rows.proofs.Mapped.{last-ordered, popped}
use Rattle.zt_rows.proofs.rows.move_all.Goals as goal

pub move_row-requires : goal.move_row-requires
move_row-requires g c =
    last-ordered c.loop-last.places.items c.in-Some.last.now c.loop-last.mapped.entries _ c.loop-last.places.len c.loop-last.places.ok.0 (c.in-Some.ensures.variant.0 refl) c.in-Some.ensures.value c.loop-last.invariant.0 c.requires.ordered

pub loop-last-preserved-in_ok-move_row : goal.loop-last-preserved-in_ok-move_row
loop-last-preserved-in_ok-move_row g c =
    popped c.loop-last.places.items c.pop.new.self.items c.in-Some.last.now c.move_row.new.place c.loop-last.mapped.entries c.move_row.new.mapped.entries _ c.loop-last.places.len c.loop-last.places.ok.0 (c.in-Some.ensures.variant.0 refl)
    c.in-Some.ensures.value c.loop-last.invariant c.pop.ensures.rest c.in_ok-move_row.ensures.moved

pub loop-last-preserved-in_ok-move_row-2 : goal.loop-last-preserved-in_ok-move_row-2
loop-last-preserved-in_ok-move_row-2 g c =
    popped c.loop-last.places.items c.pop.new.self.items c.in-Some.last.now c.move_row.new.place c.loop-last.mapped.entries c.move_row.new.mapped.entries _ c.loop-last.places.len c.loop-last.places.ok.0 (c.in-Some.ensures.variant.0 refl)
    c.in-Some.ensures.value c.loop-last.invariant c.pop.ensures.rest c.in_ok-move_row.ensures.moved
