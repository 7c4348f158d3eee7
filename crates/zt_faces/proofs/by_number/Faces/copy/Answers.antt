use Rattle.std.proofs.Common.{sym, ◌∙◌}
use Rattle.zt_faces.specs.Slots.{faces_in}
use Rattle.zt_faces.proofs.by_number.Faces.copy.Goals as goal

pub invariant_of-result : goal.invariant_of-result
invariant_of-result g c =
    let same = c.in_ok-copy_all.ensures ∙ c.as_slice.ensures.value in
    let asked = rw (c.iter.ensures, ← c.self.view_is) at c.in_ok-of_faces.ensures in
    rw (same, c.in_ok-copy_standings.ensures, c.in_ok-copy.ensures) (record {
      rising = c.self.invariant.rising;
      up_to = c.self.invariant.up_to;
      routers = c.self.invariant.routers;
      asked = asked;
      timed = c.self.invariant.timed;
    })
