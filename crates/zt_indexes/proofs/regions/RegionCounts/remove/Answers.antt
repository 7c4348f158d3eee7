use Rattle.std.proofs.Common.{subst}
use Rattle.zt_indexes.proofs.OneEach.{each-none, each-single}
use Rattle.zt_indexes.specs.Counted.{HasOneEach}
use Rattle.zt_indexes.specs.Held.{counts_of}
use Rattle.zt_indexes.proofs.regions.RegionCounts.remove.Goals as goal
use Rattle.zt_indexes.proofs.regions.RegionCounts.remove.Goals.{in-Empty, in-One, in-More}

pub invariant_of-self : goal.invariant_of-self
invariant_of-self c =
    elim c.match-self.branch [
      | in-Empty w ↦ rw (w.self-inside-is, w.in-Empty.is) each-none
      | in-One w ↦ rw w.self-inside-is (each-single _)
      | in-More w ↦
          let each = subst (λ counts. HasOneEach (counts_of counts)) w.in-More.is c.self.invariant in
          rw w.self-inside-is (w.remove_in.ensures.each (rw w.deref_mut.ensures.value each))
    ]
