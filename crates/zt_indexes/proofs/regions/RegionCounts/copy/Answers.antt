use Rattle.std.proofs.Common.{ap, ap₂, subst, sym, ◌∙◌}
use Rattle.zt_indexes.proofs.OneEach.{each-none, each-single}
use Rattle.zt_indexes.specs.Counted.{HasOneEach}
use Rattle.zt_indexes.specs.Held.{counts_of}
use Rattle.zt_indexes.proofs.regions.RegionCounts.copy.Goals as goal
use Rattle.zt_indexes.proofs.regions.RegionCounts.copy.Goals.{in-Empty, in-One, in-More+in_ok-to_vec-in-More+in_ok-new-in-More}

pub invariant_of-result : goal.invariant_of-result
invariant_of-result c =
    elim c.match-self.branch [
      | in-Empty w ↦ rw w.counts-is each-none
      | in-One w ↦ rw w.counts-is (each-single _)
      | in-More+in_ok-to_vec-in-More+in_ok-new-in-More w ↦
          let each = subst (λ counts. HasOneEach (counts_of counts)) w.in-More.is c.self.invariant in
          let equal = w.in_ok-to_vec-in-More.ensures.items_if_clones_equal (λ x y parts. ap₂ (λ a b. (a, b)) parts.0 parts.1) in
          let same = ap (λ rows. rows.items) w.in_ok-new-in-More.ensures.ok ∙ equal ∙ w.deref-in-More.ensures.value ∙ ap (λ rows. rows.items) w.deref.ensures in
          rw w.counts-is (subst HasOneEach (sym same) each)
    ]
