use Rattle.std.proofs.Common.{◌≡◌, ◌+◌, rules, refl, ap, subst, sym, ◌∙◌}
use Rattle.zt_region.specs.Region.{is_north}
use Rattle.zt_model.specs.Rows.{Face}
use Rattle.zt_check_open_faces.specs.Places.{AreOpen}
use Rattle.zt_check_open_faces.proofs.Opening.{open_pushed}
use Rattle.zt_check_open_faces.proofs.Listing.{listed_kept, listed_pushed}
use Rattle.zt_check_open_faces.proofs.faces.ShownFaces.open.Goals as goal

pub invariant_of-self : goal.invariant_of-self
invariant_of-self g c =
    (c.self.invariant.0, listed_kept c.self.inside.owing c.list_if.new.owing c.self.inside.faces.items c.self.inside.faces.items c.list_if.ensures.kept refl c.self.invariant.1)

pub invariant_of-self-in_err-push : goal.invariant_of-self-in_err-push
invariant_of-self-in_err-push g c = (
  subst (λ fs. AreOpen g.K.Ord.cmp c.self.inside.made fs c.self.inside.declared c.self.inside.told) (sym c.in_err-push.ensures.items) c.self.invariant.0,
  listed_kept c.self.inside.owing c.list_if.new.owing c.self.inside.faces.items c.push.new.self.items c.in_ok-list_if.ensures.kept c.in_err-push.ensures.items c.self.invariant.1,
)

pub invariant_of-self-2 : goal.invariant_of-self-2
invariant_of-self-2 g c =
    let next : c.in-Some.number ≡ c.self.inside.made + 1 = search rules in
    let f = c.new-face.result in
    let north = c.is_north.ensures ∙ ap is_north (sym (ap (λ (h : Face g.row.K.Denot). h.region) c.new-face.ensures)) in (
      open_pushed g.K.Ord.cmp c.self.inside.made c.in-Some.number c.self.inside.declared c.self.inside.told f c.self.inside.faces.items c.push.new.self.items next (ap (λ (h : Face g.row.K.Denot). h.number) c.new-face.ensures) (ap (λ (h : Face g.row.K.Denot). h.live) c.new-face.ensures) (ap (λ (h : Face g.row.K.Denot). h.told) c.new-face.ensures) c.in_ok-push.ensures.items c.self.invariant.0,
      listed_pushed c.in-Some.number c.self.inside.owing c.list_if.new.owing f c.self.inside.faces.items c.push.new.self.items c.in_ok-list_if.ensures.kept (λ t. c.in_ok-list_if.ensures.has (north ∙ t)) (ap (λ (h : Face g.row.K.Denot). h.number) c.new-face.ensures) (ap (λ (h : Face g.row.K.Denot). h.held) c.new-face.ensures) c.in_ok-push.ensures.items c.self.invariant.1,
    )
