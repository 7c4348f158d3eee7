use Rattle.std.proofs.Common.{◌==◌, ap, length, not, refl, subst, ◌∙◌}
use Rattle.std.specs.HashMap.{get}
use Rattle.std.specs.List.Sorted.{IsStrictlySortedBy}
use Rattle.std.specs.Ordering.{nat_cmp}
use Rattle.zt_face.specs.Ids.{ids_under}
use Rattle.zt_face.specs.Locals.{asked_by, asked_eq}
use Rattle.zt_face.proofs.Found.{found_ids}
use Rattle.zt_rows.proofs.Found.{some_pass}
use Rattle.zt_model.specs.Routing.{asks_same}
use Rattle.zt_face.proofs.local_interests.LocalInterests.has_same.Goals as goal

pub returns : goal.returns
returns g c =
    let sets = get (asked_eq g.K.PartialEq.eq) c.self.inside.ids in
    let asked = asked_by c.args.interest.now in
    let rising = subst (λ q. IsStrictlySortedBy nat_cmp (ids_under (sets q))) c.asked.ensures c.has_ids.ensures.rising in
    let same = found_ids g.K.Ord.cmp g.K.Key.matching sets c.self.inside.rows c.self.invariant (ids_under (sets asked)) asked refl rising in
    rw (← c.self.view_is)
    (c.has_ids.ensures.some
    ∙ ap (λ q. not (length (ids_under (sets q)) == 0)) c.asked.ensures
    ∙ some_pass (ids_under (sets asked)) (λ row. asks_same g.K.Ord.cmp g.K.Key.matching c.args.interest.now row.1) c.self.inside.rows same)
