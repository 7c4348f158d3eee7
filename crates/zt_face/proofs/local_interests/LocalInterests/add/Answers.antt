use Rattle.std.proofs.Common.{◌≡◌, ap, subst, ◌∙◌}
use Rattle.std.specs.FinMap.Entries.{put}
use Rattle.std.specs.HashMap.{get}
use Rattle.std.specs.Ordering.{nat_cmp}
use Rattle.zt_face.specs.Locals.{asked_eq}
use Rattle.zt_rows.specs.ById.{IsInOrder}
use Rattle.zt_face.proofs.Found.{found_added, found_same}
use Rattle.zt_rows.proofs.Found.{put_undone}
use Rattle.zt_model.specs.Lists.{at_id, without_id}
use Rattle.zt_face.proofs.local_interests.LocalInterests.add.Goals as goal

pub invariant_of-self-in-Ok : goal.invariant_of-self-in-Ok
invariant_of-self-in-Ok g c =
    let rows = c.self.inside.rows in
    let placed : c.put.new.self ≡ put nat_cmp c.args.id c.args.interest rows = c.in_ok-put.ensures.ok in
    rw placed
    (found_added g.K.Ord.cmp g.K.Key.matching (get (asked_eq g.K.PartialEq.eq) c.self.inside.ids) rows c.self.invariant g.met.K.Ord.total g.met.K.Ord.matches_eq
    _ c.args.id c.args.interest (ap (at_id c.args.id) c.self.view_is ∙ c.requires) (subst IsInOrder placed c.put.ensures.ordered) (rw c.in_ok-asked.ensures at c.in-Ok.ensures.ok))

pub invariant_of-self-in-Err : goal.invariant_of-self-in-Err
invariant_of-self-in-Err g c =
    let rows = c.self.inside.rows in
    rw (c.remove.ensures.rest ∙ ap (without_id c.args.id) c.in_ok-put.ensures.ok ∙ put_undone c.args.id c.args.interest rows (ap (at_id c.args.id) c.self.view_is ∙ c.requires))
    (found_same g.K.Ord.cmp g.K.Key.matching (get (asked_eq g.K.PartialEq.eq) c.self.inside.ids) rows c.self.invariant _ c.in-Err.ensures.err)

pub returns-in-Err-clause-err : goal.returns-in-Err-clause-err
returns-in-Err-clause-err g c =
    c.remove.ensures.rest ∙ ap (without_id c.args.id) c.in_ok-put.ensures.ok ∙ put_undone c.args.id c.args.interest c.self.inside.rows (ap (at_id c.args.id) c.self.view_is ∙ c.requires) ∙ c.self.view_is
