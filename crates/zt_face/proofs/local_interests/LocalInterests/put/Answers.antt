use Rattle.std.proofs.Common.{None, ap, eq-eqb, if◌then◌else◌, refl, ◌∙◌}
use Rattle.std.proofs.lemmas.Result.{on_ok_weaker}
use Rattle.std.specs.FinMap.Entries.{put}
use Rattle.std.specs.Ordering.{nat_cmp}
use Rattle.zt_rows.proofs.Found.{at_without, put_again}
use Rattle.zt_model.specs.Lists.{at_id}
use Rattle.zt_face.proofs.local_interests.LocalInterests.put.Goals as goal

pub add-requires : goal.add-requires
add-requires g c =
    let id = c.args.id in
    let rows = c.args.self.now in
    ap (at_id id) c.remove.ensures.rest ∙ at_without id id rows ∙ ap (λ b. if b then None else at_id id rows) (eq-eqb id id refl)

pub returns-clause-ok : goal.returns-clause-ok
returns-clause-ok g c =
    on_ok_weaker c.add.result
    (λ added. added ∙ ap (put nat_cmp c.args.id c.args.interest) c.remove.ensures.rest ∙ put_again c.args.id c.args.interest c.args.self.now c.remove.ensures.ordered)
    c.add.ensures.ok
