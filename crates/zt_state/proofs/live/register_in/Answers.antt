use Rattle.std.proofs.Common.{◌≡◌, ◌==◌, List, flat_map, if◌then◌else◌, map, subst, sym}
use Rattle.std.proofs.lemmas.Result.{on_ok_weaker}
use Rattle.zt_indexes.specs.Recounts.{Recounts}
use Rattle.zt_model.specs.Rows.{Face}
use Rattle.zt_model.specs.Telling.{registered}
use Rattle.zt_model.specs.Visible.{rows_of_face}
use Rattle.zt_state.specs.Indexed.{HasLiveInOrder}
use Rattle.zt_state.proofs.Recounted.{all-found, face-recounted, not-found}
use Rattle.zt_faces.proofs.Rising.{none-changed}
use Rattle.zt_state.proofs.live.register_in.Goals as goal

pub returns-in_default-clause-faces : goal.returns-in_default-clause-faces
returns-in_default-clause-faces g c =
    let number = λ (x : Face g.row.K.Denot). x.number in
    sym (none-changed number c.args.face (registered c.args.id c.args.expr.now) c.args.faces.now (not-found number c.args.face c.args.faces.now (sym c.in_default.ensures.found)))

pub recount-requires : goal.recount-requires
recount-requires g c = all-found HasLiveInOrder (λ x. c.args.face == x.number) c.args.faces.now c.in-Some.f.now c.requires (sym c.in-Some.ensures.found)

pub returns-clause-counts : goal.returns-clause-counts
returns-clause-counts g c =
    let cmp = g.K.Ord.cmp in
    let change = registered c.args.id c.args.expr.now in
    let fs = c.args.faces.now in
    on_ok_weaker c.add.result
    (λ (made : c.add.new.self ≡ map (λ (x : Face g.row.K.Denot). if c.args.face == x.number then change x else x) fs).
    subst (λ (gs : List (Face g.row.K.Denot)). Recounts cmp (flat_map rows_of_face fs) (flat_map rows_of_face gs) c.args.live.now c.recount.new.live) (sym made)
    (face-recounted cmp c.args.face c.in-Some.f.now fs c.in-Some.ensures.rising (sym c.in-Some.ensures.found) c.args.live.now c.recount.new.live change c.in_ok-recount.ensures))
    c.add.ensures.ok
