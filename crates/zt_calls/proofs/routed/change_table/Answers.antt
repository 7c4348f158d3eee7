use Rattle.std.proofs.Common.{◌≡◌, ◌∷◌, [], List, OnOk, ap, subst, ◌∙◌}
use Rattle.std.proofs.lemmas.Result.{on_ok_weaker}
use Rattle.zt_calls.proofs.Doing.{does-alter, does-both}
use Rattle.zt_calls.specs.Does.{Does}
use Rattle.zt_model.specs.Parts.{Alter, Say, to_each}
use Rattle.zt_model.specs.Rows.{Rows}
use Rattle.zt_model.specs.Trees.{counted_table, forgetting, greet_to, left_out, with_table, without_left_out}
use Rattle.zt_protocol.specs.Plain.{Trees, trees_of}
use Rattle.zt_calls.proofs.routed.change_table.Goals as goal

pub returns : goal.returns
returns g c =
    let cmp = g.K.Ord.cmp in
    let matching = g.K.Key.matching in
    let region = c.args.region in
    let rows = c.args.g.now in
    let table = trees_of c.args.table.now in
    let s = c.args.speech.now in
    let r = c.keep_and_greet.result in
    let greeted = λ (before : Trees) (h : Rows g.row.K.Denot). to_each (greet_to cmp h region before) h.faces in
    let kept = λ (t before : Trees). Alter (with_table cmp region t) ∷ Say (greeted before) ∷ [] in
    let given : c.in_ok-kept.kept ≡ table = c.in_ok-kept.ensures ∙ c.in_ok-copy.ensures in
    let one = c.drop_left_out.ensures ∙ ap (λ (t : Trees). without_left_out cmp region (counted_table t) rows) given in
    let named = c.deref.ensures.value ∙ c.in_ok-gone.ensures ∙ ap (λ (t : Trees). left_out cmp region (counted_table t) rows) given in
    let two = subst (λ (exprs : List g.row.K.Denot). Does cmp matching (forgetting cmp matching region exprs) c.drop_left_out.new.self c.forget_each.new.g s c.forget_each.new.speech) named c.in_ok-forget_each.ensures in
    let at_table = subst (λ (t : Trees). OnOk r (Does cmp matching (kept t (counted_table c.in_ok-before.before)) c.forget_each.new.g c.keep_and_greet.new.g c.forget_each.new.speech c.keep_and_greet.new.speech)) given c.keep_and_greet.ensures in
    let three = subst (λ (before : Trees). OnOk r (Does cmp matching (kept table before) c.forget_each.new.g c.keep_and_greet.new.g c.forget_each.new.speech c.keep_and_greet.new.speech)) c.in_ok-before.ensures at_table in
    on_ok_weaker r (λ done. does-both (does-alter (without_left_out cmp region (counted_table table)) one) (does-both two done)) three
