use Rattle.std.proofs.Common.{◌≡◌, ap, ◌∙◌}
use Rattle.std.proofs.lemmas.Result.{IfOk-weaker, on_err_weaker, on_ok_weaker}
use Rattle.indexmap.specs.IndexMap.{set_value_at}
use Rattle.zt_token_index.specs.Told.{id_of, told_at, with_face}
use Rattle.zt_token_index.proofs.Changed.{changes-written}
use Rattle.zt_token_index.proofs.Placed.{value-there, with-written, written-same}
use Rattle.zt_token_index.proofs.index.put_at.Goals as goal

pub returns-in-Some-clause-ok : goal.returns-in-Some-clause-ok
returns-in-Some-clause-ok g c =
    let cmp = g.K.Ord.cmp in
    let expr = c.args.expr.now in
    let old = c.args.faces.now.entries in
    let at = c.in-Some.at in
    let told = told_at cmp expr old in
    let change = with_face c.args.face c.args.id in
    let after = c.put.new.self in
    let there = c.in-Some.ensures.found in
    let was = value-there old at (expr, told) c.index_mut.result.now there c.index_mut.ensures.value in
    let puts = with-written cmp g.met.K.Ord.matches_eq g.met.K.Eq.laws c.args.faces.now c.place_of.ensures.unique expr at told after there in
    on_ok_weaker c.put.result
    (λ is. changes-written cmp g.met.K.Ord.total expr change old (set_value_at old at after) after (is ∙ ap change was) puts)
    c.put.ensures.ok

-- what was found is written back
pub returns-in-Some-clause-err : goal.returns-in-Some-clause-err
returns-in-Some-clause-err g c =
    let expr = c.args.expr.now in
    let old = c.args.faces.now.entries in
    let at = c.in-Some.at in
    let told = told_at g.K.Ord.cmp expr old in
    let there = c.in-Some.ensures.found in
    let was = value-there old at (expr, told) c.index_mut.result.now there c.index_mut.ensures.value in
    on_err_weaker c.put.result (λ kept. ap (set_value_at old at) (kept ∙ was) ∙ written-same old at (expr, told) there) c.put.ensures.err

pub returns-in-Some-clause-known : goal.returns-in-Some-clause-known
returns-in-Some-clause-known g c =
    let face = c.args.face in
    let expr = c.args.expr.now in
    let old = c.args.faces.now.entries in
    let told = told_at g.K.Ord.cmp expr old in
    let before = c.index_mut.result.now in
    let was = value-there old c.in-Some.at (expr, told) before c.in-Some.ensures.found c.index_mut.ensures.value in
    IfOk-weaker c.put.result (λ known. known ≡ id_of face before) (λ known. known ≡ id_of face told) (λ known is. is ∙ ap (id_of face) was) c.put.ensures.known
