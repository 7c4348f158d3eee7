use Rattle.std.proofs.Common.{◌≡◌, ◌<◌, [], length, set, cond, arith, ap, ◌∙◌, ◌==◌}
use Rattle.std.proofs.lemmas.List.{get_or_default, set-get_or}
use Rattle.std.proofs.lemmas.Result.{on_err_weaker, on_ok_weaker}
use Rattle.zt_link_queues.specs.Found.{faces_at, with_number}
use Rattle.zt_link_queues.proofs.Numbers.{faces_set, number_put}
use Rattle.zt_link_queues.proofs.places.put_number.Goals as goal

pub returns-clause-ok : goal.returns-clause-ok
returns-clause-ok c =
    let gateway = c.args.gateway in
    let reached = c.reach.new.numbers.items in
    let old = c.args.numbers.now.items in
    let faces = c.index_mut.result.now in
    let after = c.put.new.self in
    let same = c.in_ok-reach.ensures.same in
    let within : gateway < length reached = c.in_ok-reach.ensures.there in
    let there : faces ≡ faces_at gateway old = c.index_mut.ensures.value ∙ get_or_default reached gateway faces [] within ∙ same gateway in
    on_ok_weaker c.put.result
    (λ is.
    number_put gateway c.args.face c.args.number after old (set reached gateway after)
    (is ∙ ap (with_number c.args.face c.args.number) there)
    (λ g. faces_set gateway after reached within g ∙ ap (λ pairs. cond (g == gateway) after pairs) (same g)))
    c.put.ensures.ok

-- what was found is written back
pub returns-clause-err : goal.returns-clause-err
returns-clause-err c =
    let gateway = c.args.gateway in
    let reached = c.reach.new.numbers.items in
    let faces = c.index_mut.result.now in
    on_err_weaker c.put.result
    (λ kept g. ap (faces_at g) (ap (set reached gateway) (kept ∙ c.index_mut.ensures.value) ∙ set-get_or reached gateway faces) ∙ c.in_ok-reach.ensures.same g)
    c.put.ensures.err
