use Rattle.std.proofs.Common.{ap, ◌∙◌}
use Rattle.std.proofs.lemmas.Result.{on_ok_weaker}
use Rattle.zt_calls.proofs.Doing.{does-alter, does-both}
use Rattle.zt_model.specs.Trees.{but_for, unpass, without_routed}
use Rattle.zt_calls.proofs.routed.undeclare_routed.Goals as goal

pub returns : goal.returns
returns g c =
    let cmp = g.K.Ord.cmp in
    let e = c.args.expr.now in
    let region = c.args.region in
    let passed = c.in_ok-say.ensures (λ h. but_for cmp c.args.face (unpass cmp region c.args.source e h)) (c.spare.ensures ∙ ap (but_for cmp c.args.face) c.in_ok-passed.ensures) in
    on_ok_weaker c.forget_all.result (λ done. does-both (does-both (does-alter (without_routed cmp region c.args.source e) c.drop_routed.ensures) passed) done) c.forget_all.ensures
