use Rattle.std.proofs.Common.{Option, OnOk, subst, sym}
use Rattle.std.proofs.lemmas.Result.{on_ok_weaker}
use Rattle.zt_calls.proofs.Doing.{does-both, does-nothing}
use Rattle.zt_calls.specs.Does.{Does}
use Rattle.zt_calls.specs.Speaking.{undeclaring_plain}
use Rattle.zt_calls.proofs.speaking.undeclare_plain.Goals as goal

pub returns-in_default : goal.returns-in_default
returns-in_default g c =
    let cmp = g.K.Ord.cmp in
    let matching = g.K.Key.matching in
    subst (λ (o : Option g.row.K.Denot). Does cmp matching (undeclaring_plain cmp matching c.args.face c.args.region c.args.id o) c.args.g.now c.args.g.now c.args.speech.now c.args.speech.now) (sym c.in_default.is)
    (does-nothing cmp matching c.args.g.now c.args.speech.now)

pub returns : goal.returns
returns g c =
    let cmp = g.K.Ord.cmp in
    let matching = g.K.Key.matching in
    let r = c.hide_token.result in
    subst (λ (o : Option g.row.K.Denot). OnOk r (Does cmp matching (undeclaring_plain cmp matching c.args.face c.args.region c.args.id o) c.args.g.now c.hide_token.new.g c.args.speech.now c.hide_token.new.speech)) (sym c.in-Some.is)
    (on_ok_weaker c.hide_token.result (λ done. does-both c.in_ok-undeclare.ensures done) c.hide_token.ensures)
