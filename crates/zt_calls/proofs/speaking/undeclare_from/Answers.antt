use Rattle.std.proofs.Common.{Option, Some, subst, sym}
use Rattle.zt_calls.specs.Does.{Does}
use Rattle.zt_calls.proofs.Doing.{does-nothing}
use Rattle.zt_calls.specs.Speaking.{undeclaring_from}
use Rattle.zt_region.specs.declared.region.Zid.{Zid}
use Rattle.zt_calls.proofs.speaking.undeclare_from.Goals as goal

pub returns-in_default : goal.returns-in_default
returns-in_default g c =
    let cmp = g.K.Ord.cmp in
    let matching = g.K.Key.matching in
    subst (λ (source : Option Zid). Does cmp matching (undeclaring_from cmp matching c.args.face c.args.region source c.args.given.now) c.args.g.now c.args.g.now c.args.speech.now c.args.speech.now) (sym c.in_default.is)
    (does-nothing cmp matching c.args.g.now c.args.speech.now)

pub returns-in-None : goal.returns-in-None
returns-in-None g c =
    let cmp = g.K.Ord.cmp in
    let matching = g.K.Key.matching in
    let n = c.args.face in
    let region = c.args.region in
    subst (λ (source : Option Zid). Does cmp matching (undeclaring_from cmp matching n region source c.args.given.now) c.args.g.now c.args.g.now c.args.speech.now c.args.speech.now) (sym c.in-Some.is)
    (subst (λ (given : Option g.row.K.Denot). Does cmp matching (undeclaring_from cmp matching n region (Some c.in-Some.source) given) c.args.g.now c.args.g.now c.args.speech.now c.args.speech.now) (sym c.in-None.is)
    (does-nothing cmp matching c.args.g.now c.args.speech.now))
