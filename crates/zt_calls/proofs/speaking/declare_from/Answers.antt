use Rattle.std.proofs.Common.{Option, subst, sym}
use Rattle.zt_calls.specs.Does.{Does}
use Rattle.zt_calls.proofs.Doing.{does-nothing}
use Rattle.zt_calls.specs.Speaking.{declaring_from}
use Rattle.zt_region.specs.declared.region.Zid.{Zid}
use Rattle.zt_calls.proofs.speaking.declare_from.Goals as goal

pub returns-in-None : goal.returns-in-None
returns-in-None g c =
    let cmp = g.K.Ord.cmp in
    let matching = g.K.Key.matching in
    subst (λ (source : Option Zid). Does cmp matching (declaring_from cmp matching c.args.face c.args.region source c.args.expr.now) c.args.g.now c.args.g.now c.args.speech.now c.args.speech.now) (sym c.in-None.is)
    (does-nothing cmp matching c.args.g.now c.args.speech.now)
