use Rattle.std.proofs.Common.{Bool, subst, sym}
use Rattle.zt_calls.specs.Does.{Does}
use Rattle.zt_calls.proofs.Doing.{does-nothing}
use Rattle.zt_calls.specs.Speaking.{declaring_if}
use Rattle.zt_calls.proofs.speaking.declare_if.Goals as goal

pub returns-else-registers : goal.returns-else-registers
returns-else-registers g c =
    let cmp = g.K.Ord.cmp in
    let matching = g.K.Key.matching in
    subst (λ (registers : Bool). Does cmp matching (declaring_if cmp matching registers c.args.face c.args.region c.args.id c.args.expr.now) c.args.g.now c.args.g.now c.args.speech.now c.args.speech.now) (sym c.if-registers.false)
    (does-nothing cmp matching c.args.g.now c.args.speech.now)
