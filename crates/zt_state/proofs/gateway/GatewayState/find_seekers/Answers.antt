use Rattle.std.proofs.Common.{◌∙◌}
use Rattle.std.proofs.lemmas.Option.{IfSome_then}
use Rattle.std.proofs.lemmas.Result.{IfOk-weaker}
use Rattle.zt_model.specs.Rows.{Face}
use Rattle.zt_state.proofs.Sought.{numbers-sorted, sought-same}
use Rattle.zt_state.proofs.gateway.GatewayState.find_seekers.Goals as goal

pub returns-clause-rising : goal.returns-clause-rising
returns-clause-rising g c = rw (← c.self.view_is) c.self.invariant.rising

pub returns-clause-found : goal.returns-clause-found
returns-clause-found g c =
    let s = c.self.inside in
    let e = c.args.expr.now in
    rw (← c.self.view_is)
    (IfOk-weaker c.find.result _ _
    (λ found is.
    IfSome_then found is
    (λ numbers are.
    are s.faces (numbers-sorted (λ (x : Face g.row.K.Denot). x.number) s.faces c.self.invariant.rising) c.self.invariant.seekers
    ∙ sought-same g.K.Key.matching s.mode e s.faces))
    c.find.ensures)
