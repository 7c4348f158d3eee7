use Rattle.std.proofs.Common.{◌≡◌, ◌++◌, ap, ◌∙◌}
use Rattle.zt_model.specs.Says.{Sends}
use Rattle.zt_gateway.specs.Running.{Running, without_closed}
use Rattle.zt_gateway.proofs.gateway.Gateway.enqueue.Goals as goal

pub moved-requires-clause-fits : goal.moved-requires-clause-fits
moved-requires-clause-fits g c =
    let same : c.replace-waiting.result.items ≡ c.args.self.now.waiting =
    ap (λ v. v.items) c.replace-waiting.ensures.value ∙ ap (λ (running : Running g.row.K.Denot). running.waiting) c.self.view_is in
    rw same c.requires.fits

pub returns : goal.returns
returns g c =
    let behind : Running g.row.K.Denot → Running g.row.K.Denot = λ running. record running { waiting = without_closed c.args.closed running.waiting ++ c.args.said.items } in
    let keeping : Sends g.row.K.Denot → Running g.row.K.Denot = λ waiting. record { rows = c.self.inside.kept; waiting = waiting } in
    ap keeping c.moved.ensures
    ∙ ap (λ (waiting : Sends g.row.K.Denot). behind (keeping waiting)) (ap (λ v. v.items) c.replace-waiting.ensures.value)
    ∙ ap behind c.self.view_is
