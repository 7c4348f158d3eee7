use Rattle.std.proofs.Common.{◌<◌, ◌≤◌, ◌+◌, drop, length, arith, ap, sym, ◌∙◌}
use Rattle.std.proofs.lemmas.List.{drop_all}
use Rattle.zt_model.specs.Hearing.{rows_heard}
use Rattle.zt_model.specs.Parts.{Sends}
use Rattle.zt_model.specs.Rows.{Rows}
use Rattle.zt_state.proofs.Heard.{first_heard, none_heard}
use Rattle.zt_state.proofs.Walks.{drop_item}
use Rattle.zt_state.proofs.gateway.GatewayState.hear_all.Goals as goal

pub loop-face-preserved : goal.loop-face-preserved
loop-face-preserved g c =
    let cmp = g.K.Ord.cmp in
    let sends = c.args.sends.now in
    let i = c.loop-face.face-index in
    let s = c.loop-face-item.result in
    let within : i < length sends = omega arith in
    ap (λ (h : Rows g.row.K.Denot). rows_heard cmp (drop (i + 1) sends) h) c.in_ok-hear.ensures
    ∙ first_heard cmp s (drop (i + 1) sends) c.loop-face.self
    ∙ ap (λ (ss : Sends g.row.K.Denot). rows_heard cmp ss c.loop-face.self) (sym (drop_item sends i s within c.loop-face-item.is))
    ∙ c.loop-face.invariant

pub returns : goal.returns
returns g c =
    let sends = c.args.sends.now in
    let past : length sends ≤ c.loop-face.face-index = omega arith in
    sym (none_heard g.K.Ord.cmp c.loop-face.self)
    ∙ ap (λ (ss : Sends g.row.K.Denot). rows_heard g.K.Ord.cmp ss c.loop-face.self) (sym (drop_all c.loop-face.face-index sends past))
    ∙ c.loop-face.invariant
