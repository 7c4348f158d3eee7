use Rattle.std.proofs.Common.{◌≡◌, drop}
use Rattle.zt_model.specs.Hearing.{rows_heard}
use Rattle.zt_state.proofs.gateway.GatewayState.hear_all.Given as goal

-- with the messages left all are heard
abbrev pub invariant-loop-face : goal.invariant-loop-face
invariant-loop-face g l =
    rows_heard g.K.Ord.cmp (drop l.face-index l.sends) l.self ≡ rows_heard g.K.Ord.cmp l.sends l.fn.self
