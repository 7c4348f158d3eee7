use Rattle.std.proofs.Common.{ap, filter, ◌∙◌}
use Rattle.std.proofs.lemmas.Result.{IfOk-weaker}
use Rattle.zt_indexes.specs.Live.{shown_keys}
use Rattle.zt_model.specs.Visible.{shows}
use Rattle.zt_tokens.proofs.Visible.{visible-listed}
use Rattle.zt_tokens.proofs.visibility.visible_matches.Goals as goal

pub returns : goal.returns
returns g c =
    IfOk-weaker c.matching_keys.result _ _
    (λ exprs is.
    is
    ∙ ap (λ m. filter (g.K.Key.matching c.args.key.now) (shown_keys (shows m c.args.own) c.live.result.now)) c.mode-mode.ensures
    ∙ ap (filter (g.K.Key.matching c.args.key.now)) (visible-listed g.K.Ord.cmp g.met.K.Ord.total g.met.K.Key.laws.equal_is_same c.args.g.now c.args.own c.live.result.now c.live.ensures c.matching_keys.ensures.in_order))
    c.matching_keys.ensures.matching
