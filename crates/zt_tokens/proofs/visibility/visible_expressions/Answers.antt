use Rattle.std.proofs.Common.{ap, ◌∙◌}
use Rattle.std.proofs.lemmas.Result.{IfOk-weaker}
use Rattle.zt_indexes.specs.Live.{shown_keys}
use Rattle.zt_model.specs.Visible.{shows}
use Rattle.zt_tokens.proofs.Visible.{visible-listed}
use Rattle.zt_tokens.proofs.visibility.visible_expressions.Goals as goal

pub returns : goal.returns
returns g c =
    IfOk-weaker c.shown_keys.result _ _
    (λ exprs is.
    is
    ∙ ap (λ m. shown_keys (shows m c.args.own) c.live.result.now) c.mode-mode.ensures
    ∙ visible-listed g.K.Ord.cmp g.met.K.Ord.total g.met.K.Key.laws.equal_is_same c.args.g.now c.args.own c.live.result.now c.live.ensures c.shown_keys.ensures.in_order)
    c.shown_keys.ensures.shown
