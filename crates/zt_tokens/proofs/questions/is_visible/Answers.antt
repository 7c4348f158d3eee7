use Rattle.std.proofs.Common.{ap, ◌∙◌}
use Rattle.zt_indexes.specs.Counted.{is_shown_in}
use Rattle.zt_indexes.specs.Live.{counts_at}
use Rattle.zt_model.specs.Visible.{shows}
use Rattle.zt_tokens.proofs.Visible.{visible-counted}
use Rattle.zt_tokens.proofs.questions.is_visible.Goals as goal

pub returns : goal.returns
returns g c =
    c.is_shown.ensures
    ∙ ap (λ m. is_shown_in (shows m c.args.own) (counts_at g.K.Ord.cmp c.args.expr.now c.live.result.now)) c.mode-mode.ensures
    ∙ visible-counted g.K.Ord.cmp g.met.K.Ord.total c.args.g.now c.args.own c.args.expr.now c.live.result.now c.live.ensures
