use Rattle.std.proofs.Common.{ap, ◌∙◌}
use Rattle.zt_check_fabric.proofs.Agreed.{agreed_is}
use Rattle.zt_check_fabric.proofs.ends.end_region.Goals as goal

pub returns : goal.returns
returns g c =
    c.agree-answer.ensures
    ∙ agreed_is c.args.own.now c.args.other.now _ _ _ _ _ _ c.in_ok-peer.ensures c.in_ok-beyond.ensures (c.mode-mode.ensures ∙ ap (λ rows. rows.mode) c.rows.ensures) c.south-south.ensures
    (c.mode-other_mode.ensures ∙ ap (λ rows. rows.mode) c.rows-2.ensures) c.south-other_south.ensures
