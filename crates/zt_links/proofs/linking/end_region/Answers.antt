use Rattle.std.proofs.Common.{ap, ◌∙◌}
use Rattle.zt_links.proofs.Climbing.{agreed_is}
use Rattle.zt_links.proofs.linking.end_region.Goals as goal

pub returns : goal.returns
returns g c =
    c.agree-answer.ensures
    ∙ agreed_is c.args.own.now c.args.other.now _ _ _ _ _ _ c.in_ok-peer.ensures c.in_ok-beyond.ensures (c.mode-mode.ensures ∙ ap (λ rows. rows.mode) c.in_ok-rows.ensures) c.south-south.ensures (c.mode-other_mode.ensures ∙ ap (λ rows. rows.mode) c.in_ok-rows-2.ensures) c.south-other_south.ensures
