use Rattle.std.proofs.Common.{[], ◌∷◌, ◌++◌, ap, ◌∙◌}
use Rattle.zt_shared_value.specs.Rule.{first_part}
use Rattle.zt_shared_value.specs.Plays.{alone}
use Rattle.zt_shared_value.specs.Passes.{first_pass}
use Rattle.zt_shared_value.proofs.Allowed.{starts_at}
use Rattle.zt_shared_value.proofs.shared.SharedRecorder.new.Goals as goal

pub new-requires : goal.new-requires
new-requires g c = starts_at g.J.Recorder.journal g.J.Recorder.author g.J.Recorder.state c.args.value c.of-opening.result.value c.push.new.self.items c.of-opening.ensures
    (c.in_ok-push.ensures.items ∙ ap (λ slots. slots ++ c.args.value ∷ []) c.new-slots.ensures.items) c.requires

pub returns-in-Ok : goal.returns-in-Ok
returns-in-Ok g c = c.first.ensures c.args.value (c.in-Ok.ensures.ok.4 ∙ ap (λ value. alone (first_part value)) c.of-opening.ensures)
    ∙ ap (λ table. first_pass table c.args.value) c.in-Ok.ensures.ok.2
