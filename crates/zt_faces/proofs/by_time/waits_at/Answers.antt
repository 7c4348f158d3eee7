use Rattle.std.proofs.Common.{ap, ◌==◌, ◌∙◌}
use Rattle.zt_faces.specs.Timed.{is_since, waits_in}
use Rattle.zt_faces.proofs.Times.{waits-at}
use Rattle.zt_faces.proofs.by_time.waits_at.Goals as goal

pub returns-in-None-clause-waits : goal.returns-in-None-clause-waits
returns-in-None-clause-waits g c =
    ap (is_since c.args.since) c.in-None.ensures.row ∙ waits-at c.args.since c.args.id _ c.in-None.ensures.ordered ∙ ap (waits_in c.args.since c.args.id) c.pendings.ensures

pub returns-in-Some-clause-waits : goal.returns-in-Some-clause-waits
returns-in-Some-clause-waits g c =
    ap (λ s. c.args.since == s) c.since.ensures ∙ ap (is_since c.args.since) c.in-Some.ensures.row ∙ waits-at c.args.since c.args.id _ c.in-Some.ensures.ordered ∙ ap (waits_in c.args.since c.args.id) c.pendings.ensures
