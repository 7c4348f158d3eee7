use Rattle.std.proofs.Common.{◌+◌, map, subst, ap}
use Rattle.std.proofs.lemmas.Result.{IfOk-weaker}
use Rattle.zt_shared_value.specs.Passes.{Standing}
use Rattle.zt_shared.specs.Recorded.{Recorded, journalled}
use Rattle.zt_watchers.specs.Text.{plain_poll}
use Rattle.zt_plans.specs.Plans.{numbered}
use Rattle.zt_watchers.specs.Beside.{IsMadeBeside}
use Rattle.zt_watchers.proofs.sharing.journal_beside.Goals as goal

pub returns : goal.returns
returns g c =
    IfOk-weaker c.beside.result _ _
    (λ watched is.
    subst (λ rows. IsMadeBeside g.K.Ord.cmp g.K.Key.matching c.args.workers (map numbered c.args.calls.items) (c.args.wanted + 1) c.args.expr rows (map journalled watched.journal.entries.items) watched.lines.items (map plain_poll watched.polls.items))
    (ap (λ (pass : Standing (Recorded g.row.K.Denot)). pass.opening.opening.rows) c.in_ok-shared.ensures) is)
    c.beside.ensures
