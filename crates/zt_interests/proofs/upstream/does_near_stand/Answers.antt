use Rattle.std.proofs.Common.{sym, ◌∙◌}
use Rattle.zt_model.specs.Routing.{stands}
use Rattle.zt_interests.proofs.Asked.{one-within}
use Rattle.zt_interests.proofs.upstream.does_near_stand.Goals as goal

pub returns-then-from-to : goal.returns-then-from-to
returns-then-from-to g c = λ t. one-within (stands c.args.g.now) _ _ c.args.pendings.now (sym c.does_any_stand.ensures ∙ t)
