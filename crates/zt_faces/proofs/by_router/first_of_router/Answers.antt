use Rattle.std.proofs.Common.{IfNone, None, Option, Some}
use Rattle.zt_faces.proofs.Standings.{none-other}
use Rattle.zt_faces.proofs.by_router.first_of_router.Goals as goal

none_weaker : {A P Q : Type 0} (r : Option A) → IfNone r P → (P → Q) → IfNone r Q
none_weaker None p step = step p
none_weaker (Some x) p step = p

pub returns-in-Some-clause-none : goal.returns-in-Some-clause-none
returns-in-Some-clause-none c =
    none_weaker c.number_if_of.result c.number_if_of.ensures.none
    (none-other c.args.region c.args.zid c.args.routers.now.keys c.in-Some.standing.now c.in-Some.ensures.some)
