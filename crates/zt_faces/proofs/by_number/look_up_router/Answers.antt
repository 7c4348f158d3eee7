use Rattle.std.proofs.Common.{sym, ◌∙◌}
use Rattle.zt_faces.specs.Slots.{faces_in}
use Rattle.zt_faces.proofs.Gaps.{faces-rising}
use Rattle.zt_faces.proofs.Routers.{found-by, none-by}
use Rattle.zt_faces.proofs.by_number.look_up_router.Goals as goal

pub returns-in-Some : goal.returns-in-Some
returns-in-Some g c =
    c.find_in.ensures ∙ found-by c.args.region c.args.zid c.in-Some.number c.args.routers.now.keys (faces_in c.args.slots.now) c.requires.kept (faces-rising c.args.slots.now c.requires.rising) c.requires.standings c.in-Some.ensures.found

pub returns-in-None : goal.returns-in-None
returns-in-None g c = sym (none-by c.args.region c.args.zid c.args.routers.now.keys (faces_in c.args.slots.now) c.requires.kept c.requires.standings c.in-None.ensures.none)
