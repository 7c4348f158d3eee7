use Rattle.std.proofs.Common.{sym}
use Rattle.zt_check_fabric.proofs.Carried.{link_dropped, no_link_closed}
use Rattle.zt_check_fabric.proofs.fabric.ShownFabric.close_link.Goals as goal

pub returns-in_default : goal.returns-in_default
returns-in_default g c = no_link_closed g.K.Ord.cmp g.K.Key.matching c.args.self.now c.args.number (sym (rw c.in_default.is at c.link.ensures))

pub returns : goal.returns
returns g c =
    link_dropped g.K.Ord.cmp g.K.Key.matching c.args.self.now c.close_face.new.self c.close_face-2.new.self c.drop_link.new.self c.args.number c.in-Some.link.now c.one-one.result c.two-two.result
    (sym (rw c.in-Some.is at c.link.ensures)) c.one-one.ensures c.two-two.ensures c.in_ok-close_face.ensures c.in_ok-close_face-2.ensures c.drop_link.ensures
