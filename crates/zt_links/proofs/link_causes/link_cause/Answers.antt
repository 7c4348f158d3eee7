use Rattle.zt_links.proofs.LinkCauses.{first_absent, second_absent}
use Rattle.zt_links.proofs.link_causes.link_cause.Goals as goal

pub returns-in_default : goal.returns-in_default
returns-in_default g c =
    let x = c.args in
    first_absent g.K.Ord.cmp g.K.Key.matching x.one x.two x.first x.back x.s.now c.gateways.result.now c.gateways.ensures c.in_default.ensures

pub returns-in_default-member_at : goal.returns-in_default-member_at
returns-in_default-member_at g c =
    let x = c.args in
    second_absent g.K.Ord.cmp g.K.Key.matching x.one x.two x.first x.back x.s.now c.gateways-2.result.now c.gateways-2.ensures c.in_default-member_at.ensures
