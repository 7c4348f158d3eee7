use Rattle.std.proofs.Common.{None, Some, refl, sym, ◌∙◌}
use Rattle.std.proofs.lemmas.Result.{IfOk-weaker}
use Rattle.zt_links.proofs.LinkCauses.{by_ends}
use Rattle.zt_links.proofs.link_causes.ends_cause.Goals as goal

pub returns-in-Some : goal.returns-in-Some
returns-in-Some g c =
    let x = c.args in
    by_ends g.K.Ord.cmp g.K.Key.matching x.one x.two x.first x.back x.s.now x.a.now x.b.now c.in_ok-near.near c.in_ok-far.far (Some c.in-Some.cause) _ c.requires.near_node c.requires.far_node c.in_ok-near.ensures c.in_ok-far.ensures (sym c.in-Some.is ∙ c.in_ok-cause.ensures) refl

pub returns : goal.returns
returns g c =
    let x = c.args in
    IfOk-weaker c.later_cause.result _ _
    (λ cause is. by_ends g.K.Ord.cmp g.K.Key.matching x.one x.two x.first x.back x.s.now x.a.now x.b.now c.in_ok-near.near c.in_ok-far.far None cause c.requires.near_node c.requires.far_node c.in_ok-near.ensures c.in_ok-far.ensures (sym c.in_default.is ∙ c.in_ok-cause.ensures) is)
    c.later_cause.ensures
