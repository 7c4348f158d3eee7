use Rattle.std.proofs.Common.{sym, ap₂, ◌∙◌}
use Rattle.zt_check_lines.specs.Lines.{ends_cause}
use Rattle.zt_check_lines.proofs.Causes.{link_line, unknown_one, unknown_two}
use Rattle.zt_check_lines.proofs.links.link_cause.Goals as goal

pub returns-in_default : goal.returns-in_default
returns-in_default g c =
    let x = c.args in
    unknown_one g.K.Ord.cmp g.K.Key.matching x.one x.two x.first x.back x.fabric.now (sym (rw c.in_default.is at c.node.ensures))

pub returns-in_default-node : goal.returns-in_default-node
returns-in_default-node g c =
    let x = c.args in
    unknown_two g.K.Ord.cmp g.K.Key.matching x.one x.two x.first x.back x.fabric.now c.in-Some.near.now (sym (rw c.in-Some.is at c.node.ensures)) (sym (rw c.in_default-node.is at c.node-2.ensures))

pub returns : goal.returns
returns g c =
    let x = c.args in
    let near = c.in-Some.near.now in
    let far = c.in-Some-node.far.now in
    c.ends_cause.ensures
    ∙ (ap₂ (λ there back. ends_cause x.fabric.now x.one near there x.two far back) c.in_ok-going.ensures c.in_ok-returning.ensures
    ∙ link_line g.K.Ord.cmp g.K.Key.matching x.one x.two x.first x.back x.fabric.now near far (sym (rw c.in-Some.is at c.node.ensures)) (sym (rw c.in-Some-node.is at c.node-2.ensures)))
