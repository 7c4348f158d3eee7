use Rattle.zt_protocol.specs.Plain.{plain_line}
use Rattle.zt_links.proofs.Accepted.{stepped}
use Rattle.zt_links.proofs.fabric.Fabric.step_line.Goals as goal

pub invariant_of-self : goal.invariant_of-self
invariant_of-self g c =
    stepped g.K.Ord.cmp g.K.Key.matching g.met.K.Ord.total (plain_line c.args.line.now) c.self.inside.state c.carry_out.new.s c.carry_out.result
    c.requires c.self.invariant c.carry_out.ensures.entry c.carry_out.ensures.ok c.carry_out.ensures.err
