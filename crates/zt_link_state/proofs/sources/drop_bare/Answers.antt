use Rattle.std.proofs.Common.{ap, ◌∙◌}
use Rattle.zt_link_state.specs.Routed.{rows_in}
use Rattle.zt_link_state.proofs.Entries.{bare-rows, order-less}
use Rattle.zt_link_state.proofs.sources.drop_bare.Goals as goal

pub returns-then-is_bare-clause-rows : goal.returns-then-is_bare-clause-rows
returns-then-is_bare-clause-rows g c =
    ap rows_in c.remove.ensures.entries ∙ bare-rows g.K.Ord.cmp c.args.origin c.args.sources.now.entries (c.is_bare.ensures c.if-is_bare.true)

pub returns-then-is_bare-clause-in_order : goal.returns-then-is_bare-clause-in_order
returns-then-is_bare-clause-in_order g c =
    order-less g.K.Ord.cmp c.args.origin c.args.sources.now.entries c.remove.new.self.entries c.requires c.remove.ensures.entries c.remove.ensures.ordered
