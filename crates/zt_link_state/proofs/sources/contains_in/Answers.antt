use Rattle.std.proofs.Common.{sym, ◌∙◌}
use Rattle.zt_link_state.proofs.Entries.{row-none, row-there}
use Rattle.zt_link_state.proofs.sources.contains_in.Goals as goal

pub returns-in-Some : goal.returns-in-Some
returns-in-Some g c =
    c.contains.ensures
    ∙ sym (row-there g.K.Ord.cmp c.args.origin c.args.expr.now c.args.sources.now.entries c.requires c.in-Some.keys.now (sym c.in-Some.ensures.value))

pub returns-in-None : goal.returns-in-None
returns-in-None g c = sym (row-none g.K.Ord.cmp c.args.origin c.args.expr.now c.args.sources.now.entries c.requires (sym c.in-None.ensures.value))
