use Rattle.std.proofs.Common.{sym}
use Rattle.zt_link_state.proofs.Entries.{one-less, order-there, rows-stay, rows-without}
use Rattle.zt_link_state.proofs.sources.remove_in.Goals as goal

pub returns-in-Some-clause-rows : goal.returns-in-Some-clause-rows
returns-in-Some-clause-rows g c =
    let after = c.remove.new.self in
    rows-without g.K.Ord.cmp c.args.origin c.args.expr.now c.args.sources.now.entries c.requires c.in-Some.keys.now (sym c.in-Some.ensures.value)
    (c.get_mut.follows.lender after).entries after (c.get_mut.follows.holds after).0 g.met.K.Ord.total c.remove.ensures.keys

pub returns-in-Some-clause-less : goal.returns-in-Some-clause-less
returns-in-Some-clause-less g c =
    let after = c.remove.new.self in
    one-less g.K.Ord.cmp c.args.origin c.args.expr.now c.args.sources.now.entries c.requires c.in-Some.keys.now (sym c.in-Some.ensures.value)
    (c.get_mut.follows.lender after).entries after (c.get_mut.follows.holds after).0
    g.met.K.Key.laws.equal_is_same c.remove.result c.remove.ensures.test c.remove.ensures.keys (λ none. rw none at c.remove.ensures.unchanged)

pub returns-in-Some-clause-in_order : goal.returns-in-Some-clause-in_order
returns-in-Some-clause-in_order g c =
    let after = c.remove.new.self in
    let written = c.get_mut.follows.holds after in
    order-there g.K.Ord.cmp c.args.origin c.args.sources.now.entries (c.get_mut.follows.lender after).entries after c.requires written.0 written.4 c.remove.ensures.ordered

pub returns-in-None-clause-rows : goal.returns-in-None-clause-rows
returns-in-None-clause-rows g c =
    rw c.get_mut.follows.holds-at-none (rows-stay g.K.Ord.cmp c.args.origin c.args.expr.now c.args.sources.now.entries c.requires (sym c.in-None.ensures.value))
