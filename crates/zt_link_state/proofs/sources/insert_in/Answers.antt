use Rattle.std.proofs.Common.{ap, sym, ◌∙◌}
use Rattle.std.specs.BTreeSet.{insert_key}
use Rattle.zt_link_state.proofs.Entries.{one-more, one-more-new, order-new, order-there, rows-with, rows-with-new}
use Rattle.zt_link_state.proofs.sources.insert_in.Goals as goal

pub returns-in_err-insert-in-Some-clause-in_order : goal.returns-in_err-insert-in-Some-clause-in_order
returns-in_err-insert-in-Some-clause-in_order g c =
    let after = c.insert.new.self in
    let written = c.get_mut.follows.holds after in
    order-there g.K.Ord.cmp c.args.origin c.args.sources.now.entries (c.get_mut.follows.lender after).entries after c.requires written.0 written.4 c.insert.ensures.ordered

pub returns-in_ok-insert-in-Some-clause-rows : goal.returns-in_ok-insert-in-Some-clause-rows
returns-in_ok-insert-in-Some-clause-rows g c =
    let after = c.insert.new.self in
    rows-with g.K.Ord.cmp c.args.origin c.args.expr c.args.sources.now.entries c.requires c.in-Some.keys.now (sym c.in-Some.ensures.value)
    (c.get_mut.follows.lender after).entries after (c.get_mut.follows.holds after).0 c.in_ok-insert-in-Some.ensures.keys

pub returns-in_ok-insert-in-Some-clause-more : goal.returns-in_ok-insert-in-Some-clause-more
returns-in_ok-insert-in-Some-clause-more g c =
    let after = c.insert.new.self in
    one-more g.K.Ord.cmp c.args.origin c.args.expr c.args.sources.now.entries c.requires c.in-Some.keys.now (sym c.in-Some.ensures.value)
    (c.get_mut.follows.lender after).entries after (c.get_mut.follows.holds after).0
    c.in_ok-insert-in-Some.field-0 c.in_ok-insert-in-Some.ensures.added c.in_ok-insert-in-Some.ensures.keys (λ old. rw old at c.in_ok-insert-in-Some.ensures.unchanged)

pub returns-in_ok-insert-in-Some-clause-in_order : goal.returns-in_ok-insert-in-Some-clause-in_order
returns-in_ok-insert-in-Some-clause-in_order g c =
    let after = c.insert.new.self in
    let written = c.get_mut.follows.holds after in
    order-there g.K.Ord.cmp c.args.origin c.args.sources.now.entries (c.get_mut.follows.lender after).entries after c.requires written.0 written.4 c.in_ok-insert-in-Some.ensures.ordered

pub returns-in_ok-insert-in-None-2-clause-rows : goal.returns-in_ok-insert-in-None-2-clause-rows
returns-in_ok-insert-in-None-2-clause-rows g c =
    rows-with-new g.K.Ord.cmp c.args.origin c.args.expr c.args.sources.now.entries c.requires c.insert-in-None-2.new.self.entries c.insert-in-None.new.self (sym c.in-None.ensures.value)
    (rw c.get_mut.follows.holds-at-none at c.in_ok-insert-in-None-2.ensures.entries)
    (c.in_ok-insert-in-None.ensures.keys ∙ ap (λ ks. insert_key g.K.Ord.cmp ks c.args.expr) c.new-keys.ensures.empty)

pub returns-in_ok-insert-in-None-2-clause-more : goal.returns-in_ok-insert-in-None-2-clause-more
returns-in_ok-insert-in-None-2-clause-more g c =
    one-more-new g.K.Ord.cmp c.args.origin c.args.expr c.args.sources.now.entries c.requires c.insert-in-None-2.new.self.entries c.insert-in-None.new.self (sym c.in-None.ensures.value)
    (rw c.get_mut.follows.holds-at-none at c.in_ok-insert-in-None-2.ensures.entries)
    (c.in_ok-insert-in-None.ensures.keys ∙ ap (λ ks. insert_key g.K.Ord.cmp ks c.args.expr) c.new-keys.ensures.empty)

pub returns-in_ok-insert-in-None-2-clause-in_order : goal.returns-in_ok-insert-in-None-2-clause-in_order
returns-in_ok-insert-in-None-2-clause-in_order g c =
    order-new g.K.Ord.cmp c.args.origin c.args.sources.now.entries c.insert-in-None-2.new.self.entries c.insert-in-None.new.self c.requires
    (rw c.get_mut.follows.holds-at-none at c.in_ok-insert-in-None-2.ensures.entries) c.in_ok-insert-in-None-2.ensures.ordered c.in_ok-insert-in-None.ensures.ordered
