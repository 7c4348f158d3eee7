use Rattle.std.proofs.Common.{[], IsSome, Some, ap, filter, not, refl, subst, sym, unwrap_or, ◌∙◌}
use Rattle.zt_indexes.proofs.Hashed.{entries-changed, lookup-tied_by}
use Rattle.zt_interest_index.specs.Holdings.{is_of}
use Rattle.zt_interest_index.proofs.Changed.{changes-none, changes-written, empty-from, same-keys}
use Rattle.zt_interest_index.proofs.keyed.drop_from.Goals as goal

pub returns-in-None-clause-drops : goal.returns-in-None-clause-drops
returns-in-None-clause-drops g c =
    let key = c.args.key.now in
    let old = c.args.keyed.now.entries in
    rw c.get_mut.follows.holds-at-none
    (changes-none g.K.Ord.cmp g.met.K.Ord.total key (filter (λ row. not (is_of c.args.face c.args.id row))) old
    (sym (ap (λ o. unwrap_or o []) (c.in-None.ensures.value ∙ lookup-tied_by g.K.Ord.cmp g.met.K.Ord.matches_eq key old))) refl)

pub returns-in-None-clause-stay : goal.returns-in-None-clause-stay
returns-in-None-clause-stay g c = rw c.get_mut.follows.holds-at-none (same-keys g.K.Ord.cmp c.args.keyed.now.entries c.args.keyed.now.entries refl)

pub returns-in-Some-clause-drops : goal.returns-in-Some-clause-drops
returns-in-Some-clause-drops g c =
    let cmp = g.K.Ord.cmp in
    let ties = g.met.K.Ord.matches_eq in
    let key = c.args.key.now in
    let old = c.args.keyed.now.entries in
    let there = c.in-Some.ensures.value in
    let after = c.remove.new.self in
    let new = (c.get_mut.follows.lender after).entries in
    let less = filter (λ row. not (is_of c.args.face c.args.id row)) in
    changes-written cmp g.met.K.Ord.total key less old new after
    (c.remove.ensures ∙ ap less (ap (λ o. unwrap_or o []) (there ∙ lookup-tied_by cmp ties key old)))
    (entries-changed cmp ties (Some after) key old new ((c.get_mut.follows.holds after).3 (subst (λ o. IsSome o) there refl)).0)

pub returns-in-Some-clause-last : goal.returns-in-Some-clause-last
returns-in-Some-clause-last g c last =
    let key = c.args.key.now in
    let there = c.in-Some.ensures.value in
    let after = c.remove.new.self in
    let new = (c.get_mut.follows.lender after).entries in
    sym (ap (λ o. unwrap_or o []) (lookup-tied_by g.K.Ord.cmp g.met.K.Ord.matches_eq key new))
    ∙ ap (λ o. unwrap_or o []) ((c.get_mut.follows.holds after).3 (subst (λ o. IsSome o) there refl)).1
    ∙ empty-from after (sym c.is_empty.ensures ∙ last)

pub returns-in-Some-clause-stay : goal.returns-in-Some-clause-stay
returns-in-Some-clause-stay g c =
    let after = c.remove.new.self in
    same-keys g.K.Ord.cmp c.args.keyed.now.entries (c.get_mut.follows.lender after).entries (c.get_mut.follows.holds after).1
