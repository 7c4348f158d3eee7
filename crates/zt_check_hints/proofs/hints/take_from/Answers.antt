use Rattle.std.proofs.Common.{IsSome, Some, ap, refl, subst, sym, unwrap_or, [], ◌∙◌}
use Rattle.zt_check_hints.proofs.Changed.{apart-written, empty-from, entries-changed, kept-taken, lookup-tied_by}
use Rattle.zt_check_hints.proofs.hints.take_from.Goals as goal

pub returns-in-Some-clause-kept : goal.returns-in-Some-clause-kept
returns-in-Some-clause-kept g c =
    let cmp = g.K.Ord.cmp in
    let expr = c.args.expr.now in
    let old = c.args.places.now.entries in
    let there = c.in-Some.ensures.value in
    let after = c.drop_alike.new.self in
    let new = (c.get_mut.follows.lender after).entries in
    kept-taken cmp g.met.K.Key.laws.equal_is_same (g.H.Hint.alike c.args.gone.now) expr after c.in-Some.list.now old new
    (sym (ap (λ o. unwrap_or o []) (there ∙ lookup-tied_by cmp g.met.K.Ord.matches_eq expr old)))
    c.drop_alike.ensures
    (entries-changed cmp g.met.K.Ord.matches_eq (Some after) expr old new ((c.get_mut.follows.holds after).3 (subst (λ o. IsSome o) there refl)).0)

pub returns-in-Some-clause-last : goal.returns-in-Some-clause-last
returns-in-Some-clause-last g c last =
    let cmp = g.K.Ord.cmp in
    let after = c.drop_alike.new.self in
    let new = (c.get_mut.follows.lender after).entries in
    let there = c.in-Some.ensures.value in
    ap (λ o. unwrap_or o []) (sym (lookup-tied_by cmp g.met.K.Ord.matches_eq c.args.expr.now new) ∙ ((c.get_mut.follows.holds after).3 (subst (λ o. IsSome o) there refl)).1)
    ∙ empty-from after (sym c.is_empty.ensures ∙ last)

pub returns-in-Some-clause-others : goal.returns-in-Some-clause-others
returns-in-Some-clause-others g c q apart =
    let cmp = g.K.Ord.cmp in
    let expr = c.args.expr.now in
    let old = c.args.places.now.entries in
    let there = c.in-Some.ensures.value in
    let after = c.drop_alike.new.self in
    let new = (c.get_mut.follows.lender after).entries in
    apart-written cmp g.met.K.Key.laws.equal_is_same expr q after old new
    (entries-changed cmp g.met.K.Ord.matches_eq (Some after) expr old new ((c.get_mut.follows.holds after).3 (subst (λ o. IsSome o) there refl)).0) apart
