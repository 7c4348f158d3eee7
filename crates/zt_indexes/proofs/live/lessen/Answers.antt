use Rattle.std.proofs.Common.{◌-◌, IsSome, Some, [], ap, inl, inr, refl, subst, sym, true, unwrap_or, ◌∙◌}
use Rattle.zt_indexes.specs.Counted.{count_in, is_shown_in, one_in}
use Rattle.zt_indexes.specs.Live.{IsWith}
use Rattle.zt_indexes.proofs.Hashed.{entries-changed, lookup-tied_by}
use Rattle.zt_indexes.proofs.Kept.{counted-less, none-left, none-less, put-there, same-keys, some-left}
use Rattle.zt_indexes.proofs.live.lessen.Goals as goal

pub returns-in-None-clause-less : goal.returns-in-None-clause-less
returns-in-None-clause-less g c =
    let cmp = g.K.Ord.cmp in
    let entries = c.args.keys.now.entries in
    rw c.get_mut.follows.holds-at-none
    (none-less cmp g.met.K.Ord.total c.args.region c.args.expr.now entries (sym (c.in-None.ensures.value ∙ lookup-tied_by cmp g.met.K.Ord.matches_eq c.args.expr.now entries)))

pub returns-in-None-clause-not_last : goal.returns-in-None-clause-not_last
returns-in-None-clause-not_last g c =
    let cmp = g.K.Ord.cmp in
    let entries = c.args.keys.now.entries in
    rw c.get_mut.follows.holds-at-none
    (λ _. inr (sym (c.in-None.ensures.value ∙ lookup-tied_by cmp g.met.K.Ord.matches_eq c.args.expr.now entries)))

pub returns-in-None-clause-stay : goal.returns-in-None-clause-stay
returns-in-None-clause-stay g c = rw c.get_mut.follows.holds-at-none (same-keys g.K.Ord.cmp c.args.keys.now.entries c.args.keys.now.entries refl)

pub returns-in-Some-clause-less : goal.returns-in-Some-clause-less
returns-in-Some-clause-less g c =
    let cmp = g.K.Ord.cmp in
    let ties = g.met.K.Ord.matches_eq in
    let expr = c.args.expr.now in
    let old = c.args.keys.now.entries in
    let after = c.remove.new.self in
    let new = (c.get_mut.follows.lender after).entries in
    let there = c.in-Some.ensures.value in
    let puts : IsWith cmp expr after old new = record { at = entries-changed cmp ties (Some after) expr old new ((c.get_mut.follows.holds after).3 (subst (λ o. IsSome o) there refl)).0 } in
    counted-less cmp g.met.K.Ord.total c.args.region expr after old new puts
    (λ r. c.remove.ensures r ∙ ap (λ rows. count_in r rows - one_in r c.args.region) (ap (λ x. unwrap_or x []) (there ∙ lookup-tied_by cmp ties expr old)))

pub returns-in-Some-clause-last : goal.returns-in-Some-clause-last
returns-in-Some-clause-last g c last =
    let cmp = g.K.Ord.cmp in
    let ties = g.met.K.Ord.matches_eq in
    let expr = c.args.expr.now in
    let old = c.args.keys.now.entries in
    let after = c.remove.new.self in
    let new = (c.get_mut.follows.lender after).entries in
    let there = c.in-Some.ensures.value in
    let puts : IsWith cmp expr after old new = record { at = entries-changed cmp ties (Some after) expr old new ((c.get_mut.follows.holds after).3 (subst (λ o. IsSome o) there refl)).0 } in
    ap (is_shown_in (λ _. true)) (put-there cmp g.met.K.Ord.total c.args.region expr after old new puts) ∙ none-left _ _ c.is_empty.ensures last

pub returns-in-Some-clause-not_last : goal.returns-in-Some-clause-not_last
returns-in-Some-clause-not_last g c more =
    let cmp = g.K.Ord.cmp in
    let ties = g.met.K.Ord.matches_eq in
    let expr = c.args.expr.now in
    let old = c.args.keys.now.entries in
    let after = c.remove.new.self in
    let new = (c.get_mut.follows.lender after).entries in
    let there = c.in-Some.ensures.value in
    let puts : IsWith cmp expr after old new = record { at = entries-changed cmp ties (Some after) expr old new ((c.get_mut.follows.holds after).3 (subst (λ o. IsSome o) there refl)).0 } in
    inl (ap (is_shown_in (λ _. true)) (put-there cmp g.met.K.Ord.total c.args.region expr after old new puts) ∙ some-left _ _ c.is_empty.ensures more)

pub returns-in-Some-clause-stay : goal.returns-in-Some-clause-stay
returns-in-Some-clause-stay g c =
    let after = c.remove.new.self in
    same-keys g.K.Ord.cmp c.args.keys.now.entries (c.get_mut.follows.lender after).entries (c.get_mut.follows.holds after).1
