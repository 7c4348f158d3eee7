use Rattle.std.proofs.Common.{IsSome, Some, ap, false, if◌then◌else◌, refl, subst, sym, unwrap_or, [], ◌∙◌}
use Rattle.std.specs.BTreeMap.{is_at}
use Rattle.zt_indexes.proofs.Changed.{changed-none, changed-written, empty-from}
use Rattle.zt_indexes.proofs.Hashed.{at-number, entries-changed, number-ties}
use Rattle.zt_indexes.specs.Grouped.{is_in, number_cmp}
use Rattle.zt_indexes.proofs.groups.drop_from.Goals as goal

pub returns-in-None-clause-drops : goal.returns-in-None-clause-drops
returns-in-None-clause-drops g c =
    let old = c.args.groups.now.entries in
    rw c.get_mut.follows.holds-at-none
    (changed-none g.K.Ord.cmp c.args.number c.args.key.now old (sym (ap (λ o. unwrap_or o []) c.in-None.ensures.value ∙ at-number c.args.number old)))

pub returns-in-Some-clause-drops : goal.returns-in-Some-clause-drops
returns-in-Some-clause-drops g c =
    let cmp = g.K.Ord.cmp in
    let key = c.args.key.now in
    let number = c.args.number in
    let old = c.args.groups.now.entries in
    let there = c.in-Some.ensures.value in
    let after = c.remove.new.self in
    let new = (c.get_mut.follows.lender after).entries in
    changed-written cmp number key false old new after
    (λ q. c.remove.ensures q ∙ ap (λ keys. if is_at (cmp key) q then false else is_in cmp q keys) (ap (λ o. unwrap_or o []) there ∙ at-number number old))
    (entries-changed number_cmp number-ties (Some after) number old new ((c.get_mut.follows.holds after).3 (subst (λ o. IsSome o) there refl)).0)

pub returns-in-Some-clause-last : goal.returns-in-Some-clause-last
returns-in-Some-clause-last g c last =
    let after = c.remove.new.self in
    let new = (c.get_mut.follows.lender after).entries in
    let there = c.in-Some.ensures.value in
    sym (at-number c.args.number new)
    ∙ ap (λ o. unwrap_or o []) ((c.get_mut.follows.holds after).3 (subst (λ o. IsSome o) there refl)).1
    ∙ empty-from after (sym c.is_empty.ensures ∙ last)
