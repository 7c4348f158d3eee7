use Rattle.std.proofs.Common.{List, Some, IsSome, ap, refl, subst, sym, true, if◌then◌else◌, unwrap_or, [], ◌∙◌}
use Rattle.std.proofs.lemmas.Map.Steps.{set_value_same}
use Rattle.std.proofs.lemmas.Result.{on_err_weaker, on_ok_weaker}
use Rattle.std.specs.BTreeMap.{is_at}
use Rattle.zt_indexes.proofs.Changed.{changed-written}
use Rattle.zt_indexes.proofs.Hashed.{at-number, entries-changed, number-ties}
use Rattle.zt_indexes.specs.Grouped.{is_in, number_cmp}
use Rattle.zt_indexes.proofs.groups.put_in.Goals as goal

pub returns-in-Some-clause-ok : goal.returns-in-Some-clause-ok
returns-in-Some-clause-ok g c =
    let cmp = g.K.Ord.cmp in
    let key = c.args.key in
    let number = c.args.number in
    let old = c.args.groups.now.entries in
    let there = c.in-Some.ensures.value in
    let after = c.insert.new.self in
    let new = (c.get_mut.follows.lender after).entries in
    on_ok_weaker c.insert.result
    (λ is.
    changed-written cmp number key true old new after
    (λ q. is q ∙ ap (λ keys. if is_at (cmp key) q then true else is_in cmp q keys) (ap (λ o. unwrap_or o []) there ∙ at-number number old))
    (entries-changed number_cmp number-ties (Some after) number old new ((c.get_mut.follows.holds after).3 (subst (λ o. IsSome o) there refl)).0))
    c.insert.ensures.ok

-- what was found is written back
pub returns-in-Some-clause-err : goal.returns-in-Some-clause-err
returns-in-Some-clause-err g c =
    let after = c.insert.new.self in
    on_err_weaker c.insert.result
    (λ kept. (c.get_mut.follows.holds after).0 ∙ set_value_same _ c.args.groups.now.entries after (sym c.in-Some.ensures.value ∙ ap (λ (x : List g.row.K.Denot). Some x) (sym kept)))
    c.insert.ensures.err

-- the first key at the number
pub returns-in_ok-insert-in-None-2-clause-ok : goal.returns-in_ok-insert-in-None-2-clause-ok
returns-in_ok-insert-in-None-2-clause-ok g c =
    let cmp = g.K.Ord.cmp in
    let key = c.args.key in
    let number = c.args.number in
    let old = c.args.groups.now.entries in
    let keys = c.insert-in-None.new.self in
    let none = c.new-keys.ensures ∙ ap (λ o. unwrap_or o []) c.in-None.ensures.value ∙ at-number number old in
    changed-written cmp number key true old c.insert-in-None-2.new.self.entries keys
    (λ q. c.in_ok-insert-in-None.ensures.ok q ∙ ap (λ there. if is_at (cmp key) q then true else is_in cmp q there) none)
    (entries-changed number_cmp number-ties (Some keys) number old c.insert-in-None-2.new.self.entries (λ m. rw c.get_mut.follows.holds-at-none at (c.in_ok-insert-in-None-2.ensures.updates.0 m)))
