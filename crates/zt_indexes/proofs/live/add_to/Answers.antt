use Rattle.std.proofs.Common.{ℕ, ◌+◌, IsSome, List, Some, [], ap, refl, subst, sym, unwrap_or, ◌∙◌}
use Rattle.std.proofs.lemmas.Map.Steps.{set_value_same}
use Rattle.zt_region.specs.declared.region.Region.{Region}
use Rattle.zt_indexes.specs.Counted.{count_in, one_in}
use Rattle.zt_indexes.proofs.Hashed.{entries-changed, lookup-tied_by}
use Rattle.zt_indexes.proofs.Kept.{counted-more, same-keys}
use Rattle.zt_indexes.proofs.Less.{at-err}
use Rattle.zt_indexes.proofs.live.add_to.Goals as goal

-- what was found is written back
pub returns-in_err-add-in-Some-clause-err : goal.returns-in_err-add-in-Some-clause-err
returns-in_err-add-in-Some-clause-err g c =
    let kept = c.in_err-add-in-Some.ensures in
    at-err c.from_residual.result
    ((c.get_mut.follows.holds c.add.new.self).0
    ∙ set_value_same _ c.args.keys.now.entries c.add.new.self (sym c.in-Some.ensures.value ∙ ap (λ (x : List (Region × ℕ)). Some x) (sym kept.err)))

pub returns-in_err-add-in-Some-clause-stay : goal.returns-in_err-add-in-Some-clause-stay
returns-in_err-add-in-Some-clause-stay g c =
    let after = c.add.new.self in
    same-keys g.K.Ord.cmp c.args.keys.now.entries (c.get_mut.follows.lender after).entries (c.get_mut.follows.holds after).1

pub returns-in_ok-add-in-Some-clause-more : goal.returns-in_ok-add-in-Some-clause-more
returns-in_ok-add-in-Some-clause-more g c _ =
    let cmp = g.K.Ord.cmp in
    let ties = g.met.K.Ord.matches_eq in
    let expr = c.args.expr.now in
    let old = c.args.keys.now.entries in
    let after = c.add.new.self in
    let new = (c.get_mut.follows.lender after).entries in
    let there = c.in-Some.ensures.value in
    counted-more cmp g.met.K.Ord.total c.args.region expr after old new
    (record { at = entries-changed cmp ties (Some after) expr old new ((c.get_mut.follows.holds after).3 (subst (λ o. IsSome o) there refl)).0 })
    (λ r. c.in_ok-add-in-Some.ensures.ok r ∙ ap (λ rows. count_in r rows + one_in r c.args.region) (ap (λ x. unwrap_or x []) (there ∙ lookup-tied_by cmp ties expr old)))

pub returns-in_ok-add-in-Some-clause-stay : goal.returns-in_ok-add-in-Some-clause-stay
returns-in_ok-add-in-Some-clause-stay g c =
    let after = c.add.new.self in
    same-keys g.K.Ord.cmp c.args.keys.now.entries (c.get_mut.follows.lender after).entries (c.get_mut.follows.holds after).1
