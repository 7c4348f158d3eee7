use Rattle.std.proofs.Common.{◌++◌, [], ◌∷◌, IsSome, List, Option, Some, ap, refl, subst, unwrap_or, ℕ, ◌∙◌}
use Rattle.zt_indexes.proofs.Hashed.{entries-changed, lookup-tied_by}
use Rattle.zt_interest_index.proofs.Changed.{changes-written, same-keys}
use Rattle.zt_interest_index.proofs.keyed.add_to.Goals as goal

pub returns-in_err-push-in-Some-clause-stay : goal.returns-in_err-push-in-Some-clause-stay
returns-in_err-push-in-Some-clause-stay g c =
    let after = c.push.new.self in
    same-keys g.K.Ord.cmp c.args.keyed.now.entries (c.get_mut.follows.lender after).entries (c.get_mut.follows.holds after).1

pub returns-in_ok-push-in-Some-clause-more : goal.returns-in_ok-push-in-Some-clause-more
returns-in_ok-push-in-Some-clause-more g c _ =
    let cmp = g.K.Ord.cmp in
    let ties = g.met.K.Ord.matches_eq in
    let key = c.args.key.now in
    let old = c.args.keyed.now.entries in
    let after = c.push.new.self in
    let new = (c.get_mut.follows.lender after).entries in
    let there = c.in-Some.ensures.value in
    let more : List ((ℕ × ℕ) × Option g.row.K.Denot) → List ((ℕ × ℕ) × Option g.row.K.Denot) = λ rows. rows ++ ((c.args.face, c.args.id), Some key) ∷ [] in
    changes-written cmp g.met.K.Ord.total key more old new after
    (rw c.in_ok-copy.ensures at c.in_ok-push-in-Some.ensures.ok ∙ ap more (ap (λ x. unwrap_or x []) (there ∙ lookup-tied_by cmp ties key old)))
    (entries-changed cmp ties (Some after) key old new ((c.get_mut.follows.holds after).3 (subst (λ o. IsSome o) there refl)).0)

pub returns-in_ok-push-in-Some-clause-stay : goal.returns-in_ok-push-in-Some-clause-stay
returns-in_ok-push-in-Some-clause-stay g c =
    let after = c.push.new.self in
    same-keys g.K.Ord.cmp c.args.keyed.now.entries (c.get_mut.follows.lender after).entries (c.get_mut.follows.holds after).1
