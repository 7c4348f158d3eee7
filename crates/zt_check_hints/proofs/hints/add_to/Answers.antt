use Rattle.std.proofs.Common.{IsSome, Some, Ok, Err, Result, OnOk, OnErr, ap, refl, subst, sym, unwrap_or, [], ◌∙◌, ◌≡◌}
use Rattle.std.proofs.lemmas.Result.{on_ok_weaker}
use Rattle.std.specs.Ordering.{is_eq}
use Rattle.std.specs.Cmp.{tied_itself}
use Rattle.zt_check_hints.proofs.Changed.{entries-changed, hinted-added, kept-added, lookup-tied_by}
use Rattle.zt_check_hints.specs.Hinted.{KeepsAll}
use Rattle.zt_check_hints.proofs.hints.add_to.Goals as goal

pub returns-in-Some-clause-kept : goal.returns-in-Some-clause-kept
returns-in-Some-clause-kept g c =
    let cmp = g.K.Ord.cmp in
    let expr = c.args.expr.now in
    let old = c.args.places.now.entries in
    let there = c.in-Some.ensures.value in
    let after = c.add.new.self in
    let new = (c.get_mut.follows.lender after).entries in
    kept-added cmp g.met.K.Key.laws.equal_is_same expr after c.in-Some.list.now old new
    (sym (ap (λ o. unwrap_or o []) (there ∙ lookup-tied_by cmp g.met.K.Ord.matches_eq expr old)))
    c.add.ensures.kept
    (entries-changed cmp g.met.K.Ord.matches_eq (Some after) expr old new ((c.get_mut.follows.holds after).3 (subst (λ o. IsSome o) there refl)).0)

pub returns-in-Some-clause-hinted : goal.returns-in-Some-clause-hinted
returns-in-Some-clause-hinted g c =
    let cmp = g.K.Ord.cmp in
    let expr = c.args.expr.now in
    let old = c.args.places.now.entries in
    let there = c.in-Some.ensures.value in
    let after = c.add.new.self in
    let new = (c.get_mut.follows.lender after).entries in
    on_ok_weaker c.add.result
    (λ has.
    hinted-added cmp g.met.K.Key.laws.equal_is_same c.args.hint expr after old new
    (ap is_eq (tied_itself g.met.K.Ord.total expr)) has
    (entries-changed cmp g.met.K.Ord.matches_eq (Some after) expr old new ((c.get_mut.follows.holds after).3 (subst (λ o. IsSome o) there refl)).0))
    c.add.ensures.has

pub returns-in_ok-insert-in-None-clause-kept : goal.returns-in_ok-insert-in-None-clause-kept
returns-in_ok-insert-in-None-clause-kept g c =
    let cmp = g.K.Ord.cmp in
    let expr = c.args.expr.now in
    let old = c.args.places.now.entries in
    let list = c.add-in-None.new.self in
    let updates = rw c.in_ok-copy-in-None.ensures at c.in_ok-insert-in-None.ensures.updates.0 in
    kept-added cmp g.met.K.Key.laws.equal_is_same expr list [] old c.insert.new.self.entries
    (sym (ap (λ o. unwrap_or o []) (c.in-None.ensures.value ∙ lookup-tied_by cmp g.met.K.Ord.matches_eq expr old)))
    (subst (λ xs. KeepsAll xs list) c.new-list.ensures c.in_ok-add-in-None.ensures.kept)
    (entries-changed cmp g.met.K.Ord.matches_eq (Some list) expr old c.insert.new.self.entries (λ m. rw c.get_mut.follows.holds-at-none at (updates m)))

pub returns-in_ok-insert-in-None-clause-hinted : goal.returns-in_ok-insert-in-None-clause-hinted
returns-in_ok-insert-in-None-clause-hinted g c =
    let cmp = g.K.Ord.cmp in
    let expr = c.args.expr.now in
    let old = c.args.places.now.entries in
    let list = c.add-in-None.new.self in
    let updates = rw c.in_ok-copy-in-None.ensures at c.in_ok-insert-in-None.ensures.updates.0 in
    hinted-added cmp g.met.K.Key.laws.equal_is_same c.args.hint expr list old c.insert.new.self.entries
    (ap is_eq (tied_itself g.met.K.Ord.total expr))
    c.in_ok-add-in-None.ensures.has
    (entries-changed cmp g.met.K.Ord.matches_eq (Some list) expr old c.insert.new.self.entries (λ m. rw c.get_mut.follows.holds-at-none at (updates m)))
