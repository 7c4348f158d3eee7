use Rattle.std.proofs.Common.{◌≡◌, [], Some, ap, inl, slice_get, sym, unwrap_or, ◌∙◌}
use Rattle.indexmap.specs.IndexMap.{set_value_at}
use Rattle.zt_token_index.specs.Told.{told_at, without_face}
use Rattle.zt_token_index.proofs.Changed.{changes-written, empty-from, failed, found-with, passed, some-from}
use Rattle.zt_token_index.proofs.Placed.{stands-written, value-there, with-written}
use Rattle.zt_token_index.proofs.index.drop_at.Goals as goal

pub returns-clause-drops : goal.returns-clause-drops
returns-clause-drops g c =
    let cmp = g.K.Ord.cmp in
    let expr = c.args.expr.now in
    let old = c.args.faces.now.entries in
    let at = c.in_ok-at.at in
    let told = told_at cmp expr old in
    let change = without_face c.args.face in
    let after = c.remove.new.self in
    let there = c.in_ok-at.ensures.found in
    let was = value-there old at (expr, told) c.index_mut-told.result.now there c.index_mut-told.ensures.value in
    let puts = with-written cmp g.met.K.Ord.matches_eq g.met.K.Eq.laws c.args.faces.now c.place_of.ensures.unique expr at told after there in
    let is : after ≡ change told = ◌∙◌ {b = change c.index_mut-told.result.now} c.remove.ensures (ap change was) in
    changes-written cmp g.met.K.Ord.total expr change old (set_value_at old at after) after is puts

pub returns-clause-last : goal.returns-clause-last
returns-clause-last g c =
    let expr = c.args.expr.now in
    let old = c.args.faces.now.entries in
    let at = c.in_ok-at.at in
    let after = c.remove.new.self in
    let written = stands-written old at (expr, told_at g.K.Ord.cmp expr old) after c.in_ok-at.ensures.found in
    rw c.then_some.ensures
    (passed c.is_empty.result at (λ place. slice_get (set_value_at old at after) place ≡ Some (expr, []))
    (λ none. written ∙ ap (λ pairs. Some (expr, pairs)) (empty-from after (sym c.is_empty.ensures ∙ none))))

pub returns-clause-none : goal.returns-clause-none
returns-clause-none g c =
    let cmp = g.K.Ord.cmp in
    let expr = c.args.expr.now in
    let old = c.args.faces.now.entries in
    let at = c.in_ok-at.at in
    let after = c.remove.new.self in
    let new = set_value_at old at after in
    let puts = with-written cmp g.met.K.Ord.matches_eq g.met.K.Eq.laws c.args.faces.now c.place_of.ensures.unique expr at (told_at cmp expr old) after c.in_ok-at.ensures.found in
    let found = ap (λ found. unwrap_or found []) (found-with cmp g.met.K.Ord.total expr after old new puts) in
    rw c.then_some.ensures
    (passed c.is_empty.result at (λ place. told_at cmp expr new ≡ []) (λ none. found ∙ empty-from after (sym c.is_empty.ensures ∙ none)))

pub returns-clause-not_last : goal.returns-clause-not_last
returns-clause-not_last g c =
    let cmp = g.K.Ord.cmp in
    let expr = c.args.expr.now in
    let old = c.args.faces.now.entries in
    let at = c.in_ok-at.at in
    let after = c.remove.new.self in
    let puts = with-written cmp g.met.K.Ord.matches_eq g.met.K.Eq.laws c.args.faces.now c.place_of.ensures.unique expr at (told_at cmp expr old) after c.in_ok-at.ensures.found in
    let found = ap (λ found. unwrap_or found []) (found-with cmp g.met.K.Ord.total expr after old (set_value_at old at after) puts) in
    rw c.then_some.ensures
    (failed c.is_empty.result at (λ more. inl (λ none. some-from after (sym c.is_empty.ensures ∙ more) (sym found ∙ none))))
