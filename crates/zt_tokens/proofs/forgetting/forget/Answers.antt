use Rattle.std.proofs.Common.{◌≡◌, ap, flat_map, sym, true, ◌∙◌}
use Rattle.std.proofs.lemmas.Result.{IfOk-weaker}
use Rattle.zt_token_index.specs.Told.{id_of}
use Rattle.zt_model.specs.Parts.{to_each, told_id}
use Rattle.zt_model.specs.Telling.{forget_to}
use Rattle.zt_model.specs.Wants.{seeks}
use Rattle.zt_tokens.specs.Gone.{forget_told}
use Rattle.zt_tokens.specs.Walks.{given_at, sent_to}
use Rattle.zt_tokens.proofs.Chosen.{chosen_alike, each-then, each_alike}
use Rattle.zt_tokens.proofs.Gone.{forgets-by}
use Rattle.zt_tokens.proofs.Unheard.{others-unheard}
use Rattle.zt_tokens.proofs.forgetting.forget.Goals as goal
use Rattle.zt_tokens.proofs.forgetting.forget.Goals.{in-Some+in_ok-sends+else-count-forgets, in_default}

pub returns-then-count-forgets : goal.returns-then-count-forgets
returns-then-count-forgets g c =
    let cmp = g.K.Ord.cmp in
    let matching = g.K.Key.matching in
    let e = c.args.expr.now in
    let rows = c.args.g.now in
    let source = c.args.source in
    let pairs = c.told_at.result.now in
    let told = c.told_at.ensures.told in
    let rule = forget_to cmp matching rows source e in
    let by = forget_told cmp matching c.is_gone.result rows source e pairs in
    let found = rw c.in-Some.is at c.in_ok-numbers.ensures.found in
    let numbers = c.deref.ensures.value ∙ found in
    let rising = c.in_ok-numbers.ensures.rising in
    c.in_ok-sends.ensures.said
    ∙ ap (flat_map (given_at (sent_to by) rows.faces)) numbers
    ∙ chosen_alike rule by rows.faces (λ f. seeks matching rows.mode f e) rising
    (each-then (λ f. id_of f.number pairs ≡ told_id cmp e f.told) (λ f. seeks matching rows.mode f e ≡ true → by f ≡ rule f) (λ f is sought. forgets-by cmp matching c.is_gone.result rows source e c.is_gone.ensures f (id_of f.number pairs) is) rows.faces told.ids)
    (others-unheard cmp e matching rows source pairs told c.deref.result.now rising numbers (sym c.if-count-forgets.true ∙ c.in_ok-sends.ensures.counted))

pub returns : goal.returns
returns g c =
    let cmp = g.K.Ord.cmp in
    let matching = g.K.Key.matching in
    let e = c.args.expr.now in
    let rows = c.args.g.now in
    let source = c.args.source in
    let pairs = c.told_at.result.now in
    let rule = forget_to cmp matching rows source e in
    let by = forget_told cmp matching c.is_gone.result rows source e pairs in
    let forgets : c.match-branch-2.forgets ≡ (source, (c.args.expr, (c.is_gone.result, (c.told_at.result, tt)))) =
    elim c.match-branch-2.branch [ in-Some+in_ok-sends+else-count-forgets w ↦ w.forgets-is | in_default w ↦ w.forgets-is ] in
    IfOk-weaker c.say_each.result _ _
    (λ sends given.
    given
    ∙ (λ i. to_each (forget_told cmp matching (forgets i).1.1.0 rows (forgets i).0 (forgets i).1.0.now (forgets i).1.1.1.0.now) rows.faces)
    ∙ each_alike rule by rows.faces
    (each-then (λ f. id_of f.number pairs ≡ told_id cmp e f.told) (λ f. by f ≡ rule f) (λ f. forgets-by cmp matching c.is_gone.result rows source e c.is_gone.ensures f (id_of f.number pairs)) rows.faces c.told_at.ensures.told.ids))
    c.say_each.ensures
