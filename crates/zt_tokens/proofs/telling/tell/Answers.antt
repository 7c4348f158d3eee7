use Rattle.std.proofs.Common.{◌≡◌, [], ap, flat_map, true, false, ◌∙◌}
use Rattle.std.proofs.lemmas.Result.{IfOk-weaker}
use Rattle.zt_token_index.specs.Told.{id_of}
use Rattle.zt_model.specs.Parts.{told_id}
use Rattle.zt_model.specs.Telling.{tell_to}
use Rattle.zt_model.specs.Wants.{seeks}
use Rattle.zt_tokens.specs.Seeking.{tell_among, tell_seeker}
use Rattle.zt_tokens.specs.Walks.{given_at, sent_to}
use Rattle.zt_tokens.proofs.Chosen.{chosen_alike, each-then, each_alike, everywhere}
use Rattle.zt_tokens.proofs.Unsought.{sought-told, tells-by, unsought-untold}
use Rattle.zt_tokens.proofs.telling.tell.Goals as goal

pub returns-in-Some : goal.returns-in-Some
returns-in-Some g c =
    let cmp = g.K.Ord.cmp in
    let matching = g.K.Key.matching in
    let e = c.args.expr.now in
    let rows = c.args.g.now in
    let source = c.args.source in
    let pairs = c.told_at-told.result.now in
    let rule = tell_to cmp matching rows source e in
    let by = tell_seeker rows source e pairs in
    let numbers = c.deref.ensures.value ∙ rw c.in-Some.is at c.in_ok-numbers.ensures.found in
    IfOk-weaker c.say_at.result _ _
    (λ sends given.
    given
    ∙ ap (flat_map (given_at (sent_to by) rows.faces)) numbers
    ∙ chosen_alike rule by rows.faces (λ f. seeks matching rows.mode f e) c.in_ok-numbers.ensures.rising
    (each-then (λ f. id_of f.number pairs ≡ told_id cmp e f.told) (λ f. seeks matching rows.mode f e ≡ true → by f ≡ rule f) (λ f. sought-told matching rows source e f cmp (id_of f.number pairs)) rows.faces c.told_at-told.ensures.told.ids)
    (everywhere (λ f. seeks matching rows.mode f e ≡ false → rule f ≡ []) (λ f. unsought-untold matching rows source e f cmp) rows.faces))
    c.say_at.ensures

pub returns-in-None : goal.returns-in-None
returns-in-None g c =
    let cmp = g.K.Ord.cmp in
    let matching = g.K.Key.matching in
    let e = c.args.expr.now in
    let rows = c.args.g.now in
    let source = c.args.source in
    let pairs = c.told_at-told.result.now in
    let rule = tell_to cmp matching rows source e in
    let by = tell_among matching rows source e pairs in
    IfOk-weaker c.say_each.result _ _
    (λ sends given.
    given
    ∙ each_alike rule by rows.faces
    (each-then (λ f. id_of f.number pairs ≡ told_id cmp e f.told) (λ f. by f ≡ rule f) (λ f. tells-by matching rows source e f cmp (id_of f.number pairs)) rows.faces c.told_at-told.ensures.told.ids))
    c.say_each.ensures
