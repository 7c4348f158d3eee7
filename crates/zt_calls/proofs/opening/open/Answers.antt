use Rattle.std.proofs.Common.{◌∷◌, ◌+◌, [], ℕ, OnOk, subst}
use Rattle.std.proofs.lemmas.Result.{on_ok_weaker}
use Rattle.zt_calls.proofs.Doing.{does-alter, does-both}
use Rattle.zt_calls.specs.Does.{Does}
use Rattle.zt_model.specs.Parts.{Alter, Say, to_face}
use Rattle.zt_model.specs.Routing.{interests_from, opened, opening_final, opening_interests, opening_tokens, tokens_from}
use Rattle.zt_model.specs.Rows.{Rows}
use Rattle.zt_calls.proofs.opening.open.Goals as goal

pub returns : goal.returns
returns g c =
    let cmp = g.K.Ord.cmp in
    let matching = g.K.Key.matching in
    let n = c.made-face.result + 1 in
    let change = opened c.args.zid c.args.whatami c.args.region c.args.bound c.args.first in
    let interests = λ (k : ℕ) (h : Rows g.row.K.Denot). to_face k (λ f. interests_from f.next (opening_interests cmp matching h f)) h in
    let tokens = λ (k : ℕ) (h : Rows g.row.K.Denot). to_face k (λ f. tokens_from f.next (opening_tokens cmp matching h f)) h in
    let final = λ (k : ℕ). to_face k (opening_final cmp matching) in
    let asked = c.in_ok-say.ensures (interests n) c.in_ok-interests.ensures in
    let told = c.in_ok-say-2.ensures (tokens n) c.in_ok-tokens.ensures in
    subst (λ (made : ℕ). OnOk c.say-3.result (Does cmp matching (Alter change ∷ Say (interests (made + 1)) ∷ Say (tokens (made + 1)) ∷ Say (final (made + 1)) ∷ []) c.args.g.now c.say-3.new.g c.args.speech.now c.say-3.new.speech)) c.made-face.ensures.made
    (on_ok_weaker c.say-3.result (λ said. does-both (does-both (does-both (does-alter change c.in_ok-open_face.ensures) asked) told) (said (final n) c.in_ok-finals.ensures)) c.say-3.ensures)
