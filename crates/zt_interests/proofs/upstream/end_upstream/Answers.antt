use Rattle.std.proofs.Common.{◌≡◌, ◌==◌, Bool, true, false, List, [], ◌∷◌, ap, arith, eqb-true, flat_map, if◌then◌else◌, length, map, filter, refl, rules, sym, ◌∙◌}
use Rattle.std.proofs.lemmas.Result.{IfOk-weaker}
use Rattle.zt_protocol.specs.declared.messages.Message.{Message}
use Rattle.zt_region.specs.Region.{is_north}
use Rattle.zt_model.specs.Parts.{to_each}
use Rattle.zt_model.specs.Routing.{is_held_south}
use Rattle.zt_tokens.specs.Walks.{given_at, sent_to}
use Rattle.zt_tokens.proofs.Chosen.{chosen_each}
use Rattle.zt_interests.specs.Ended.{ended_at}
use Rattle.zt_interests.proofs.North.{ended-is, south-unended}
use Rattle.zt_interests.proofs.upstream.end_upstream.Goals as goal

nothing : {A : Type 0} (xs : List A) → (length xs == 0) ≡ true → [] ≡ xs
nothing [] none = refl
nothing (x ∷ xs) none = absurd (omega (arith, eqb-true (length (x ∷ xs)) 0 none))

-- nothing is nothing, whatever the test
either_way : {A : Type 0} (test : Bool) (xs : List A) → [] ≡ xs → [] ≡ (if test then [] else xs)
either_way true xs none = refl
either_way false xs none = none

pub returns-then-is_empty : goal.returns-then-is_empty
returns-then-is_empty g c =
    let rows = c.args.g.now in
    let cmp = g.K.Ord.cmp in
    let matching = g.K.Key.matching in
    let interest = c.args.interest.now in
    let rule = ended_at cmp matching interest in
    let none : (length c.north-north.result.now == 0) ≡ true = search rules in
    let given =
    ap (flat_map (given_at (sent_to rule) rows.faces)) (nothing c.north-north.result.now none ∙ c.north-north.ensures.north)
    ∙ chosen_each rule rows.faces (λ f. is_north f.region) c.north-north.ensures.rising (south-unended cmp matching interest) in
    c.new.ensures.items
    ∙ either_way (is_held_south cmp matching rows interest) (to_each rule rows.faces) given
    ∙ ended-is cmp matching rows interest rows.faces

pub returns-then-is_held_south : goal.returns-then-is_held_south
returns-then-is_held_south g c =
    let rows = c.args.g.now in
    let cmp = g.K.Ord.cmp in
    let matching = g.K.Key.matching in
    let interest = c.args.interest.now in
    let held : is_held_south cmp matching rows interest ≡ true = sym c.is_held_south.ensures ∙ c.if-is_held_south.true in
    c.new-then-is_held_south.ensures.items
    ∙ ap (λ test. if test then [] else to_each (ended_at cmp matching interest) rows.faces) (sym held)
    ∙ ended-is cmp matching rows interest rows.faces

pub returns : goal.returns
returns g c =
    let rows = c.args.g.now in
    let cmp = g.K.Ord.cmp in
    let matching = g.K.Key.matching in
    let interest = c.args.interest.now in
    let rule = ended_at cmp matching interest in
    let unheld : is_held_south cmp matching rows interest ≡ false = sym c.is_held_south.ensures ∙ c.if-is_held_south.false in
    IfOk-weaker c.say_at.result _ _
    (λ sends given.
    given
    ∙ ap (flat_map (given_at (sent_to rule) rows.faces)) c.north-north.ensures.north
    ∙ chosen_each rule rows.faces (λ f. is_north f.region) c.north-north.ensures.rising (south-unended cmp matching interest)
    ∙ ap (λ test. if test then [] else to_each rule rows.faces) (sym unheld)
    ∙ ended-is cmp matching rows interest rows.faces)
    c.say_at.ensures
