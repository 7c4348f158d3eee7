use Rattle.std.proofs.Common.{◌≡◌, ◌+◌, ◌++◌, [], ◌∷◌, length, ap, arith, subst, ◌∙◌}
use Rattle.std.proofs.lemmas.List.{length-append}
use Rattle.zt_link_queues.specs.Found.{AreNumbers, LacksNumber}
use Rattle.zt_link_queues.proofs.Numbers.{numbers_popped}
use Rattle.zt_link_queues.proofs.places.pop_in.Goals as goal

pub returns-in-Some-clause-numbers : goal.returns-in-Some-clause-numbers
returns-in-Some-clause-numbers c =
    let old = c.args.numbers.now.items in
    let new = c.drop_number.new.numbers.items in
    let left = c.pop.new.self.items in
    let place = c.in-Some.place in
    let whole : c.args.places.now.items ≡ left ++ place ∷ [] = c.in-Some.ensures.items in
    let lacks : LacksNumber place.gateway place.face c.len-number.result old new = rw (c.gateway.ensures, c.face.ensures) at c.drop_number.ensures in
    let count : length c.args.places.now.items ≡ length left + 1 = ap length whole ∙ length-append left (place ∷ []) in
    numbers_popped old new left place c.len-number.result (subst (AreNumbers old) whole c.requires) lacks (omega (arith, c.len-number.ensures, count))
