use Rattle.std.proofs.Common.{◌≡◌, ◌+◌, ◌-◌, length, vec_len, take, arith, rules, ap, ◌∙◌}
use Rattle.zt_link_queues.proofs.Numbers.{numbers_alike, numbers_pushed, taken_again}
use Rattle.zt_link_queues.proofs.places.push_in.Goals as goal

pub returns-in-Ok-clause-numbers : goal.returns-in-Ok-clause-numbers
returns-in-Ok-clause-numbers c =
    rw c.in_ok-push.ensures.items
    (numbers_pushed c.args.numbers.now.items c.put_number.new.numbers.items c.args.places.now.items _ c.in_ok-number.number c.requires c.in-Ok.ensures.ok (omega (arith, c.in_ok-number.ensures, c.len.ensures)))

pub returns-in-Err-clause-err : goal.returns-in-Err-clause-err
returns-in-Err-clause-err c =
    let count : vec_len c.push.new.self ≡ length c.args.places.now.items + 1 = search rules in
    c.pop.ensures.rest ∙ ap (take (vec_len c.push.new.self - 1)) c.in_ok-push.ensures.items ∙ taken_again (vec_len c.push.new.self) c.args.places.now.items _ count

pub returns-in-Err-clause-numbers : goal.returns-in-Err-clause-numbers
returns-in-Err-clause-numbers c =
    let back : c.pop.new.self.items ≡ c.args.places.now.items = returns-in-Err-clause-err c in
    rw back (numbers_alike c.args.numbers.now.items c.put_number.new.numbers.items c.args.places.now.items c.in-Err.ensures.err c.requires)
