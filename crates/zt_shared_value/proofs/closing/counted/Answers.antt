use Rattle.std.proofs.Common.{rules, arith, ◌≤◌, refl, ap}
use Rattle.zt_shared_value.specs.Plays.{part_counted}
use Rattle.zt_shared_value.specs.Passes.{pass_counted}
use Rattle.zt_shared_value.proofs.Standings.{seen_as, standing_counted}
use Rattle.zt_shared_value.proofs.closing.counted.Goals as goal

pub overflow_cast-count : goal.overflow_cast-count
overflow_cast-count g c = let one = c.pass.inside.one in
    let told = c.count-count.ensures.told one.0 one.1.0 in
    let few : c.count-count.result ≤ 4294967295 = told.2 in search rules

pub invariant_of-pass-inside : goal.invariant_of-pass-inside
invariant_of-pass-inside g c = let one = c.pass.inside.one in
    let told = c.count-count.ensures.told one.0 one.1.0 in
    ((part_counted c.count-count.result one.0, (told.0, (one.1.1.0, (one.1.1.1.0, (refl, one.1.1.1.1.1))))), tt)

pub returns-clause-counted : goal.returns-clause-counted
returns-clause-counted g c = let one = c.pass.inside.one in
    let told = c.count-count.ensures.told one.0 one.1.0 in
    let counted = standing_counted c.pass.inside.seat.table_id c.count-count.new.seat.table_id one.0 c.args.pass.now c.pass.view_is c.count-count.ensures.seat.0 c.count-count.result in
    search (rules, seen_as c.count-count.new.seat.me c.count-count.new.seat.table_id (part_counted c.count-count.result one.0) (pass_counted c.count-count.result c.args.pass.now) told.0 counted)

pub returns-clause-more : goal.returns-clause-more
returns-clause-more g c = let one = c.pass.inside.one in
    let told = c.count-count.ensures.told one.0 one.1.0 in
    let more = told.1 in let known = ap (λ pass. pass.known) c.pass.view_is in omega arith
