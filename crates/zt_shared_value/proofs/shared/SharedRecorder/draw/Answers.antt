use Rattle.std.proofs.Common.{rules, arith, ap, ◌∙◌, refl}
use Rattle.zt_shared_value.specs.Plays.{part_drawn, part_counted}
use Rattle.zt_shared_value.proofs.Standings.{seen_as, standing_made, standing_counted}
use Rattle.zt_shared_value.specs.Passes.{pass_counted}
use Rattle.zt_shared_value.proofs.shared.SharedRecorder.draw.Goals as goal

pub invariant_of-pass-inside : goal.invariant_of-pass-inside
invariant_of-pass-inside g c = let one = c.pass.inside.one in
    let told = c.in-Made.ensures.told one.0 one.1.0 in
    ((part_drawn c.pass.inside.known one.0, (told.0, (one.1.1.0, (one.1.1.1.0, (refl, one.1.1.1.1.1))))), tt)

pub made-requires-clause-alone : goal.made-requires-clause-alone
made-requires-clause-alone g c = let one = c.pass.inside.one in let told = c.in-Made.ensures.told one.0 one.1.0 in (one.0, told.2, one.1.1.1.0)

pub invariant_of-pass-inside-in-Found : goal.invariant_of-pass-inside-in-Found
invariant_of-pass-inside-in-Found g c = let one = c.pass.inside.one in
    let told = c.in-Found.ensures.told one.0 one.1.0 in
    ((part_counted c.in-Found.count one.0, (told.0, (one.1.1.0, (one.1.1.1.0, (refl, one.1.1.1.1.1))))), tt)

pub returns-in-Made-clause-made : goal.returns-in-Made-clause-made
returns-in-Made-clause-made g c = let one = c.pass.inside.one in
    let told = c.in-Made.ensures.told one.0 one.1.0 in
    c.made.ensures one.0 told.2 ∙ standing_made c.pass.inside.seat.table_id c.in-Made.seat.table_id one.0 c.args.pass.now c.pass.view_is told.1 c.pass.inside.known one.1.1.1.1.0

pub returns-in-Found-clause-more : goal.returns-in-Found-clause-more
returns-in-Found-clause-more g c = let one = c.pass.inside.one in
    let told = c.in-Found.ensures.told one.0 one.1.0 in
    let past = told.1 in let few = told.2 in let known = ap (λ pass. pass.known) c.pass.view_is in (omega arith, few)

pub returns-in-Found-clause-other : goal.returns-in-Found-clause-other
returns-in-Found-clause-other g c = let one = c.pass.inside.one in
    let told = c.in-Found.ensures.told one.0 one.1.0 in
    let counted = standing_counted c.pass.inside.seat.table_id c.draw.new.seat.table_id one.0 c.args.pass.now c.pass.view_is c.draw.ensures.seat.0 c.in-Found.count in
    search (rules, seen_as c.draw.new.seat.me c.draw.new.seat.table_id (part_counted c.in-Found.count one.0) (pass_counted c.in-Found.count c.args.pass.now) told.0 counted)
