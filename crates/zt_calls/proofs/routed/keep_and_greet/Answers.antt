use Rattle.std.proofs.lemmas.Result.{on_ok_weaker}
use Rattle.zt_calls.proofs.Doing.{does-alter, does-both}
use Rattle.zt_model.specs.Parts.{to_each}
use Rattle.zt_model.specs.Trees.{counted_table, greet_to, with_table}
use Rattle.zt_calls.proofs.routed.keep_and_greet.Goals as goal

pub returns : goal.returns
returns g c =
    let cmp = g.K.Ord.cmp in
    let region = c.args.region in
    on_ok_weaker c.say.result (λ said. does-both (does-alter (with_table cmp region c.args.table) c.in_ok-keep_table.ensures) (said (λ h. to_each (greet_to cmp h region (counted_table c.args.before.now)) h.faces) c.in_ok-greetings.ensures)) c.say.ensures
