use Rattle.std.proofs.Common.{arith, sym}
use Rattle.std.proofs.lemmas.Bool.{ltb-true}
use Rattle.std.proofs.lemmas.Bool.Decides.{nat_tests}
use Rattle.zt_ordered.proofs.Pairs.{place-after}
use Rattle.zt_ordered.proofs.search.are_below.Goals as goal

pub returns-in-Some-clause-behind : goal.returns-in-Some-clause-behind
returns-in-Some-clause-behind g c = λ above.
    let rows = c.args.rows.now in
    let less = ltb-true _ _ above in
    place-after g.R.Numbered.pair c.args.number rows (g.R.Numbered.pairs rows) (g.met.R.Numbered.pairs_are rows) c.requires c.in-Some.last.now
    (sym c.in-Some.ensures.value) (grind (arith, nat_tests, c.number.ensures))
