use Rattle.std.proofs.Common.{arith, sym}
use Rattle.std.proofs.lemmas.Bool.{eqb-true, ltb-true}
use Rattle.std.proofs.lemmas.Bool.Decides.{nat_tests}
use Rattle.zt_ordered.proofs.Pairs.{place-stands}
use Rattle.zt_ordered.proofs.search.stands_at.Goals as goal

pub returns-in-Some-clause-found : goal.returns-in-Some-clause-found
returns-in-Some-clause-found g c = λ same.
    let rows = c.args.rows.now in
    let tie = eqb-true _ _ same in
    place-stands g.R.Numbered.pair c.args.number rows (g.R.Numbered.pairs rows) (g.met.R.Numbered.pairs_are rows) c.requires c.args.at c.in-Some.row.now
    (ltb-true _ _ (sym c.in-Some.ensures.lookup.0)) c.in-Some.ensures.lookup.1 (grind (arith, nat_tests, c.number.ensures))
