use Rattle.std.proofs.Common.{rules}
use Rattle.std.proofs.lemmas.Fn.{always_returns_same}
use Rattle.std.specs.Ordering.{nat_cmp}
use Rattle.zt_ordered.proofs.Pairs.{place-halves}
use Rattle.zt_ordered.proofs.search.search_halves.Goals as goal

pub returns-clause-place : goal.returns-clause-place
returns-clause-place g c =
    let rows = c.args.rows.now in
    let facts = c.binary_search_by.ensures in
    let searched = facts.position (λ row. nat_cmp (g.R.Numbered.pair row).0 c.args.number) (always_returns_same _ _ _ (λ a r h called. (search rules, search rules))) in
    place-halves g.R.Numbered.pair c.args.number rows (g.R.Numbered.pairs rows) (g.met.R.Numbered.pairs_are rows) c.requires _ facts.bound searched
