use Rattle.std.proofs.Common.{ap, sym, ◌∙◌}
use Rattle.std.proofs.lemmas.List.Sorted.{list_any-IsPermutation}
use Rattle.std.specs.BTreeMap.{is_at}
use Rattle.zt_indexes.specs.Grouped.{is_in}
use Rattle.zt_indexes.specs.Shown.{among-apart, shown-apart}
use Rattle.zt_indexes.proofs.Apart.{sorted-apart}
use Rattle.zt_indexes.proofs.Seeking.{shown-listed}
use Rattle.zt_indexes.proofs.search.try_shown.Goals as goal

pub returns : goal.returns
returns g c =
    let cmp = g.K.Ord.cmp in
    let total = g.met.K.Ord.total in
    let shown = g.T.RegionTest.passes c.args.test.now in
    let entries = c.args.keys.now.entries in
    let found = c.in_ok-found.found.items in
    let exprs = c.sort_unstable.new.self.items in
    let moved = c.sort_unstable.ensures.permutation in
    let are = c.in_ok-found.ensures.shown in
    let apart = c.in_ok-found.ensures.apart in
    shown-listed cmp total g.met.K.Key.laws.equal_is_same shown entries exprs
    (sorted-apart cmp total found exprs moved c.sort_unstable.ensures.sorted (rw are (shown-apart cmp total shown entries apart)))
    (λ q. sym (list_any-IsPermutation (is_at (cmp q)) found exprs moved) ∙ ap (is_in cmp q) are ∙ among-apart cmp total shown q entries apart)
