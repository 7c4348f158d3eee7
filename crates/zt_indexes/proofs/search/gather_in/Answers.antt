use Rattle.std.proofs.Common.{◌&&◌, ◌||◌, ap, sym, ◌∙◌}
use Rattle.std.proofs.lemmas.Result.{on_ok_weaker}
use Rattle.zt_indexes.specs.Grouped.{as_list, is_in}
use Rattle.zt_indexes.specs.Sought.{is_sought}
use Rattle.zt_indexes.proofs.Sets.{both-gathered, in-both}
use Rattle.zt_indexes.proofs.search.gather_in.Goals as goal

pub returns : goal.returns
returns g c =
    let cmp = g.K.Ord.cmp in
    let sought = is_sought cmp (g.K.Key.matching c.args.key.now) (g.T.RegionTest.passes c.args.test.now) c.args.keys.now.entries in
    let one = as_list c.parts.result.0.now in
    let more = c.parts.result.1.now in
    on_ok_weaker c.gather_more.result
    (λ added q.
    added q
    ∙ ap (λ b. b || (is_in cmp q more && sought q)) (c.in_ok-gather_one.ensures q)
    ∙ both-gathered (is_in cmp q c.args.found.now.items) (is_in cmp q one) (is_in cmp q more) (sought q)
    ∙ ap (λ b. is_in cmp q c.args.found.now.items || (b && sought q)) (sym (in-both cmp g.met.K.Ord.total q one more) ∙ ap (is_in cmp q) (sym c.parts.ensures)))
    c.gather_more.ensures
