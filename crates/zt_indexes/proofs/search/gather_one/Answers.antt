use Rattle.std.proofs.Common.{◌||◌, ◌&&◌, [], ap, sym, ◌∙◌}
use Rattle.std.proofs.lemmas.Result.{on_ok_weaker}
use Rattle.zt_indexes.specs.Grouped.{as_list, is_in}
use Rattle.zt_indexes.specs.Sought.{is_sought}
use Rattle.zt_indexes.proofs.Seeking.{step}
use Rattle.zt_indexes.proofs.Sets.{or_false}
use Rattle.zt_indexes.proofs.search.gather_one.Goals as goal

pub returns-in-Some : goal.returns-in-Some
returns-in-Some g c =
    let cmp = g.K.Ord.cmp in
    let sought = is_sought cmp (g.K.Key.matching c.args.key.now) (g.T.RegionTest.passes c.args.test.now) c.args.keys.now.entries in
    on_ok_weaker c.add_sought.result
    (λ added q. added q ∙ sym (or_false _) ∙ step cmp g.met.K.Ord.total g.met.K.Key.laws.equal_is_same sought q c.in-Some.expr (is_in cmp q c.args.found.now.items) []
    ∙ ap (λ one. is_in cmp q c.args.found.now.items || (is_in cmp q (as_list one) && sought q)) (sym c.in-Some.is))
    c.add_sought.ensures
