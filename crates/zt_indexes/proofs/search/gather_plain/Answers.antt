use Rattle.std.proofs.Common.{false, ◌&&◌, ◌||◌, ap, ◌∙◌}
use Rattle.zt_indexes.specs.Grouped.{is_in}
use Rattle.zt_indexes.specs.Sought.{is_sought}
use Rattle.zt_indexes.proofs.Seeking.{step}
use Rattle.zt_indexes.proofs.search.gather_plain.Goals as goal

pub returns : goal.returns
returns g c q =
    let cmp = g.K.Ord.cmp in
    let sought = is_sought cmp (g.K.Key.matching c.args.key.now) (g.T.RegionTest.passes c.args.test.now) c.args.keys.now.entries in
    let wilds = c.args.wilds.now in
    c.in_ok-gather_in.ensures q
    ∙ ap (λ b. b || (is_in cmp q wilds && sought q)) (rw c.new-found.ensures.items at (c.in_ok-add_sought.ensures q))
    ∙ step cmp g.met.K.Ord.total g.met.K.Key.laws.equal_is_same sought q c.args.key.now false wilds
