use Rattle.std.proofs.Common.{ℕ, List, Option, subst, sym, ◌∙◌}
use Rattle.std.proofs.lemmas.Result.{IfOk-weaker}
use Rattle.zt_keys.specs.declared.anchor.Anchor.TheVariants.{First, Last}
use Rattle.zt_indexes.proofs.Seeking.{all-found}
use Rattle.zt_indexes.specs.Grouped.{Covers}
use Rattle.zt_indexes.proofs.anchored.try_anchored.Goals as goal

pub returns-then-count : goal.returns-then-count
returns-then-count g c =
    let cmp = g.K.Ord.cmp in
    let numbered = g.K.Key.anchored Last in
    let counts = c.args.keys.now.entries in
    let covers = subst (λ (groups : List (Option ℕ × List g.row.K.Denot) × List (Option ℕ × List g.row.K.Denot)). Covers cmp numbered groups.1 counts) (sym c.anchored.view_is) c.requires.last in
    IfOk-weaker c.try_at.result _ _
    (λ exprs found.
    all-found cmp g.met.K.Ord.total g.met.K.Key.laws.equal_is_same g.K.Key.matching numbered (g.met.K.Key.laws.anchors_agree Last) (g.T.RegionTest.passes c.args.test.now) c.args.key.now c.in-Some.number
    (sym c.anchor-last.ensures ∙ c.in-Some.is) c.anchored.inside.lasts counts covers exprs.items found)
    c.try_at.ensures

pub returns-then-count-many-2 : goal.returns-then-count-many-2
returns-then-count-many-2 g c =
    let cmp = g.K.Ord.cmp in
    let numbered = g.K.Key.anchored First in
    let counts = c.args.keys.now.entries in
    let covers = subst (λ (groups : List (Option ℕ × List g.row.K.Denot) × List (Option ℕ × List g.row.K.Denot)). Covers cmp numbered groups.0 counts) (sym c.anchored.view_is) c.requires.first in
    IfOk-weaker c.try_at-then-count-many-2.result _ _
    (λ exprs found.
    all-found cmp g.met.K.Ord.total g.met.K.Key.laws.equal_is_same g.K.Key.matching numbered (g.met.K.Key.laws.anchors_agree First) (g.T.RegionTest.passes c.args.test.now) c.args.key.now c.in-Some-first.number
    (sym c.anchor-first.ensures ∙ c.in-Some-first.is) c.anchored.inside.firsts counts covers exprs.items found)
    c.try_at-then-count-many-2.ensures
