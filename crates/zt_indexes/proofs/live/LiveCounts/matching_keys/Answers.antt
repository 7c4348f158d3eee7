use Rattle.std.proofs.Common.{ap, is_some, sym, ◌∙◌}
use Rattle.std.proofs.lemmas.Result.{IfOk-weaker}
use Rattle.zt_keys.specs.declared.anchor.Anchor.TheVariants.{Whole}
use Rattle.zt_indexes.proofs.Ordered.{ordered-sorted}
use Rattle.zt_indexes.proofs.Seeking.{plain-found}
use Rattle.zt_indexes.proofs.live.LiveCounts.matching_keys.Goals as goal

-- of keys without wildcards it matches itself alone
pub returns-then-is_some-clause-matching : goal.returns-then-is_some-clause-matching
returns-then-is_some-clause-matching g c =
    IfOk-weaker c.try_plain.result _ _
    (λ exprs found.
    rw (← c.self.view_is)
    (plain-found g.K.Ord.cmp g.met.K.Ord.total g.met.K.Key.laws.equal_is_same g.K.Key.matching (g.K.Key.anchored Whole) g.met.K.Key.laws.plain_is_same (g.T.RegionTest.passes c.args.test.now) c.args.key.now
    (sym (ap is_some c.anchor.ensures) ∙ sym c.is_some.ensures ∙ c.if-is_some.true) c.self.inside.wilds c.self.inside.keys.entries c.self.invariant.wild exprs.items found))
    c.try_plain.ensures

pub returns-then-is_some-clause-in_order : goal.returns-then-is_some-clause-in_order
returns-then-is_some-clause-in_order g c = rw (← c.self.view_is) (ordered-sorted g.K.Ord.cmp g.met.K.Ord.total c.self.inside.keys.entries)

pub returns-in-Some-clause-in_order : goal.returns-in-Some-clause-in_order
returns-in-Some-clause-in_order g c = rw (← c.self.view_is) (ordered-sorted g.K.Ord.cmp g.met.K.Ord.total c.self.inside.keys.entries)

pub returns-in-None-clause-in_order : goal.returns-in-None-clause-in_order
returns-in-None-clause-in_order g c = rw (← c.self.view_is) (ordered-sorted g.K.Ord.cmp g.met.K.Ord.total c.self.inside.keys.entries)
