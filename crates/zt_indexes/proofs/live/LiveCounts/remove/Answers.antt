use Rattle.std.proofs.Common.{inr}
use Rattle.zt_keys.specs.declared.anchor.Anchor.TheVariants.{Whole}
use Rattle.zt_indexes.proofs.Regrouped.{groups-same}
use Rattle.zt_indexes.specs.Wild.{wild-less, wild-same}
use Rattle.zt_indexes.proofs.Less.{key-gone, less-dropped}
use Rattle.zt_indexes.proofs.Ordered.{ordered-less, ordered-tidy}
use Rattle.zt_indexes.proofs.live.LiveCounts.remove.Goals as goal

pub returns-then-lessen-clause-less : goal.returns-then-lessen-clause-less
returns-then-lessen-clause-less g c =
    let cmp = g.K.Ord.cmp in
    let total = g.met.K.Ord.total in
    let old = c.self.inside.keys.entries in
    let less = c.lessen.new.keys.entries in
    let new = c.drop_key.new.keys.entries in
    rw (← c.self.view_is)
    (ordered-less cmp total c.args.region c.args.expr.now old new
    (less-dropped cmp total c.args.region c.args.expr.now old less new c.lessen.ensures.less (c.lessen.ensures.last c.if-lessen.true) c.drop_key.ensures))

pub returns-then-lessen-clause-tidy : goal.returns-then-lessen-clause-tidy
returns-then-lessen-clause-tidy g c =
    let cmp = g.K.Ord.cmp in
    let total = g.met.K.Ord.total in
    let new = c.drop_key.new.keys.entries in
    ordered-tidy cmp total c.args.region c.args.expr.now new (inr (key-gone cmp total c.args.expr.now c.lessen.new.keys.entries new c.drop_key.ensures))

pub returns-else-lessen-clause-less : goal.returns-else-lessen-clause-less
returns-else-lessen-clause-less g c =
    rw (← c.self.view_is)
    (ordered-less g.K.Ord.cmp g.met.K.Ord.total c.args.region c.args.expr.now c.self.inside.keys.entries c.lessen.new.keys.entries c.lessen.ensures.less)

pub returns-else-lessen-clause-tidy : goal.returns-else-lessen-clause-tidy
returns-else-lessen-clause-tidy g c =
    ordered-tidy g.K.Ord.cmp g.met.K.Ord.total c.args.region c.args.expr.now c.lessen.new.keys.entries (c.lessen.ensures.not_last c.if-lessen.false)

-- the expression goes from wherever it stood
pub invariant_of-self : goal.invariant_of-self
invariant_of-self g c =
    let cmp = g.K.Ord.cmp in
    let anchored = g.K.Key.anchored in
    let expr = c.args.expr.now in
    let own = c.self.inside in
    let old = own.keys.entries in
    let less = c.lessen.new.keys.entries in
    let new = c.drop_key.new.keys.entries in
    record {
      grouped = c.drop_anchored.ensures less new (groups-same cmp anchored own.anchored old less c.self.invariant.grouped c.lessen.ensures.stay) c.drop_key.ensures;
      wild = wild-less cmp (anchored Whole) expr own.wilds c.drop_wild.new.wilds less new
          (wild-same cmp (anchored Whole) own.wilds old less c.self.invariant.wild c.lessen.ensures.stay)
          c.drop_wild.ensures c.drop_key.ensures;
    }
