use Rattle.std.proofs.Common.{ap, sym, ◌∙◌}
use Rattle.std.proofs.lemmas.Map.Keys.{IsDistinct-tail}
use Rattle.std.specs.BTreeMap.{is_at}
use Rattle.std.specs.Map.{keys_of, lookup}
use Rattle.std.specs.Ordering.{eq_by_cmp}
use Rattle.zt_keys.specs.declared.anchor.Anchor.TheVariants.{Whole}
use Rattle.zt_indexes.specs.Grouped.{key-with}
use Rattle.zt_indexes.specs.Wild.{wild-more, wild-none}
use Rattle.zt_indexes.proofs.Copied.{one-copied, or-none}
use Rattle.zt_indexes.proofs.Hashed.{distinct-tied_by}
use Rattle.zt_indexes.proofs.Ordered.{ordered-found, ordered-same}
use Rattle.zt_indexes.proofs.live.LiveCounts.copy.Goals as goal

pub loop-expr-init : goal.loop-expr-init
loop-expr-init g c =
    let gives = c.into_iter-expr-iterator.ensures.into_iter_gives in
    record {
      distinct = rw gives.0 (distinct-tied_by g.K.Ord.cmp g.met.K.Ord.matches_eq _ gives.4);
      found = λ q.
          rw (c.in_ok-keys.ensures.empty, gives.0, ← c.self.view_is)
          (or-none (lookup (is_at (g.K.Ord.cmp q)) c.self.inside.keys.entries) ∙ sym (ordered-found g.K.Ord.cmp g.met.K.Ord.total q c.self.inside.keys.entries));
      wild = rw (c.in_ok-keys.ensures.empty, c.new-wilds.ensures) (wild-none g.K.Ord.cmp (g.K.Key.anchored Whole));
    }

pub loop-expr-preserved : goal.loop-expr-preserved
loop-expr-preserved g c =
    let cmp = g.K.Ord.cmp in
    let step = c.in-Some.ensures.steps in
    let distinct = rw step at c.loop-expr.invariant.distinct in
    let expr = c.in-Some.expr.now in
    let before = c.loop-expr.keys.entries in
    let after = c.put_copy.new.keys.entries in
    let with = c.in_ok-put_copy.ensures in
    let more = key-with cmp expr c.in-Some.counts.now before after with in
    record {
      distinct = IsDistinct-tail (eq_by_cmp cmp) expr (keys_of c.next.new.self) distinct;
      found = λ q. one-copied cmp g.met.K.Ord.total (c.in-Some.expr.now, c.in-Some.counts.now) c.next.new.self before after distinct with q ∙ rw step at (c.loop-expr.invariant.found q);
      wild = wild-more cmp (g.K.Key.anchored Whole) g.met.K.Key.laws.equal_is_same expr c.loop-expr.wilds c.put_wild.new.wilds before after c.loop-expr.invariant.wild c.in_ok-put_wild.ensures.ok more;
    }

pub returns : goal.returns
returns g c =
    let cmp = g.K.Ord.cmp in
    let total = g.met.K.Ord.total in
    let own = c.self.inside.keys.entries in
    let ended = c.in-None.ensures.steps.0 in
    ordered-same cmp total g.met.K.Key.laws.equal_is_same c.loop-expr.keys.entries own
    (λ q. rw ended at (c.loop-expr.invariant.found q) ∙ ap (lookup (is_at (cmp q))) (sym c.self.view_is) ∙ ordered-found cmp total q own)
    ∙ c.self.view_is
