use Rattle.std.proofs.Common.{ap, sym, ◌∙◌}
use Rattle.std.proofs.lemmas.Map.Keys.{IsDistinct-tail}
use Rattle.std.specs.BTreeMap.{is_at}
use Rattle.std.specs.Map.{keys_of, lookup}
use Rattle.std.specs.Ordering.{eq_by_cmp}
use Rattle.zt_token_index.proofs.Changed.{distinct-tied_by}
use Rattle.zt_token_index.proofs.Copied.{one-copied, or-none}
use Rattle.zt_token_index.proofs.Ordered.{ordered-found, ordered-same}
use Rattle.zt_token_index.proofs.index.ToldIndex.copy.Goals as goal

pub loop-expr-init : goal.loop-expr-init
loop-expr-init g c =
    let gives = c.into_iter-expr-iterator.ensures.into_iter_gives in
    record {
      distinct = rw gives.0 (distinct-tied_by g.K.Ord.cmp g.met.K.Ord.matches_eq _ gives.4);
      found = λ q.
          rw (c.in_ok-faces.ensures.empty, gives.0, ← c.self.view_is)
          (or-none (lookup (is_at (g.K.Ord.cmp q)) c.self.inside.faces.entries) ∙ sym (ordered-found g.K.Ord.cmp g.met.K.Ord.total q c.self.inside.faces.entries));
    }

pub loop-expr-preserved : goal.loop-expr-preserved
loop-expr-preserved g c =
    let cmp = g.K.Ord.cmp in
    let step = c.in-Some.ensures.steps in
    let distinct = rw step at c.loop-expr.invariant.distinct in
    let expr = c.in-Some.expr.now in
    let before = c.loop-expr.faces.entries in
    let after = c.put_faces.new.faces.entries in
    let with = rw c.in_ok-copy.ensures at c.in_ok-put_faces.ensures.with in
    record {
      distinct = IsDistinct-tail (eq_by_cmp cmp) expr (keys_of c.next.new.self) distinct;
      found = λ q. one-copied cmp g.met.K.Ord.total (c.in-Some.expr.now, c.in-Some.told.now) c.next.new.self before after distinct with q ∙ rw step at (c.loop-expr.invariant.found q);
    }

pub returns : goal.returns
returns g c =
    let cmp = g.K.Ord.cmp in
    let total = g.met.K.Ord.total in
    let own = c.self.inside.faces.entries in
    let ended = c.in-None.ensures.steps.0 in
    ordered-same cmp total g.met.K.Key.laws.equal_is_same c.loop-expr.faces.entries own
    (λ q. rw ended at (c.loop-expr.invariant.found q) ∙ ap (lookup (is_at (cmp q))) (sym c.self.view_is) ∙ ordered-found cmp total q own)
    ∙ c.self.view_is
