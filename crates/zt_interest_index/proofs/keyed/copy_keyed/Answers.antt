use Rattle.std.proofs.Common.{◌∙◌}
use Rattle.std.proofs.lemmas.Map.Keys.{IsDistinct-tail}
use Rattle.std.specs.BTreeMap.{is_at}
use Rattle.std.specs.Map.{keys_of, lookup}
use Rattle.std.specs.Ordering.{eq_by_cmp}
use Rattle.zt_indexes.proofs.Copied.{one-copied, or-none}
use Rattle.zt_indexes.proofs.Hashed.{distinct-tied_by}
use Rattle.zt_indexes.proofs.Ordered.{ordered-same}
use Rattle.zt_interest_index.proofs.keyed.copy_keyed.Goals as goal

pub loop-key-init : goal.loop-key-init
loop-key-init g c =
    let gives = c.into_iter-key-iterator.ensures.into_iter_gives in
    record {
      distinct = rw gives.0 (distinct-tied_by g.K.Ord.cmp g.met.K.Ord.matches_eq _ gives.4);
      found = λ q. rw (c.in_ok-copies.ensures.empty, gives.0) (or-none (lookup (is_at (g.K.Ord.cmp q)) c.args.keyed.now.entries));
    }

pub loop-key-preserved : goal.loop-key-preserved
loop-key-preserved g c =
    let cmp = g.K.Ord.cmp in
    let step = c.in-Some.ensures.steps in
    let distinct = rw step at c.loop-key.invariant.distinct in
    let before = c.loop-key.copies.entries in
    let after = c.put_copy.new.keyed.entries in
    record {
      distinct = IsDistinct-tail (eq_by_cmp cmp) c.in-Some.key.now (keys_of c.next.new.self) distinct;
      found = λ q.
          one-copied cmp g.met.K.Ord.total (c.in-Some.key.now, c.in-Some.rows.now) c.next.new.self before after distinct c.in_ok-put_copy.ensures q
          ∙ rw step at (c.loop-key.invariant.found q);
    }

pub returns : goal.returns
returns g c =
    let ended = c.in-None.ensures.steps.0 in
    ordered-same g.K.Ord.cmp g.met.K.Ord.total g.met.K.Key.laws.equal_is_same c.loop-key.copies.entries c.args.keyed.now.entries (λ q. rw ended at (c.loop-key.invariant.found q))
