use Rattle.std.proofs.Common.{◌++◌, [], ◌∷◌, ap, filter, if◌then◌else◌, refl, sym, ◌∙◌}
use Rattle.std.proofs.lemmas.List.{append-nil}
use Rattle.zt_indexes.specs.Live.{shown_keys}
use Rattle.zt_indexes.proofs.Apart.{one-matching}
use Rattle.zt_indexes.proofs.Hashed.{distinct-tied_by}
use Rattle.zt_indexes.proofs.search.gather_matching.Goals as goal

pub loop-expr-init : goal.loop-expr-init
loop-expr-init g c = rw (c.new-found.ensures.items, c.into_iter-expr-iterator.ensures.into_iter_gives.0) refl

pub loop-expr-preserved : goal.loop-expr-preserved
loop-expr-preserved g c =
    let matches = g.K.Key.matching c.args.key.now in
    let shown = g.T.RegionTest.passes c.args.test.now in
    let expr = c.in-Some.expr.now in
    let left = c.next.new.self in
    let before = c.loop-expr.found.items in
    ap (λ xs. xs ++ filter matches (shown_keys shown left)) (c.in_ok-add_if.ensures ∙ ap (λ b. if b then before ++ expr ∷ [] else before) c.is_sought.ensures)
    ∙ one-matching shown matches before (expr, c.in-Some.counts.now) left
    ∙ rw c.in-Some.ensures.steps at c.loop-expr.invariant

pub returns : goal.returns
returns g c =
    let gives = c.into_iter-expr-iterator.ensures.into_iter_gives in
    record {
      matching = sym (append-nil _) ∙ rw c.in-None.ensures.steps.0 at c.loop-expr.invariant;
      apart = distinct-tied_by g.K.Ord.cmp g.met.K.Ord.matches_eq _ gives.4;
    }
