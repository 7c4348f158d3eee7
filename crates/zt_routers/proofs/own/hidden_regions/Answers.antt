use Rattle.std.proofs.Common.{List, ◌++◌, ap, append_assoc, sym, ◌∙◌}
use Rattle.std.proofs.lemmas.List.{append-nil}
use Rattle.std.specs.BTreeSet.{BTreeSet}
use Rattle.zt_link_state.specs.Routed.{rows_in, rows_of}
use Rattle.zt_link_state.specs.declared.origin.Origin.{Origin}
use Rattle.zt_routers.specs.Hiding.{hidden_among}
use Rattle.zt_routers.proofs.Origins.{hidden-split}
use Rattle.zt_routers.proofs.own.hidden_regions.Goals as goal

pub add_hidden-requires : goal.add_hidden-requires
add_hidden-requires g c = (rw c.in-Some.ensures.steps at c.loop-origin.invariant.in_order).0

pub loop-origin-preserved : goal.loop-origin-preserved
loop-origin-preserved g c =
    let cmp = g.K.Ord.cmp in
    let rows = c.args.g.now in
    let x : Origin × BTreeSet g.row.K.Denot = (c.in-Some.origin.now, c.in-Some.keys.now) in
    let next = c.next.new.self in
    let before = c.loop-origin.regions.items in
    let here = hidden_among cmp rows c.args.source c.args.expr.now (rows_of x) in
    let later = hidden_among cmp rows c.args.source c.args.expr.now (rows_in next) in
    record {
      found = ap (λ rs. rs ++ later) c.in_ok-add_hidden.ensures
          ∙ append_assoc before here later
          ∙ ap (λ rs. before ++ rs) (sym (ap (λ (es : List (Origin × BTreeSet g.row.K.Denot)). hidden_among cmp rows c.args.source c.args.expr.now (rows_in es)) c.in-Some.ensures.steps ∙ hidden-split cmp g.met.K.Ord.total rows c.args.source c.args.expr.now x next))
          ∙ c.loop-origin.invariant.found;
      in_order = (rw c.in-Some.ensures.steps at c.loop-origin.invariant.in_order).1;
    }

pub returns : goal.returns
returns g c =
    let regions = c.loop-origin.regions.items in
    sym (append-nil regions)
    ∙ ap (λ (es : List (Origin × BTreeSet g.row.K.Denot)). regions ++ hidden_among g.K.Ord.cmp c.args.g.now c.args.source c.args.expr.now (rows_in es)) (sym c.in-None.ensures.steps.0)
    ∙ c.loop-origin.invariant.found
