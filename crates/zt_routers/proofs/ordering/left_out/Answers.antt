use Rattle.std.proofs.Common.{List, ap, sym, ◌∙◌}
use Rattle.std.proofs.lemmas.Result.{IfOk-weaker}
use Rattle.std.specs.BTreeSet.{BTreeSet}
use Rattle.zt_model.specs.Trees.{counted_table}
use Rattle.zt_link_state.specs.Routed.{rows_in}
use Rattle.zt_link_state.specs.declared.origin.Origin.{Origin}
use Rattle.zt_routers.specs.LeftOut.{exprs_left_out}
use Rattle.zt_routers.proofs.Origins.{left_out-last}
use Rattle.zt_tokens.specs.Gathered.{with_keys}
use Rattle.zt_tokens.proofs.Gathering.{in_key_order_is}
use Rattle.zt_routers.proofs.ordering.left_out.Goals as goal

pub loop-origin-preserved : goal.loop-origin-preserved
loop-origin-preserved g c =
    let x : Origin × BTreeSet g.row.K.Denot = (c.in-Some.origin.now, c.in-Some.keys.now) in
    rw c.in_ok-add_left_out.ensures
    (left_out-last g.K.Ord.cmp c.args.region (counted_table c.args.table.now) c.loop-origin.origin-iterator.iter c.next.new.self.iter x c.loop-origin.exprs c.in-Some.ensures.steps ∙ c.loop-origin.invariant)

pub returns : goal.returns
returns g c =
    let cmp = g.K.Ord.cmp in
    let t = counted_table c.args.table.now in
    IfOk-weaker c.into_vec.result _ _
    (λ keys is.
    is
    ∙ sym (ap (λ (es : List (Origin × BTreeSet g.row.K.Denot)). with_keys cmp (exprs_left_out cmp c.args.region t (rows_in es)) c.loop-origin.exprs) c.in-None.ensures.steps.0)
    ∙ c.loop-origin.invariant
    ∙ in_key_order_is cmp (exprs_left_out cmp c.args.region t c.args.g.now.routed))
    c.into_vec.ensures
