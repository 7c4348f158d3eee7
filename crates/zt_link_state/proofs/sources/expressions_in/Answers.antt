use Rattle.std.proofs.Common.{ap, map, sym, ◌∙◌}
use Rattle.std.proofs.lemmas.Result.{IfOk-weaker}
use Rattle.zt_model.specs.Lists.{in_key_order}
use Rattle.zt_link_state.proofs.More.{in-order-already}
use Rattle.zt_link_state.proofs.Origins.{rows-none, rows-there}
use Rattle.zt_link_state.proofs.Entries.{found-order}
use Rattle.zt_link_state.proofs.sources.expressions_in.Goals as goal

pub returns-in-Some : goal.returns-in-Some
returns-in-Some g c =
    let cmp = g.K.Ord.cmp in
    let es = c.args.sources.now.entries in
    let s = c.in-Some.keys.now in
    let there = sym c.in-Some.ensures.value in
    IfOk-weaker c.list_keys.result _ _
    (λ list is. is ∙ sym (ap (in_key_order cmp) (rows-there c.args.origin es s c.requires.origins there) ∙ in-order-already cmp s.keys (found-order cmp c.args.origin es s c.requires there)))
    c.list_keys.ensures

pub returns-in-None : goal.returns-in-None
returns-in-None g c =
    c.new.ensures.items
    ∙ sym (ap (λ rows. in_key_order g.K.Ord.cmp (map (λ row. row.expr) rows)) (rows-none c.args.origin c.args.sources.now.entries (sym c.in-None.ensures.value)))
