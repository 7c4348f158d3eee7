use Rattle.std.proofs.Common.{ap, sym, ◌∙◌}
use Rattle.zt_model.specs.Trees.{counted_table}
use Rattle.zt_routers.proofs.Origins.{all-left-out, none-left-out}
use Rattle.zt_tokens.specs.Gathered.{with_keys}
use Rattle.zt_routers.proofs.ordering.add_left_out.Goals as goal

pub returns-in_ok-add_keys : goal.returns-in_ok-add_keys
returns-in_ok-add_keys g c =
    let t = counted_table c.args.table.now in
    c.in_ok-add_keys.ensures
    ∙ ap (λ es. with_keys g.K.Ord.cmp es c.args.exprs.now) (sym (all-left-out g.K.Ord.cmp c.args.region t c.args.origin (sym c.is_left_out.ensures ∙ c.if-is_left_out.true) c.args.keys.now.keys))

pub returns-else-is_left_out : goal.returns-else-is_left_out
returns-else-is_left_out g c =
    let t = counted_table c.args.table.now in
    sym (ap (λ es. with_keys g.K.Ord.cmp es c.args.exprs.now) (none-left-out g.K.Ord.cmp c.args.region t c.args.origin (sym c.is_left_out.ensures ∙ c.if-is_left_out.false) c.args.keys.now.keys))
