use Rattle.std.proofs.Common.{Bool, subst, sym, ◌∙◌}
use Rattle.zt_region.specs.declared.region.Region.{Region}
use Rattle.zt_model.specs.Trees.{counted_table, is_hidden}
use Rattle.zt_link_state.specs.Lookups.{HaveChildrenOf}
use Rattle.zt_routers.proofs.Noted.{empty_of, region_unnoted, table_noted, table_unnoted}
use Rattle.zt_routers.proofs.own.note_hidden.Goals as goal

pub returns-then-is_empty : goal.returns-then-is_empty
returns-then-is_empty g c =
    let test : Region → Bool = is_hidden g.K.Ord.cmp c.args.g.now c.args.source c.args.expr.now in
    let children = c.children_of-children.result.now in
    let have = subst (λ z. HaveChildrenOf z children (counted_table c.args.table.now).children) c.zid.ensures c.children_of-children.ensures in
    table_unnoted c.args.g.now test c.args.region c.args.table.now children have (empty_of children (sym c.is_empty.ensures ∙ c.if-is_empty.true)) c.args.numbers.now.items

pub returns-in_ok-note_children : goal.returns-in_ok-note_children
returns-in_ok-note_children g c =
    let test : Region → Bool = is_hidden g.K.Ord.cmp c.args.g.now c.args.source c.args.expr.now in
    let children = c.children_of-children.result.now in
    let have = subst (λ z. HaveChildrenOf z children (counted_table c.args.table.now).children) c.zid.ensures c.children_of-children.ensures in
    table_noted c.args.g.now test c.args.region c.args.table.now children have c.args.numbers.now.items c.note_children.new.numbers.items c.in_ok-note_children.ensures

pub returns-else-is_hidden : goal.returns-else-is_hidden
returns-else-is_hidden g c =
    let test : Region → Bool = is_hidden g.K.Ord.cmp c.args.g.now c.args.source c.args.expr.now in
    region_unnoted c.args.g.now test c.args.region c.args.table.now (sym c.is_hidden.ensures ∙ c.if-is_hidden.false) c.args.numbers.now.items
