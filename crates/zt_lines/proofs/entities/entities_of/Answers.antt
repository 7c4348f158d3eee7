use Rattle.std.proofs.Common.{sym, ◌∙◌}
use Rattle.std.proofs.lemmas.Result.{err_from_is_err_and}
use Rattle.std.specs.Option.{option_copied}
use Rattle.zt_lines.proofs.entities.entities_of.Goals as goal
use Rattle.zt_fields.specs.Fields.{fields_left}
use Rattle.zt_lines.specs.Items.{entities_read}
use Rattle.zt_fields.proofs.FieldLemmas.{left_some, left_none}
use Rattle.zt_lines.proofs.ItemLemmas.{item_shortens, items_start, items_go_on, items_end, items_done}

pub loop-left-init : goal.loop-left-init
loop-left-init g c = record {
  told = rw (c.new-subscribers.ensures.items, c.new-queryables.ensures.items) (items_start g.K.Key.reading (fields_left (option_copied c.args.rest)));
}

pub returns-in_err-item : goal.returns-in_err-item
returns-in_err-item g c =
    let reading = g.K.Key.reading in
    let some = left_some 32 c.loop-left.left (sym c.is_some.ensures ∙ c.loop-left-test.true) in
    let p = err_from_is_err_and c.from_residual.result c.from_residual.ensures.1 in
    rw (p.1, p.2) (items_end reading c.in_err-item.field-0.0 c.loop-left.subscribers.items c.loop-left.queryables.items (fields_left (option_copied c.loop-left.left)) some.0 some.1 (entities_read reading (fields_left (option_copied c.args.rest))) some.2 c.in_err-item.ensures c.loop-left.invariant.told)

pub loop-left-preserved : goal.loop-left-preserved
loop-left-preserved g c =
    let reading = g.K.Key.reading in
    record {
      told = items_go_on reading c.loop-left.subscribers.items c.keep.new.subscribers.items c.loop-left.queryables.items c.keep.new.queryables.items (fields_left (option_copied c.loop-left.left)) c.in_ok-item.item (fields_left (option_copied c.in_ok-item.after)) (entities_read reading (fields_left (option_copied c.args.rest))) c.in_ok-item.ensures c.in_ok-keep.ensures.subscribers c.in_ok-keep.ensures.queryables c.loop-left.invariant.told;
    }

pub loop-left-smaller : goal.loop-left-smaller
loop-left-smaller g c =
    item_shortens g.K.Key.reading (fields_left (option_copied c.loop-left.left)) (c.in_ok-item.item, fields_left (option_copied c.in_ok-item.after)) c.in_ok-item.ensures

pub returns : goal.returns
returns g c =
    let reading = g.K.Key.reading in
    let none = left_none 32 c.loop-left.left (sym c.is_some.ensures ∙ c.loop-left-test.false) in
    items_done reading c.loop-left.subscribers.items c.loop-left.queryables.items (entities_read reading (fields_left (option_copied c.args.rest))) (rw none at c.loop-left.invariant.told)
