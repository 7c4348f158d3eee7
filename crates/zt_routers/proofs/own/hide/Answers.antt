use Rattle.std.proofs.Common.{◌≡◌, [], ◌∙◌}
use Rattle.zt_protocol.specs.Plain.{Trees}
use Rattle.zt_region.specs.declared.region.Region.{Region}
use Rattle.zt_routers.specs.Reached.{is_hidden_by}
use Rattle.zt_routers.proofs.Noted.{notes_all, notes_more, notes_none, hides_none}
use Rattle.zt_routers.proofs.own.hide.Goals as goal

pub loop-region-init : goal.loop-region-init
loop-region-init g c =
    let all : c.into_iter-region-iterator.result ≡ c.args.g.now.trees = c.into_iter-region-iterator.ensures.into_iter_gives.0 ∙ c.trees-region-items.ensures in
    rw (c.new-numbers.ensures.items, all) (notes_none (is_hidden_by g.K.Ord.cmp c.args.g.now c.args.source c.args.expr.now) c.args.g.now.trees [])

pub loop-region-preserved : goal.loop-region-preserved
loop-region-preserved g c =
    let x : Region × Trees = (c.in-Some-2.region.now, c.in-Some-2.table.now) in
    notes_more (is_hidden_by g.K.Ord.cmp c.args.g.now c.args.source c.args.expr.now) c.args.g.now.trees x _ _ _ _ _ c.in-Some-2.ensures.steps c.loop-region.invariant c.in_ok-note_hidden.ensures

pub say_among-requires : goal.say_among-requires
say_among-requires g c =
    let numbers = c.loop-region.numbers.items in
    hides_none g.K.Ord.cmp c.args.g.now c.args.source c.args.expr.now [] numbers
    (notes_all (is_hidden_by g.K.Ord.cmp c.args.g.now c.args.source c.args.expr.now) c.args.g.now.trees _ [] numbers c.in-None.ensures.steps.0 c.loop-region.invariant)
