use Rattle.std.proofs.Common.{◌||◌, ap, refl, ◌∙◌}
use Rattle.std.specs.List.{list_any}
use Rattle.zt_interest_index.specs.Holdings.{is_among}
use Rattle.zt_interest_index.specs.Wilds.{asks_in}
use Rattle.zt_interest_index.proofs.InOrder.{or_rest}
use Rattle.zt_interest_index.proofs.wilds.gather_each.Goals as goal

pub loop-key-preserved : goal.loop-key-preserved
loop-key-preserved g c n =
    let asks = asks_in g.K.Ord.cmp g.K.Key.matching c.args.expr.now n c.args.keyed.now.entries in
    let left = c.next.new.self in
    ap (λ b. b || list_any asks left) (c.in_ok-gather_key.ensures n)
    ∙ or_rest (is_among n c.loop-key.found.items) (asks c.in-Some.key.now) (list_any asks left) (list_any asks left) refl
    ∙ rw c.in-Some.ensures.steps at (c.loop-key.invariant n)
