use Rattle.std.proofs.Common.{sym, ◌∙◌}
use Rattle.std.specs.Cmp.{unsigned_tied}
use Rattle.std.specs.List.{list_any}
use Rattle.zt_interest_index.specs.Holders.{any_alike}
use Rattle.zt_interest_index.specs.Holdings.{asks_from, is_among}
use Rattle.zt_interest_index.proofs.Changed.{nothing-from, unordered}
use Rattle.zt_interest_index.proofs.Found.{any_found, found-all, found-any, held-any}
use Rattle.zt_interest_index.proofs.index.InterestIndex.holders_and.Goals as goal

pub returns-then-is_empty : goal.returns-then-is_empty
returns-then-is_empty g c held indexed =
    let cmp = g.K.Ord.cmp in
    let total = g.met.K.Ord.total in
    let matching = g.K.Key.matching in
    let expr = c.args.expr.now in
    let any = c.self.inside.any in
    let entries = c.self.inside.keyed.entries in
    let there = unordered cmp total any entries held (rw (← c.self.view_is) at indexed) in
    let none = nothing-from entries (c.is_empty.ensures.0 c.if-is_empty.true) in
    record {
      in_order = c.put_in_order.ensures.in_order;
      among = λ n.
          any_alike _ _ (unsigned_tied n) c.put_in_order.new.numbers.items
          ∙ c.put_in_order.ensures.same n
          ∙ c.in_ok-found.ensures n
          ∙ any_found (is_among n c.args.others.now) (list_any (asks_from matching expr n) any) (list_any (asks_from matching expr n) held)
          (held-any cmp total matching expr n any entries held there) (found-any cmp total matching expr n any entries held there none);
    }

pub returns : goal.returns
returns g c held indexed =
    let cmp = g.K.Ord.cmp in
    let total = g.met.K.Ord.total in
    let matching = g.K.Key.matching in
    let expr = c.args.expr.now in
    let any = c.self.inside.any in
    let entries = c.self.inside.keyed.entries in
    let there = unordered cmp total any entries held (rw (← c.self.view_is) at indexed) in
    record {
      in_order = c.put_in_order-2.ensures.in_order;
      among = λ n.
          any_alike _ _ (unsigned_tied n) c.put_in_order-2.new.numbers.items
          ∙ c.put_in_order-2.ensures.same n
          ∙ c.in_ok-gather_wilds.ensures n
          ∙ rw (c.in_ok-gather_from.ensures n, c.in_ok-found-2.ensures n)
          (found-all cmp total matching expr n any entries held there g.K.Key.anchored g.K.Key.numbered g.met.K.Key.laws.equal_is_same g.met.K.Key.laws.plain_is_same g.met.K.Key.numbers_agree
          c.self.inside.wilds c.self.invariant (sym c.is_plain.ensures ∙ c.if-not-is_plain.false) (is_among n c.args.others.now));
    }
