use Rattle.std.proofs.Common.{filter, not}
use Rattle.zt_interest_index.specs.Holdings.{is_of}
use Rattle.zt_interest_index.specs.Wilds.{covered-less, covered-same}
use Rattle.zt_interest_index.proofs.Changed.{changes-keyed, changes-released}
use Rattle.zt_interest_index.proofs.index.InterestIndex.remove_keyed.Goals as goal

pub returns-then-drop_from : goal.returns-then-drop_from
returns-then-drop_from g c =
    let cmp = g.K.Ord.cmp in
    let total = g.met.K.Ord.total in
    let key = c.args.key.now in
    let less = filter (λ row. not (is_of c.args.face c.args.id row)) in
    let old = c.self.inside.keyed.entries in
    let mid = c.drop_from.new.keyed.entries in
    let new = c.drop_key.new.keyed.entries in
    rw (← c.self.view_is)
    (changes-keyed cmp total key less c.self.inside.any old new
    (changes-released cmp total key less old mid new c.drop_from.ensures.drops (c.drop_from.ensures.last c.if-drop_from.true) c.drop_key.ensures))

pub returns-else-drop_from : goal.returns-else-drop_from
returns-else-drop_from g c =
    let less = filter (λ row. not (is_of c.args.face c.args.id row)) in
    rw (← c.self.view_is)
    (changes-keyed g.K.Ord.cmp g.met.K.Ord.total c.args.key.now less c.self.inside.any c.self.inside.keyed.entries c.drop_from.new.keyed.entries c.drop_from.ensures.drops)

pub invariant_of-self : goal.invariant_of-self
invariant_of-self g c =
    let cmp = g.K.Ord.cmp in
    let anchored = g.K.Key.anchored in
    let numbered = g.K.Key.numbered in
    let own = c.self.inside in
    let mid = c.drop_from.new.keyed.entries in
    covered-less cmp anchored numbered c.args.key.now own.wilds c.drop_wild.new.wilds mid c.drop_key.new.keyed.entries
    (covered-same cmp anchored numbered own.wilds own.keyed.entries mid c.self.invariant c.drop_from.ensures.stay) c.drop_wild.ensures c.drop_key.ensures
