use Rattle.std.proofs.Common.{◌++◌, [], ◌∷◌, List, Some, ap, subst, ◌∙◌}
use Rattle.std.specs.BTreeMap.{is_at}
use Rattle.std.specs.Map.{lookup}
use Rattle.zt_interest_index.specs.Index.{ChangesOf, Interest}
use Rattle.zt_interest_index.specs.Wilds.{covered-grown, covered-more, covered-same}
use Rattle.zt_interest_index.proofs.Changed.{changes-keyed}
use Rattle.zt_interest_index.proofs.index.InterestIndex.put_keyed.Goals as goal

pub returns-then-branch : goal.returns-then-branch
returns-then-branch g c =
    let more : List (Interest g.row.K.Denot) → List (Interest g.row.K.Denot) = λ rows. rows ++ ((c.args.face, c.args.id), Some c.args.key.now) ∷ [] in
    rw (← c.self.view_is)
    (changes-keyed g.K.Ord.cmp g.met.K.Ord.total c.args.key.now more c.self.inside.any c.self.inside.keyed.entries c.add_to.new.keyed.entries (c.in_ok-add_to.ensures.more c.if-branch.true))

pub returns : goal.returns
returns g c =
    let cmp = g.K.Ord.cmp in
    let key = c.args.key.now in
    let more : List (Interest g.row.K.Denot) → List (Interest g.row.K.Denot) = λ rows. rows ++ ((c.args.face, c.args.id), Some key) ∷ [] in
    let same = c.in_ok-add_to.ensures.none c.if-branch.false in
    let absent = ap (lookup (is_at (cmp key))) same ∙ c.in_ok-add_to.ensures.absent c.if-branch.false in
    rw (← c.self.view_is)
    (changes-keyed cmp g.met.K.Ord.total key more c.self.inside.any c.self.inside.keyed.entries c.put_first.new.keyed.entries
    (subst (λ old. ChangesOf cmp key more old c.put_first.new.keyed.entries) same (c.in_ok-put_first.ensures.more absent)))

pub invariant_of-self-in_err-put_wild : goal.invariant_of-self-in_err-put_wild
invariant_of-self-in_err-put_wild g c =
    let cmp = g.K.Ord.cmp in
    let own = c.self.inside in
    covered-grown cmp g.K.Key.anchored g.K.Key.numbered own.wilds c.put_wild.new.wilds c.add_to.new.keyed.entries
    (covered-same cmp g.K.Key.anchored g.K.Key.numbered own.wilds own.keyed.entries c.add_to.new.keyed.entries c.self.invariant c.in_ok-add_to.ensures.stay)
    c.in_err-put_wild.ensures.grows

pub invariant_of-self-in_err-put_first : goal.invariant_of-self-in_err-put_first
invariant_of-self-in_err-put_first g c =
    let cmp = g.K.Ord.cmp in
    let own = c.self.inside in
    rw c.in_err-put_first.ensures.err
    (covered-grown cmp g.K.Key.anchored g.K.Key.numbered own.wilds c.put_wild.new.wilds c.add_to.new.keyed.entries
    (covered-same cmp g.K.Key.anchored g.K.Key.numbered own.wilds own.keyed.entries c.add_to.new.keyed.entries c.self.invariant c.in_ok-add_to.ensures.stay)
    c.in_ok-put_wild.ensures.grows)

pub invariant_of-self-2 : goal.invariant_of-self-2
invariant_of-self-2 g c =
    let cmp = g.K.Ord.cmp in
    let anchored = g.K.Key.anchored in
    let numbered = g.K.Key.numbered in
    let own = c.self.inside in
    let mid = c.add_to.new.keyed.entries in
    covered-more cmp anchored numbered g.met.K.Key.laws.equal_is_same c.args.key.now c.put_wild.new.wilds mid c.put_first.new.keyed.entries
    (covered-grown cmp anchored numbered own.wilds c.put_wild.new.wilds mid (covered-same cmp anchored numbered own.wilds own.keyed.entries mid c.self.invariant c.in_ok-add_to.ensures.stay) c.in_ok-put_wild.ensures.grows)
    c.in_ok-put_wild.ensures.covered c.in_ok-put_first.ensures.key
