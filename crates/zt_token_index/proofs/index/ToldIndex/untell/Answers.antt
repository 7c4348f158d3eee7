use Rattle.std.proofs.Common.{[], inr, ◌∙◌}
use Rattle.zt_token_index.specs.Told.{without_face}
use Rattle.zt_token_index.proofs.Changed.{changes-released, found-without}
use Rattle.zt_token_index.proofs.Ordered.{changes-ordered, tidy-ordered}
use Rattle.zt_token_index.proofs.Placed.{without-taken}
use Rattle.zt_token_index.proofs.index.ToldIndex.untell.Goals as goal

pub returns-in-Some-clause-less : goal.returns-in-Some-clause-less
returns-in-Some-clause-less g c =
    let cmp = g.K.Ord.cmp in
    let total = g.met.K.Ord.total in
    let expr = c.args.expr.now in
    let change = without_face c.args.face in
    let old = c.self.inside.faces.entries in
    let less = c.drop_at.new.faces.entries in
    let taken = c.swap_remove_index in
    let gone = without-taken cmp g.met.K.Ord.matches_eq c.drop_at.new.faces taken.new.self taken.result (expr, []) (taken.ensures.entry ∙ c.in-Some.ensures.last) taken.ensures.updates in
    rw (← c.self.view_is)
    (changes-ordered cmp total expr change old taken.new.self.entries
    (changes-released cmp total expr change old less taken.new.self.entries c.in-Some.ensures.drops c.in-Some.ensures.none gone))

pub returns-in-Some-clause-tidy : goal.returns-in-Some-clause-tidy
returns-in-Some-clause-tidy g c =
    let cmp = g.K.Ord.cmp in
    let total = g.met.K.Ord.total in
    let expr = c.args.expr.now in
    let taken = c.swap_remove_index in
    let gone = without-taken cmp g.met.K.Ord.matches_eq c.drop_at.new.faces taken.new.self taken.result (expr, []) (taken.ensures.entry ∙ c.in-Some.ensures.last) taken.ensures.updates in
    tidy-ordered cmp total expr taken.new.self.entries (inr (found-without cmp total expr c.drop_at.new.faces.entries taken.new.self.entries gone))

pub returns-in_default-clause-less : goal.returns-in_default-clause-less
returns-in_default-clause-less g c =
    rw (← c.self.view_is)
    (changes-ordered g.K.Ord.cmp g.met.K.Ord.total c.args.expr.now (without_face c.args.face) c.self.inside.faces.entries c.drop_at.new.faces.entries c.drop_at.ensures.drops)

pub returns-in_default-clause-tidy : goal.returns-in_default-clause-tidy
returns-in_default-clause-tidy g c =
    tidy-ordered g.K.Ord.cmp g.met.K.Ord.total c.args.expr.now c.drop_at.new.faces.entries c.in_default.ensures.not_last
