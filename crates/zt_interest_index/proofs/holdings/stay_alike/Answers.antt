use Rattle.std.proofs.Common.{sym, ◌∙◌}
use Rattle.zt_interest_index.proofs.Alike.{alike-first, alike-more, same-about}
use Rattle.zt_interest_index.proofs.holdings.stay_alike.Goals as goal

pub returns-in-None : goal.returns-in-None
returns-in-None g c holder t = alike-first c.args.rows.now c.in-None.ensures.value (holder, c.args.about.now)

pub returns-then-are_alike : goal.returns-then-are_alike
returns-then-are_alike g c holder t =
    let first = c.in-Some.first.now in
    let same = same-about g.met.K.Ord.matches_eq g.met.K.Key.laws.equal_is_same first.1 c.args.about.now (sym c.eq.ensures ∙ t) in
    alike-more c.args.rows.now first (holder, c.args.about.now) c.in-Some.ensures.value same (c.requires c.if-are_alike.true)
