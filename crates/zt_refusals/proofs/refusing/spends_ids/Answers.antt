use Rattle.zt_refusals.proofs.LeftIds.{spends_for_interest}
use Rattle.zt_refusals.proofs.refusing.spends_ids.Goals as goal

pub returns-in-Interest : goal.returns-in-Interest
returns-in-Interest g c =
    let i = c.in-Interest in
    rw (i.is, spends_for_interest g.K.Ord.cmp g.K.Key.matching i.face i.id i.mode i.options i.expr c.args.g.now) c.do_interests_spend.ensures
