use Rattle.std.proofs.Common.{sym, ◌∙◌}
use Rattle.std.proofs.lemmas.Bool.{not-true}
use Rattle.zt_check_keeping.proofs.Owed.{kept_unseen}
use Rattle.zt_check_keeping.proofs.keeping.is_shown_to_none.Goals as goal

pub returns-in-Lower : goal.returns-in-Lower
returns-in-Lower g c = λ unseen f. rw c.in-Lower.is (kept_unseen g.K.Ord.cmp g.K.Key.matching c.args.rows.now c.args.expr.now (sym c.is_seen.ensures ∙ not-true c.is_seen.result unseen) f)
