use Rattle.std.proofs.Common.{ℕ, Option, is_some, rules, tests}
use Rattle.std.proofs.lemmas.Fn.{filter_same}
use Rattle.zt_rows.proofs.Places.{kept-in, kept-rising}
use Rattle.zt_rows.proofs.placing.tidy.Goals as goal

pub returns-clause-rows : goal.returns-clause-rows
returns-clause-rows g c =
    rw (filter_same _ (λ (place : ℕ × Option g.row.X.Denot). is_some place.1) _ (λ x b f h. (search (rules, tests), search (rules, tests))) _ _ c.retain.ensures.filtered)
    (kept-in c.args.places.now.items)

pub returns-clause-rising : goal.returns-clause-rising
returns-clause-rising g c =
    rw (filter_same _ (λ (place : ℕ × Option g.row.X.Denot). is_some place.1) _ (λ x b f h. (search (rules, tests), search (rules, tests))) _ _ c.retain.ensures.filtered)
    (kept-rising c.args.places.now.items c.requires)
