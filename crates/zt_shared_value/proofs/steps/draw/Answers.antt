use Rattle.std.proofs.Common.{rules, ◌≤◌, [], ap, ◌∙◌}
use Rattle.std.proofs.lemmas.List.{take-append-drop}
use Rattle.std.specs.Prelude.{take, drop}
use Rattle.zt_shared_value.proofs.Allowed.{draws_at, tells_same, tells_other}
use Rattle.zt_shared_value.proofs.Stepping.{splits}
use Rattle.zt_shared_value.proofs.steps.draw.Goals as goal

pub compare_exchange-found-requires : goal.compare_exchange-found-requires
compare_exchange-found-requires g c = (search rules, search rules, draws_at _ _ _ _ _ _ _ _ c.requires.next c.requires.room)

pub split_seat-requires : goal.split_seat-requires
split_seat-requires g c = (search rules, search rules, splits _ _ _ _ _ _ _ _ (take-append-drop 1 c.compare_exchange-found.new.seat.me.0))

pub overflow_cast-result : goal.overflow_cast-result
overflow_cast-result g c =
    let told = tells_other c.compare_exchange-found.result c.args.number _ _ c.if-found-number.false (c.compare_exchange-found.ensures.2 c.requires.next.0 c.requires.next.1) in
    let few : c.compare_exchange-found.result ≤ 4294967295 = told.2 in search rules

pub returns-then-found-number-clause-told : goal.returns-then-found-number-clause-told
returns-then-found-number-clause-told g c = λ p is.
    let told = tells_same c.compare_exchange-found.result c.args.number _ _ c.if-found-number.true (c.compare_exchange-found.ensures.2 p is) in
    let cut = c.split_seat.ensures in
    (cut.2 ∙ ap (λ m. (take 1 m.0, m.1)) told, cut.3 ∙ c.compare_exchange-found.ensures.0, cut.4 ∙ ap (λ m. (drop 1 m.0, [])) told)

pub returns-else-found-number-clause-told : goal.returns-else-found-number-clause-told
returns-else-found-number-clause-told g c = λ p is.
    tells_other c.compare_exchange-found.result c.args.number _ _ c.if-found-number.false (c.compare_exchange-found.ensures.2 p is)
