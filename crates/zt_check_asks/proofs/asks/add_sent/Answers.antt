use Rattle.std.proofs.Common.{◌≡◌, ◌==◌, true, false, rules, sym, ap, ◌∙◌}
use Rattle.std.proofs.lemmas.Result.{on_ok_weaker}
use Rattle.zt_check_asks.proofs.Walked.{from_one, from_other}
use Rattle.zt_check_asks.proofs.asks.add_sent.Goals as goal

pub returns-then-number-from : goal.returns-then-number-from
returns-then-number-from g c =
    let x = c.args in
    let other : (x.number == x.sent.now.face) ≡ false = search (rules, c.if-number-from.true, c.from.ensures) in
    from_other x.id x.number x.sent.now x.answers.now.items other

pub returns : goal.returns
returns g c =
    let x = c.args in
    let own : (x.number == x.sent.now.face) ≡ true = search (rules, c.if-number-from.false, c.from.ensures) in
    on_ok_weaker c.add_answer.result (λ is. from_one x.id x.number x.sent.now x.answers.now.items c.add_answer.new.answers.items own is) c.add_answer.ensures
