use Rattle.std.proofs.Common.{Ok, subst, sym}
use Rattle.zt_protocol.specs.Plain.{plain_line}
use Rattle.zt_check_fabric.specs.Made.{made_at}
use Rattle.zt_check.specs.Turns.{TellsOf, later, turn_of}
use Rattle.zt_check.proofs.TurnLemmas.{accepted_bounds, accepted_shown}
use Rattle.zt_check.proofs.turns.judge_accepted.Goals as goal

pub returns-clause-tells : goal.returns-clause-tells
returns-clause-tells g c kept =
    let x = c.args in
    let cmp = g.K.Ord.cmp in
    let matching = g.K.Key.matching in
    let line = plain_line x.line.now in
    let changed = c.in_ok-changed.changed in
    let shown = accepted_shown cmp matching line x.sents.now x.fabric.now c.carry_out.new.self c.hear.new.self c.wait.new.self c.in_ok-carry_out.ensures c.in_ok-hear.ensures c.in_ok-wait.ensures kept.placed in
    subst (λ failed. TellsOf cmp matching later (turn_of cmp matching line (Ok x.sents.now) x.fabric.now) failed) (sym c.first_failed.ensures)
    (accepted_bounds cmp matching g.met.K.Ord.total g.met.K.Key.laws.equal_is_same line x.sents.now x.fabric.now c.carry_out.new.self c.wait.new.self (made_at x.fabric.now c.in_ok-found.found)
    changed.tokens.items changed.opened.items changed.held.items changed.unheld.items c.in_ok-heard.heard.tokens.items c.told_of-told.result c.in_ok-ending.ending.ended.items c.in_ok-ending.ending.touched c.in_ok-ending.ending.finalised c.in_ok-ending.ending.unopened.items c.keeps_no_more-more.result c.keeps_no_less-less.result c.in_ok-answers.answers c.sends_finals-finals.result
    c.in_ok-found.ensures c.in_ok-changed.ensures.tokens c.in_ok-changed.ensures.opened c.in_ok-changed.ensures.held c.in_ok-changed.ensures.unheld c.in_ok-carry_out.ensures c.in_ok-heard.ensures shown
    c.keeps_no_more-more.ensures c.keeps_no_less-less.ensures c.told_of-told.ensures c.in_ok-answers.ensures
    c.in_ok-ending.ensures.ended c.in_ok-ending.ensures.touched c.in_ok-ending.ensures.finalised c.in_ok-ending.ensures.unopened c.sends_finals-finals.ensures kept)

pub returns-clause-shown : goal.returns-clause-shown
returns-clause-shown g c =
    let x = c.args in
    accepted_shown g.K.Ord.cmp g.K.Key.matching (plain_line x.line.now) x.sents.now x.fabric.now c.carry_out.new.self c.hear.new.self c.wait.new.self c.in_ok-carry_out.ensures c.in_ok-hear.ensures c.in_ok-wait.ensures
