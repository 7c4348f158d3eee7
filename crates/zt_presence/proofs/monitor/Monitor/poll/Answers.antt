use Rattle.std.proofs.Common.{◌≡◌, ◌<◌, ◌+◌, ap, subst, ◌∙◌, arith}
use Rattle.zt_presence.specs.Presence.{IsTable, Presence, polled}
use Rattle.zt_presence.proofs.PollLemmas.{polls_of}
use Rattle.zt_presence.proofs.monitor.Monitor.poll.Goals as goal

pub returns-in-Ok-find-clause-ok : goal.returns-in-Ok-find-clause-ok
returns-in-Ok-find-clause-ok g c =
    let m = c.self.inside in
    let is = c.self.view_is in
    let receipt = c.in-Ok.receipt in
    let enters = c.in-Ok.ensures.ok in
    let seen : c.seen-self-inside.result ≡ receipt.place + 1 = c.seen-self-inside.ensures ∙ ap (λ s. s.seen) enters.adds.rest in
    let mid = ap (λ n. let p : Presence g.row.K.Denot = record { face = m.face; polls = m.polls + 1; next_place = n; expr = m.expr; table = m.table.items } in p) seen ∙ ap (λ (v : Presence g.row.K.Denot). polled receipt.place v.table v) is in
    polls_of g.K.Ord.cmp g.K.Key.matching c.args.pass.now c.ask.new.pass c.find.new.pass c.args.self.now c.find.new.self receipt c.in-Ok-find.change _ mid
    (subst (λ (v : Presence g.row.K.Denot). v.polls < 4294967295) is (omega arith))
    c.requires.seen
    (subst (λ (v : Presence g.row.K.Denot). IsTable g.K.Ord.cmp v.table) is c.self.invariant)
    enters
    c.in-Ok-answer.field-0
    c.in-Ok-answer.is
    c.in-Ok-find.ensures.read
    c.in-Ok-find.ensures.ok
