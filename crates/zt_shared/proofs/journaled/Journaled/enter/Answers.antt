use Rattle.std.proofs.Common.{arith, ◌≡◌, IfOk, length, subst}
use Rattle.std.proofs.lemmas.Grind.{common_steps}
use Rattle.zt_gateway.specs.Running.{Running}
use Rattle.zt_protocol.specs.Plain.{plain_call}
use Rattle.zt_shared.specs.Recorded.{Recorded, answer_of}
use Rattle.zt_shared.proofs.journaled.Journaled.enter.Goals as goal
use Rattle.zt_shared.proofs.journaled.Journaled.enter.Goals.{in-DeclareToken-1, in-UndeclareToken+in-Some-1, in-UndeclareToken+in-None-1, in-Interest+in-Some-1, in-Interest+in-None-1, in-SetTrees-1, in-SetEntities-1, in-NewSession-1}

pub returns-in-Ok-clause-place : goal.returns-in-Ok-clause-place
returns-in-Ok-clause-place g c = subst (λ (j : Recorded g.row.K.Denot). IfOk c.enter_prepared.result (λ r. r.place ≡ length j.entries)) c.self.view_is c.enter_prepared.ensures.place

pub returns-in-Ok-clause-answer : goal.returns-in-Ok-clause-answer
returns-in-Ok-clause-answer g c =
    subst (λ (j : Recorded g.row.K.Denot). IfOk c.enter_prepared.result (λ r. r.answer ≡ answer_of g.K.Ord.cmp g.K.Key.matching (plain_call c.args.call) j.gateway.rows)) c.self.view_is
    (subst (λ (gateway : Running g.row.K.Denot). IfOk c.enter_prepared.result (λ r. r.answer ≡ answer_of g.K.Ord.cmp g.K.Key.matching (plain_call c.args.call) gateway.rows)) c.prepare.ensures.same c.enter_prepared.ensures.answer)

pub returns-in-Err-Refused-clause-place : goal.returns-in-Err-Refused-clause-place
returns-in-Err-Refused-clause-place g c = subst (λ (j : Recorded g.row.K.Denot). IfOk c.enter_refused.result (λ r. r.place ≡ length j.entries)) c.self.view_is c.enter_refused.ensures.place

pub returns-in-Err-Refused-clause-answer : goal.returns-in-Err-Refused-clause-answer
returns-in-Err-Refused-clause-answer g c =
    subst (λ (j : Recorded g.row.K.Denot). IfOk c.enter_refused.result (λ r. r.answer ≡ answer_of g.K.Ord.cmp g.K.Key.matching (plain_call c.args.call) j.gateway.rows)) c.self.view_is
    (subst (λ (gateway : Running g.row.K.Denot). IfOk c.enter_refused.result (λ r. r.answer ≡ answer_of g.K.Ord.cmp g.K.Key.matching (plain_call c.args.call) gateway.rows)) c.prepare.ensures.same c.enter_refused.ensures.answer)

pub returns-in-Err-Memory-clause-kept : goal.returns-in-Err-Memory-clause-kept
returns-in-Err-Memory-clause-kept g c =
    elim c.match-call.branch [
      | in-DeclareToken-1 w ↦ rw (w.self-is, c.prepare.ensures.same) c.self.invariant
      | in-UndeclareToken+in-Some-1 w ↦ rw (w.self-is, c.prepare.ensures.same) c.self.invariant
      | in-UndeclareToken+in-None-1 w ↦ rw (w.self-is, c.prepare.ensures.same) c.self.invariant
      | in-Interest+in-Some-1 w ↦ rw (w.self-is, c.prepare.ensures.same) c.self.invariant
      | in-Interest+in-None-1 w ↦ rw (w.self-is, c.prepare.ensures.same) c.self.invariant
      | in-SetTrees-1 w ↦ rw (w.self-is, c.prepare.ensures.same) c.self.invariant
      | in-SetEntities-1 w ↦ rw (w.self-is, c.prepare.ensures.same) c.self.invariant
      | in-NewSession-1 w ↦ rw (w.self-is, c.prepare.ensures.same) c.self.invariant
    ]

pub returns-in-Err-Memory-clause-room : goal.returns-in-Err-Memory-clause-room
returns-in-Err-Memory-clause-room g c =
    elim c.match-call.branch [
      | in-DeclareToken-1 w ↦ rw w.self-is (grind (arith, common_steps))
      | in-UndeclareToken+in-Some-1 w ↦ rw w.self-is (grind (arith, common_steps))
      | in-UndeclareToken+in-None-1 w ↦ rw w.self-is (grind (arith, common_steps))
      | in-Interest+in-Some-1 w ↦ rw w.self-is (grind (arith, common_steps))
      | in-Interest+in-None-1 w ↦ rw w.self-is (grind (arith, common_steps))
      | in-SetTrees-1 w ↦ rw w.self-is (grind (arith, common_steps))
      | in-SetEntities-1 w ↦ rw w.self-is (grind (arith, common_steps))
      | in-NewSession-1 w ↦ rw w.self-is (grind (arith, common_steps))
    ]
