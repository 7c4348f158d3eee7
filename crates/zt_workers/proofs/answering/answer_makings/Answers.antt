use Rattle.std.proofs.Common.{[], ◌∷◌, Ok, refl, arith}
use Rattle.std.proofs.lemmas.List.{length-append, length-map}
use Rattle.zt_protocol.specs.Plain.{plain_entry}
use Rattle.zt_workers.specs.Answers.{answered}
use Rattle.zt_workers.proofs.AnswerLemmas.{number_more}
use Rattle.zt_workers.proofs.answering.answer_makings.Goals as goal

pub loop-entry-preserved : goal.loop-entry-preserved
loop-entry-preserved g c =
    let inv = c.loop-entry.invariant in
    record {
      answers =
          number_more answered plain_entry 1 c.loop-entry.line (Ok [] ∷ []) c.loop-entry.answers.items c.push-in-loop-entry.new.self.items c.loop-entry.yielded c.in-Some.entry _
          inv.answers c.in_ok-push-2.ensures.items (omega (arith, inv.next, length-map c.loop-entry.yielded (plain_entry {K = g.row.K.Denot}))) refl;
      next = omega (arith, inv.next, length-append c.loop-entry.yielded (c.in-Some.entry ∷ []));
    }
