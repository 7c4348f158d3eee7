use Rattle.std.proofs.Common.{[], ◌∷◌, ◌++◌, ◌<◌, ◌≤◌, length, map, get_or, refl, rules, ap, ◌∙◌, map-id, arith}
use Rattle.std.proofs.lemmas.List.{length-append, take_all}
use Rattle.std.proofs.lemmas.Iterator.Consumers.{YieldsList-end, YieldsList-turn}
use Rattle.std.proofs.lemmas.Iterator.Adapters.{YieldsList-from_vec}
use Rattle.zt_protocol.specs.Plain.{PlainEntry}
use Rattle.zt_shared.specs.Recorded.{plain_outcome}
use Rattle.zt_shared.specs.declared.entries.JournalEntry.{JournalEntry}
use Rattle.zt_workers.specs.Answers.{answered}
use Rattle.zt_dealing.specs.Dealing.{with_lines}
use Rattle.zt_workers.proofs.AnswerLemmas.{line_more}
use Rattle.zt_workers.proofs.answering.answer_journal.Goals as goal

pub offset_bounds-lines-place : goal.offset_bounds-lines-place
offset_bounds-lines-place g c =
    let turn = YieldsList-turn (YieldsList-from_vec {s = c.into_iter-entry-iterator.result} c.args.journal.entries.items (search rules) (search rules))
    c.loop-entry.yielded c.loop-entry.entry-iterator c.loop-entry.yielded_by c.next.result c.next.new.self c.in-Some.entry c.in-Some.is c.next.ensures.steps in
    let less = turn.0 in
    omega (arith, c.loop-entry.invariant.next)

pub bounds-lines-place : goal.bounds-lines-place
bounds-lines-place g c =
    let turn = YieldsList-turn (YieldsList-from_vec {s = c.into_iter-entry-iterator.result} c.args.journal.entries.items (search rules) (search rules))
    c.loop-entry.yielded c.loop-entry.entry-iterator c.loop-entry.yielded_by c.next.result c.next.new.self c.in-Some.entry c.in-Some.is c.next.ensures.steps in
    let less = turn.0 in
    omega (arith, c.loop-entry.invariant.next)

pub overflow_add-place : goal.overflow_add-place
overflow_add-place g c =
    let turn = YieldsList-turn (YieldsList-from_vec {s = c.into_iter-entry-iterator.result} c.args.journal.entries.items (search rules) (search rules))
    c.loop-entry.yielded c.loop-entry.entry-iterator c.loop-entry.yielded_by c.next.result c.next.new.self c.in-Some.entry c.in-Some.is c.next.ensures.steps in
    let less = turn.0 in
    omega (arith, c.loop-entry.invariant.next)

pub loop-entry-preserved : goal.loop-entry-preserved
loop-entry-preserved g c =
    let turn = YieldsList-turn (YieldsList-from_vec {s = c.into_iter-entry-iterator.result} c.args.journal.entries.items (search rules) (search rules))
    c.loop-entry.yielded c.loop-entry.entry-iterator c.loop-entry.yielded_by c.next.result c.next.new.self c.in-Some.entry c.in-Some.is c.next.ensures.steps in
    let less = turn.0 in
    let inv = c.loop-entry.invariant in
    let within : c.loop-entry.place < length c.args.lines.now = omega (arith, inv.next) in
    let line = get_or c.args.lines.now c.loop-entry.place 0 in
    record {
      answers =
          line_more answered (λ (entry : JournalEntry g.row.K.Denot). plain_outcome entry.outcome) c.args.lines.now c.loop-entry.place c.args.answers.now.items c.loop-entry.answers.items c.push.new.self.items
          c.loop-entry.yielded c.in-Some.entry _ line 0 inv.answers c.in_ok-push.ensures.items inv.next within refl (ap (λ (e : PlainEntry g.row.K.Denot). (line, e)) c.entry_of-entry.ensures);
      next = omega (arith, inv.next, length-append c.loop-entry.yielded (c.in-Some.entry ∷ []));
    }

pub returns : goal.returns
returns g c =
    let end = YieldsList-end (YieldsList-from_vec {s = c.into_iter-entry-iterator.result} c.args.journal.entries.items (search rules) (search rules))
    c.loop-entry.yielded c.loop-entry.entry-iterator c.loop-entry.yielded_by c.next.result c.next.new.self c.in-None.is c.next.ensures.steps in
    let whole = end.1 in
    let inv = c.loop-entry.invariant in
    let most : length c.args.lines.now ≤ c.loop-entry.place = omega (arith, inv.next) in
    rw (← end.0, map-id)
    (inv.answers ∙ ap (λ ls. map answered c.args.answers.now.items ++ with_lines ls (map (λ (entry : JournalEntry g.row.K.Denot). plain_outcome entry.outcome) c.loop-entry.yielded)) (take_all c.loop-entry.place c.args.lines.now most))
