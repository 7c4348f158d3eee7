use Rattle.std.proofs.Common.{rules, map-id, ap, sym, [], ◌∷◌, ◌++◌, ◌∙◌}
use Rattle.std.proofs.lemmas.Iterator.Consumers.{YieldsList-end}
use Rattle.std.proofs.lemmas.Iterator.Adapters.{YieldsList-from_vec}
use Rattle.zt_theorem_journal.specs.Asked.{answers_to}
use Rattle.zt_presence.proofs.TableLemmas.{answers_append, answers_none}
use Rattle.zt_presence.proofs.tables.answers.Goals as goal

pub loop-one-init : goal.loop-one-init
loop-one-init g c = c.new-keys.ensures.items ∙ answers_none c.args.face c.args.id

pub loop-one-preserved : goal.loop-one-preserved
loop-one-preserved g c =
    c.in_ok-add_answer.ensures
    ∙ ap (λ keys. keys ++ answers_to c.args.face c.args.id (c.in-Some.one ∷ [])) c.loop-one.invariant
    ∙ sym (answers_append c.args.face c.args.id c.loop-one.yielded (c.in-Some.one ∷ []))

pub returns : goal.returns
returns g c =
    let end = YieldsList-end (YieldsList-from_vec {s = c.into_iter-one-iterator.result} c.args.sent.items (search rules) (search rules))
    c.loop-one.yielded c.loop-one.one-iterator c.loop-one.yielded_by c.next.result c.next.new.self c.in-None.is c.next.ensures.steps in
    rw (← end.0, map-id) c.loop-one.invariant
