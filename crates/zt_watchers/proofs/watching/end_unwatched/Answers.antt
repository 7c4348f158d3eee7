use Rattle.std.proofs.Common.{◌≡◌, ◌++◌, ◌∷◌, [], List, ℕ, ap, ◌∙◌, length}
use lib.ListN.{replicate}
use Rattle.zt_watchers.specs.declared.polls.Poll.{Poll}
use Rattle.zt_dealing.specs.declared.working.Done.{Done}
use Rattle.zt_watchers.proofs.BesideLemmas.{all_more, made_unwatched, tables_done}
use Rattle.zt_watchers.proofs.watching.end_unwatched.Goals as goal

pub journal_with_lines-requires-clause-own : goal.journal_with_lines-requires-clause-own
journal_with_lines-requires-clause-own g c =
    all_more (λ (done : Done g.row.K.Denot). done.pass.table ≡ c.args.shared) c.in_ok-all.all.items c.push.new.self.items _
    (tables_done c.args.shared c.args.jobs.items c.in_ok-all.all.items c.requires.jobs c.in_ok-all.ensures) c.requires.own c.in_ok-push.ensures.items

pub returns : goal.returns
returns g c = λ opening workers calls count expr before dealt fresh refuses.
    made_unwatched g.K.Ord.cmp g.K.Key.matching c.args.shared opening workers calls c.args.jobs.items c.in_ok-all.all.items c.push.new.self.items (record { pass = c.args.pass; lines = c.in_ok-zeros.field-0 }) _ _
    dealt c.in_ok-all.ensures c.in_ok-push.ensures.items c.in_ok-journal.ensures.whole c.in_ok-journal.ensures.made
    count expr before c.new-polls.result.items fresh refuses
    (c.in_ok-zeros.ensures ∙ ap (λ (ps : List (Poll g.row.K.Denot)). (let zeros : List ℕ = replicate (length ps) 0 in zeros ++ 0 ∷ [])) (c.as_slice.ensures.value ∙ c.new-polls.ensures.items))
    c.new-polls.ensures.items
