use Rattle.std.proofs.Common.{ℕ, Some, ap, rules, sym, ◌∙◌}
use Rattle.std.specs.Cmp.{nat_cmp_total}
use Rattle.std.specs.Ordering.{nat_cmp}
use Rattle.zt_ordered.specs.Placing.{find-gap}
use Rattle.zt_token_index.proofs.Left.{known-there, put-between, put-there}
use Rattle.zt_token_index.proofs.Pairs.{find-id}
use Rattle.zt_token_index.proofs.many.Many.put.Goals as goal

pub returns-in-Ok-clause-ok : goal.returns-in-Ok-clause-ok
returns-in-Ok-clause-ok c =
    let own = c.self.inside in
    let there = sym (rw c.as_slice.ensures at c.in-Ok.ensures.place) in
    rw c.replace.ensures.after
    (put-there own.gone own.pairs.items c.args.self.now c.self.view_is c.args.face c.args.id c.in-Ok.place c.index_mut.result.now there c.index_mut.ensures.value)

pub returns-in-Ok-clause-known : goal.returns-in-Ok-clause-known
returns-in-Ok-clause-known c =
    let own = c.self.inside in
    let there = sym (rw c.as_slice.ensures at c.in-Ok.ensures.place) in
    ap (λ (id : ℕ). Some id) c.replace.ensures.value
    ∙ known-there own.gone own.pairs.items c.args.self.now c.self.view_is c.args.face c.in-Ok.place c.index_mut.result.now there c.index_mut.ensures.value

pub returns-in_ok-insert-in-Err-clause-ok : goal.returns-in_ok-insert-in-Err-clause-ok
returns-in_ok-insert-in-Err-clause-ok c =
    let own = c.self.inside in
    let gap = sym (rw c.as_slice.ensures at c.in-Err.ensures.place) in
    rw c.in_ok-insert-in-Err.ensures.items
    (put-between own.gone own.pairs.items c.args.self.now c.self.view_is c.args.face c.args.id c.in-Err.place (search rules) gap)

pub returns-in_ok-insert-in-Err-clause-known : goal.returns-in_ok-insert-in-Err-clause-known
returns-in_ok-insert-in-Err-clause-known c =
    let gap = sym (rw c.as_slice.ensures at c.in-Err.ensures.place) in
    sym (find-gap nat_cmp nat_cmp_total c.args.face c.args.self.now c.in-Err.place c.requires gap) ∙ find-id c.args.face c.args.self.now
