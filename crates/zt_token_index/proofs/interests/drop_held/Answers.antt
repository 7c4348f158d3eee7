use Rattle.std.proofs.Common.{ap, flat_map, subst, sym, ◌∙◌}
use Rattle.zt_interest_index.specs.Holders.{IsIndexOf}
use Rattle.zt_model.specs.Lists.{at_id}
use Rattle.zt_token_index.specs.Seekers.{in_others, in_tokens, other_rows, token_rows}
use Rattle.zt_token_index.proofs.Held.{none_dropped, only_one}
use Rattle.zt_token_index.proofs.interests.drop_held.Goals as goal

pub returns-in-Some-clause-tokens : goal.returns-in-Some-clause-tokens
returns-in-Some-clause-tokens g c fs one was =
    let found = sym (c.in-Some.ensures.row ∙ ap (at_id c.args.id) c.held.ensures) in
    let sorted = rw c.held.ensures at c.in-Some.ensures.ordered in
    let gone = rw c.number.ensures at c.remove_held.ensures.tokens in
    gone (flat_map token_rows fs) (only_one in_tokens g.K.Ord.cmp g.met.K.Ord.total c.args.id c.in-Some.held.now c.args.f.now fs sorted found one.only) was

pub returns-in-Some-clause-others : goal.returns-in-Some-clause-others
returns-in-Some-clause-others g c fs one was =
    let found = sym (c.in-Some.ensures.row ∙ ap (at_id c.args.id) c.held.ensures) in
    let sorted = rw c.held.ensures at c.in-Some.ensures.ordered in
    let gone = rw c.number.ensures at c.remove_held.ensures.others in
    gone (flat_map other_rows fs) (only_one in_others g.K.Ord.cmp g.met.K.Ord.total c.args.id c.in-Some.held.now c.args.f.now fs sorted found one.only) was

pub returns-in_default-clause-tokens : goal.returns-in_default-clause-tokens
returns-in_default-clause-tokens g c fs one was =
    let found = sym (c.in_default.ensures.row ∙ ap (at_id c.args.id) c.held.ensures) in
    subst (IsIndexOf g.K.Ord.cmp c.args.tokens.now) (sym (none_dropped in_tokens g.K.Ord.cmp g.met.K.Ord.total c.args.id c.args.f.now fs found one.only)) was

pub returns-in_default-clause-others : goal.returns-in_default-clause-others
returns-in_default-clause-others g c fs one was =
    let found = sym (c.in_default.ensures.row ∙ ap (at_id c.args.id) c.held.ensures) in
    subst (IsIndexOf g.K.Ord.cmp c.args.others.now) (sym (none_dropped in_others g.K.Ord.cmp g.met.K.Ord.total c.args.id c.args.f.now fs found one.only)) was

pub returns-in-Some-clause-ordered : goal.returns-in-Some-clause-ordered
returns-in-Some-clause-ordered g c = rw c.held.ensures at c.in-Some.ensures.ordered

pub returns-in_default-clause-ordered : goal.returns-in_default-clause-ordered
returns-in_default-clause-ordered g c = rw c.held.ensures at c.in_default.ensures.ordered
