use Rattle.std.proofs.Common.{ap, not, sym, ◌∙◌}
use Rattle.std.proofs.lemmas.Result.{on_ok_weaker}
use Rattle.zt_token_index.specs.Seekers.{in_others, in_tokens}
use Rattle.zt_token_index.proofs.Held.{put_none, put_one}
use Rattle.zt_token_index.proofs.interests.put_held.Goals as goal

pub returns-then-is_in_tokens-clause-tokens : goal.returns-then-is_in_tokens-clause-tokens
returns-then-is_in_tokens-clause-tokens g c =
    let is = sym c.is_in_tokens.ensures ∙ c.if-is_in_tokens.true in
    on_ok_weaker c.put.result
    (λ changed. put_one in_tokens g.K.Ord.cmp g.met.K.Ord.total c.args.face c.args.id c.args.interest.now c.args.tokens.now _ is (rw c.expr.ensures at changed))
    c.put.ensures

pub returns-then-is_in_tokens-clause-others : goal.returns-then-is_in_tokens-clause-others
returns-then-is_in_tokens-clause-others g c =
    let other = ap not (sym c.is_in_tokens.ensures ∙ c.if-is_in_tokens.true) in
    on_ok_weaker c.put.result
    (λ _. put_none in_others g.K.Ord.cmp g.met.K.Ord.total c.args.face c.args.id c.args.interest.now c.args.others.now other)
    c.put.ensures

pub returns-else-is_in_tokens-clause-tokens : goal.returns-else-is_in_tokens-clause-tokens
returns-else-is_in_tokens-clause-tokens g c =
    let other = sym c.is_in_tokens.ensures ∙ c.if-is_in_tokens.false in
    on_ok_weaker c.put-else-is_in_tokens.result
    (λ _. put_none in_tokens g.K.Ord.cmp g.met.K.Ord.total c.args.face c.args.id c.args.interest.now c.args.tokens.now other)
    c.put-else-is_in_tokens.ensures

pub returns-else-is_in_tokens-clause-others : goal.returns-else-is_in_tokens-clause-others
returns-else-is_in_tokens-clause-others g c =
    let is = ap not (sym c.is_in_tokens.ensures ∙ c.if-is_in_tokens.false) in
    on_ok_weaker c.put-else-is_in_tokens.result
    (λ changed. put_one in_others g.K.Ord.cmp g.met.K.Ord.total c.args.face c.args.id c.args.interest.now c.args.others.now _ is (rw c.expr-else-is_in_tokens.ensures at changed))
    c.put-else-is_in_tokens.ensures
