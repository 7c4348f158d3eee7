use Rattle.std.proofs.Common.{sym, ◌∙◌}
use Rattle.zt_token_index.specs.Seekers.{in_others, in_tokens}
use Rattle.zt_interests.specs.Held.{is_held_as}
use Rattle.zt_interests.proofs.HeldSouth.{alike-others, alike-tokens, held-in, held-south-found}
use Rattle.zt_interests.proofs.upstream.is_held_south.Goals as goal

pub returns-then-is_in_tokens : goal.returns-then-is_in_tokens
returns-then-is_in_tokens g c =
    let cmp = g.K.Ord.cmp in
    let matching = g.K.Key.matching in
    let rows = c.args.g.now in
    let interest = c.args.interest.now in
    let all = rw c.expr.ensures at c.interests_in.ensures.all in
    c.is_one_held_as.ensures
    ∙ all.at (is_held_as cmp matching rows interest) (held-in cmp matching g.met.K.Key.laws.equal_is_same rows interest)
    ∙ held-south-found cmp matching in_tokens interest (alike-tokens cmp matching interest (sym c.is_in_tokens.ensures ∙ c.if-is_in_tokens.true)) rows c.interests_in.ensures.rising

pub returns-else-is_in_tokens : goal.returns-else-is_in_tokens
returns-else-is_in_tokens g c =
    let cmp = g.K.Ord.cmp in
    let matching = g.K.Key.matching in
    let rows = c.args.g.now in
    let interest = c.args.interest.now in
    let all = rw c.expr-else-is_in_tokens.ensures at c.others_in.ensures.all in
    c.is_one_held_as-else-is_in_tokens.ensures
    ∙ all.at (is_held_as cmp matching rows interest) (held-in cmp matching g.met.K.Key.laws.equal_is_same rows interest)
    ∙ held-south-found cmp matching in_others interest (alike-others cmp matching interest (sym c.is_in_tokens.ensures ∙ c.if-is_in_tokens.false)) rows c.others_in.ensures.rising
