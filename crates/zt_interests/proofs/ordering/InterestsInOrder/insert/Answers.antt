use Rattle.std.proofs.Common.{Option, ap, ap₂, map, ◌∙◌}
use Rattle.zt_protocol.specs.declared.interests.InterestOptions.{InterestOptions}
use Rattle.zt_interests.specs.Held.{asking_both}
use Rattle.zt_model.specs.Lists.{with_key}
use Rattle.zt_model.specs.Routing.{interest_order}
use Rattle.zt_tokens.proofs.Gathering.{insert_key_is}
use Rattle.zt_interests.proofs.Ordered.{asked_cmp, asked-put}
use Rattle.zt_interests.proofs.ordering.InterestsInOrder.insert.Goals as goal

pub returns : goal.returns
returns g c =
    let cmp = g.K.Ord.cmp in
    let matching = g.K.Key.matching in
    let keys = c.self.inside.asked.keys in
    let key : Option g.row.K.Denot × InterestOptions = (c.in_ok-expr.expr, c.options.result) in
    rw (← c.self.view_is)
    (ap (map asking_both) (c.in_ok-insert.ensures.keys ∙ insert_key_is (asked_cmp cmp matching) key keys)
    ∙ asked-put cmp matching key keys
    ∙ ap (λ k. with_key (interest_order cmp matching) k (map asking_both keys))
    (ap₂ (λ (e : Option g.row.K.Denot) (o : InterestOptions). asking_both (e, o)) (c.in_ok-expr.ensures ∙ c.expr.ensures) c.options.ensures))
