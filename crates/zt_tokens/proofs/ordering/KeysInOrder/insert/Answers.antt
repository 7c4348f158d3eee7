use Rattle.std.proofs.Common.{ap, ◌∙◌}
use Rattle.zt_model.specs.Lists.{with_key}
use Rattle.zt_tokens.proofs.Gathering.{insert_key_is}
use Rattle.zt_tokens.proofs.ordering.KeysInOrder.insert.Goals as goal

pub returns : goal.returns
returns g c =
    let keys = c.self.inside.keys.keys in
    rw (← c.self.view_is) (c.in_ok-insert.ensures.keys ∙ insert_key_is g.K.Ord.cmp c.in_ok-copy.field-0 keys ∙ ap (λ k. with_key g.K.Ord.cmp k keys) c.in_ok-copy.ensures)
