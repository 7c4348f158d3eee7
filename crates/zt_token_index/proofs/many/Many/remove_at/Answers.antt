use Rattle.std.proofs.Common.{ap, rules, sym, ◌∙◌}
use Rattle.std.specs.List.{remove}
use Rattle.zt_token_index.proofs.Left.{less-first, less-later}
use Rattle.zt_token_index.proofs.many.Many.remove_at.Goals as goal

pub returns-then-place-eq0 : goal.returns-then-place-eq0
returns-then-place-eq0 c =
    let own = c.self.inside in
    less-first own.gone own.pairs.items c.args.self.now c.self.view_is ∙ ap (remove c.args.self.now) (sym c.if-place-eq0.true)

pub returns-else-place-eq0 : goal.returns-else-place-eq0
returns-else-place-eq0 c =
    let own = c.self.inside in
    rw c.remove.ensures.items
    (less-later own.gone own.pairs.items c.args.self.now c.self.view_is c.args.place (search rules))
