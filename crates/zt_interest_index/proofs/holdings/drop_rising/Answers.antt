use Rattle.std.proofs.Common.{◌∙◌}
use Rattle.zt_interest_index.proofs.Rising.{dropped-at, dropped-none}
use Rattle.zt_interest_index.proofs.holdings.drop_rising.Goals as goal

pub returns-in-Ok : goal.returns-in-Ok
returns-in-Ok g c =
    let found = rw c.as_slice.ensures.value at c.in-Ok.ensures.place in
    c.remove.ensures.items ∙ dropped-at c.args.face c.args.id c.args.rows.now.items c.in-Ok.place c.requires found

pub returns-in_default : goal.returns-in_default
returns-in_default g c =
    let gap = rw c.as_slice.ensures.value at c.in_default.ensures.place in
    dropped-none c.args.face c.args.id c.args.rows.now.items c.in_default.field-0 c.requires gap
