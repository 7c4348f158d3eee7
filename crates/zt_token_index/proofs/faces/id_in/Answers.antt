use Rattle.std.proofs.Common.{sym, ◌∙◌}
use Rattle.std.specs.Cmp.{nat_cmp_total}
use Rattle.std.specs.Ordering.{nat_cmp}
use Rattle.zt_ordered.specs.Placing.{find-gap, find-place}
use Rattle.zt_token_index.proofs.Pairs.{find-id}
use Rattle.zt_token_index.proofs.faces.id_in.Goals as goal

pub returns-in-Ok : goal.returns-in-Ok
returns-in-Ok c =
    let pairs = c.args.pairs.now in
    sym (find-place nat_cmp nat_cmp_total c.args.face pairs c.in-Ok.place (0, 0) (sym c.in-Ok.ensures.place)) ∙ find-id c.args.face pairs

pub returns-in-Err : goal.returns-in-Err
returns-in-Err c =
    let pairs = c.args.pairs.now in
    sym (find-gap nat_cmp nat_cmp_total c.args.face pairs c.in-Err.field-0 c.requires (sym c.in-Err.ensures.place)) ∙ find-id c.args.face pairs
