use Rattle.std.proofs.Common.{◌≡◌, drop}
use Rattle.zt_locals.specs.Folding.{fold_from}
use Rattle.zt_locals.proofs.fold.fold_onto.Given as goal

-- the info so far, with those left, is the whole fold
abbrev pub invariant-loop-row : goal.invariant-loop-row
invariant-loop-row g l =
    let fold = fold_from g.Res.LocalResourceTrait.matching g.Info.LocalResourceInfoTrait.aggregating l.into in
    fold l.info (drop l.row-index l.rows) ≡ fold l.fn.had l.rows
