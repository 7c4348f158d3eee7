use Rattle.std.proofs.Common.{◌≡◌, take, map}
use Rattle.zt_locals.specs.Folding.{info_after}
use Rattle.zt_locals.proofs.fold.infos_after.Given as goal

-- those passed have their infos
abbrev pub invariant-loop-row : goal.invariant-loop-row
invariant-loop-row g l = l.infos.items ≡ map (info_after g.Res.LocalResourceTrait.matching g.Info.LocalResourceInfoTrait.aggregating l.simple l.gone l.key l.come) (take l.row-index l.rows)
