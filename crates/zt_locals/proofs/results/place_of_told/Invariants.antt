use Rattle.std.proofs.Common.{◌≡◌, ◌++◌, drop, take}
use Rattle.zt_locals.specs.Results.{placed}
use Rattle.zt_locals.proofs.results.place_of_told.Given as goal

-- the place is behind those passed
abbrev pub invariant-loop-place : goal.invariant-loop-place
invariant-loop-place g l = placed g.Res.Ord.cmp (λ told. told.resource) l.one l.others ≡ take l.place l.others ++ placed g.Res.Ord.cmp (λ told. told.resource) l.one (drop l.place l.others)
