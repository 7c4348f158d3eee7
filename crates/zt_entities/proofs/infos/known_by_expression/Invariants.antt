use Rattle.std.proofs.Common.{drop}
use Rattle.zt_entities.specs.Known.{AreKnown}
use Rattle.zt_entities.proofs.infos.known_by_expression.Given as goal

-- what is known of those from the place on
abbrev pub invariant-loop-place : goal.invariant-loop-place
invariant-loop-place g l = AreKnown g.K.Ord.cmp (drop l.place l.found) l.known.entries
