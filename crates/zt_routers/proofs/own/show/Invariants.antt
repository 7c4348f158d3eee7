use Rattle.std.proofs.Common.{[]}
use Rattle.zt_routers.specs.Reached.{is_shown_by}
use Rattle.zt_routers.proofs.Noted.{NotesBut}
use Rattle.zt_routers.proofs.own.show.Given as goal

-- the faces that the gateway's own tokens go on to are noted, but for those by the tables left
abbrev pub invariant-loop-region : goal.invariant-loop-region
invariant-loop-region g l = NotesBut (is_shown_by g.K.Ord.cmp l.g l.source l.expr) l.g.trees l.region-iterator [] l.numbers.items
