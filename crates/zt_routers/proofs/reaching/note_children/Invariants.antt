use Rattle.std.proofs.Common.{drop}
use Rattle.zt_routers.specs.Reached.{is_at_child}
use Rattle.zt_routers.proofs.Noted.{NotesBut}
use Rattle.zt_routers.proofs.reaching.note_children.Given as goal

-- the faces at the children are noted, but for those left
abbrev pub invariant-loop-child : goal.invariant-loop-child
invariant-loop-child g l = NotesBut (is_at_child l.g l.region) l.children (drop l.child-index l.children) l.initial.numbers.items l.numbers.items
