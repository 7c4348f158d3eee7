use Rattle.std.proofs.Common.{drop}
use Rattle.zt_model.specs.Trees.{counted_table}
use Rattle.zt_routers.specs.Reached.{is_at_new_child}
use Rattle.zt_routers.proofs.Noted.{NotesBut}
use Rattle.zt_routers.proofs.greeting.note_new_children.Given as goal

-- the faces at the children are noted, but for those left
abbrev pub invariant-loop-child : goal.invariant-loop-child
invariant-loop-child g l = NotesBut (is_at_new_child l.g l.region (counted_table l.before)) l.children (drop l.child-index l.children) l.initial.numbers.items l.numbers.items
