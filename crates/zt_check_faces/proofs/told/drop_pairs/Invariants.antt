use Rattle.std.proofs.Common.{◌≡◌, take}
use Rattle.zt_check_faces.specs.Rising.{Rise}
use Rattle.zt_check_faces.proofs.Untold.{without_pairs}
use Rattle.zt_check_faces.proofs.told.drop_pairs.Given as goal

-- the pairs of the ids so far are gone
abbrev pub invariant-loop-id : goal.invariant-loop-id
invariant-loop-id g l = record {
  gone : l.rows.items ≡ without_pairs g.K.Ord.cmp (take l.id-index l.ids) l.expr l.fn.rows.items;
  rise : Rise l.rows.items;
}
