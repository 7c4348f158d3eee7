use Rattle.zt_indexes.proofs.Changed.{changed-released}
use Rattle.zt_indexes.proofs.groups.KeyGroups.remove_at.Goals as goal

pub returns-then-drop_from : goal.returns-then-drop_from
returns-then-drop_from g c =
    rw (← c.self.view_is)
    (changed-released g.K.Ord.cmp c.args.number c.args.key.now c.self.inside.groups.entries c.drop_from.new.groups.entries c.drop_group.new.groups.entries c.drop_from.ensures.drops (c.drop_from.ensures.last c.if-drop_from.true) c.drop_group.ensures)

pub returns-else-drop_from : goal.returns-else-drop_from
returns-else-drop_from g c = rw (← c.self.view_is) c.drop_from.ensures.drops
