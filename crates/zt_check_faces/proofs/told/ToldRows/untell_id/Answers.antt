use Rattle.std.proofs.Common.{sym, subst}
use Rattle.zt_check_faces.specs.Hinted.{AreHinted}
use Rattle.zt_check_faces.proofs.Hinting.{hinted-without}
use Rattle.zt_check_faces.proofs.told.ToldRows.untell_id.Goals as goal

pub invariant_of-self : goal.invariant_of-self
invariant_of-self g c = record {
  hinted =
      subst (AreHinted g.K.Ord.cmp c.drop_hint.new.ids) (sym c.drop_id.ensures.gone)
      (hinted-without g.K.Ord.cmp g.met.K.Key.laws.equal_is_same c.args.id c.self.inside.ids c.drop_hint.new.ids c.self.inside.rows.items c.drop_hint.ensures c.self.invariant.hinted);
  rise = c.drop_id.ensures.rise;
}
