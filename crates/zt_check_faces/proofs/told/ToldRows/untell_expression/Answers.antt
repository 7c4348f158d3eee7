use Rattle.std.proofs.Common.{sym, subst}
use Rattle.zt_check_faces.specs.Hinted.{AreHinted}
use Rattle.zt_check_faces.specs.Rising.{AreNamed}
use Rattle.zt_check_faces.proofs.Hinting.{hinted-unnamed}
use Rattle.zt_check_faces.proofs.Untold.{named_hints}
use Rattle.zt_check_faces.proofs.told.ToldRows.untell_expression.Goals as goal

pub drop_named-requires-clause-named : goal.drop_named-requires-clause-named
drop_named-requires-clause-named g c =
    subst (λ ids. AreNamed g.K.Ord.cmp ids c.args.expr.now c.self.inside.rows.items) (sym c.at.ensures)
    (named_hints g.K.Ord.cmp c.self.inside.ids c.self.inside.rows.items c.args.expr.now c.self.invariant.hinted)

pub invariant_of-self : goal.invariant_of-self
invariant_of-self g c = record {
  hinted =
      subst (AreHinted g.K.Ord.cmp c.forget.new.self) (sym c.drop_named.ensures.gone)
      (hinted-unnamed g.K.Ord.cmp g.met.K.Key.laws.equal_is_same c.args.expr.now c.self.inside.ids c.forget.new.self c.self.inside.rows.items c.forget.ensures c.self.invariant.hinted);
  rise = c.drop_named.ensures.rise;
}
