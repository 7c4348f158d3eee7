use Rattle.std.proofs.Common.{◌++◌, ◌∷◌, [], ap, subst, sym, ◌∙◌}
use Rattle.zt_check_faces.specs.Hinted.{AreHinted}
use Rattle.zt_check_faces.specs.Rising.{Rise}
use Rattle.zt_check_faces.proofs.Hinting.{hinted-kept, hinted-pushed}
use Rattle.zt_check_faces.proofs.told.ToldRows.tell.Goals as goal

pub invariant_of-self-in_err-push : goal.invariant_of-self-in_err-push
invariant_of-self-in_err-push g c = record {
  hinted =
      subst (AreHinted g.K.Ord.cmp c.add.new.self) (sym c.in_err-push.ensures.items)
      (hinted-kept g.K.Ord.cmp c.self.inside.ids c.add.new.self c.self.inside.rows.items c.add.ensures.kept c.self.invariant.hinted);
  rise = λ known. subst Rise (sym c.in_err-push.ensures.items) (c.self.invariant.rise known);
}

pub invariant_of-self-2 : goal.invariant_of-self-2
invariant_of-self-2 g c = record {
  hinted =
      subst (AreHinted g.K.Ord.cmp c.add.new.self)
      (sym (c.in_ok-push.ensures.items ∙ ap (λ (k : g.row.K.Denot). c.self.inside.rows.items ++ (c.args.id, k) ∷ []) c.in_ok-copy.ensures))
      (hinted-pushed g.K.Ord.cmp g.met.K.Key.laws.equal_is_same c.args.id c.args.expr.now c.self.inside.ids c.add.new.self c.self.inside.rows.items c.in_ok-add.ensures.kept c.in_ok-add.ensures.hinted c.self.invariant.hinted);
  rise = λ known.
      let grown = rw c.deref.ensures.value at (c.rises_with-rises.ensures known c.in_ok-copy.copy) in
      subst Rise (sym c.in_ok-push.ensures.items) grown;
}
