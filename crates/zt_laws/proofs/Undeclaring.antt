-- Which token an undeclaration takes away.
use Rattle.std.proofs.Common.{◌≡◌, ℕ, Bool, true, false, ◌==◌, Option, Some, None, refl, ◌∙◌}
use Rattle.std.specs.declared.cmp.Ordering.{Ordering}
use Rattle.zt_model.specs.Lists.{at_id}
use Rattle.zt_model.specs.Rows.{Face}
use Rattle.zt_model.specs.Says.{undeclared}
use Rattle.zt_model.specs.Transcript.{Each}
use Rattle.zt_laws.specs.Sound.{RiseFrom}
use Rattle.zt_laws.proofs.Lists.{each_weaker, never}
use Rattle.zt_laws.proofs.Visible.{at_none, at_only}

module _ {K : Type 0} (cmp : K → K → Ordering) (matching : K → K → Bool) where
  -- the token that an undeclaration takes away has its expression
  pub undeclared_only : (id : ℕ) (given : Option K) (e : K) (f : Face K) → RiseFrom (λ row. row.0) 0 f.live → undeclared cmp matching id given f ≡ Some e → Each (λ row. (id == row.0) ≡ true → row.1 ≡ e) f.live
  undeclared_only id given e f rises is = cases (at_id id f.live) refl is
    where
      cases : (o : Option K) → at_id id f.live ≡ o → elim o [ None ↦ given | Some live ↦ Some live ] ≡ Some e → Each (λ row. (id == row.0) ≡ true → row.1 ≡ e) f.live
      cases None at_ is_ = each_weaker (λ row. (id == row.0) ≡ false) (λ row. (id == row.0) ≡ true → row.1 ≡ e) (λ row miss hit. never hit miss) f.live (at_none id f.live at_)
      cases (Some live) at_ is_ = let at_e : at_id id f.live ≡ Some e = at_ ∙ is_ in at_only id 0 f.live e rises at_e
