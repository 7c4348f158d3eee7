-- One face changed keeps the numbers of the faces rising.
use Rattle.std.proofs.Common.{◌≡◌, ℕ, ◌==◌, if◌then◌else◌}
use Rattle.zt_model.specs.Rows.{Face, Rows}
use Rattle.zt_model.specs.Says.{with_face}
use Rattle.zt_laws.specs.Sound.{RiseFrom}
use Rattle.zt_laws.proofs.Faces.{chosen_leaves}
use Rattle.zt_laws.proofs.Lists.{rise_map}

module _ {K : Type 0} where
  pub with_face_rises : (n : ℕ) (change : Face K → Face K) (g : Rows K) → ((f : Face K) → (change f).number ≡ f.number) → RiseFrom (λ f. f.number) 1 g.faces → RiseFrom (λ f. f.number) 1 (with_face n change g).faces
  unfolding with_face
  with_face_rises n change g number_ rises =
      rise_map (λ f. f.number) 1 (λ f. if n == f.number then change f else f) g.faces (λ f. chosen_leaves (λ k. k.number) change (n == f.number) f (number_ f)) rises
