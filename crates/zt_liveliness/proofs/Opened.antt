-- The number of a face that is opened.
use Rattle.std.proofs.Common.{◌≡◌, ℕ, ◌+◌, Bool, Option, Some, None, sym, ◌∙◌}
use Rattle.std.specs.declared.cmp.Ordering.{Ordering}
use Rattle.zt_protocol.specs.Plain.{PlainCall}
use Rattle.zt_model.specs.Journal.{cause_of, face_of_call, made_by}
use Rattle.zt_model.specs.Rows.{Rows}

module _ {K : Type 0} (cmp : K → K → Ordering) (matching : K → K → Bool) where
  made_by_accepted : (c : PlainCall K) (g : Rows K) → cause_of cmp matching c g ≡ None → made_by cmp matching c g ≡ face_of_call c g
  unfolding made_by
  made_by_accepted c g accepted = rw (accepted, made_by)

  -- it is the next one
  pub opened_number : (c : PlainCall K) (g : Rows K) (made : Option ℕ) (n : ℕ) → cause_of cmp matching c g ≡ None
      → face_of_call c g ≡ Some (g.made + 1) → made ≡ made_by cmp matching c g → made ≡ Some n → n ≡ g.made + 1
  opened_number c g made n accepted opens is some =
      let numbers : Some n ≡ Some (g.made + 1) = sym some ∙ is ∙ made_by_accepted c g accepted ∙ opens in cc

  -- and there is one
  pub opened_some : (c : PlainCall K) (g : Rows K) (made : Option ℕ) → cause_of cmp matching c g ≡ None
      → face_of_call c g ≡ Some (g.made + 1) → made ≡ made_by cmp matching c g → made ≡ None → ⊥
  opened_some c g made accepted opens is none =
      let wrong : None ≡ Some (g.made + 1) = sym none ∙ is ∙ made_by_accepted c g accepted ∙ opens in cc
