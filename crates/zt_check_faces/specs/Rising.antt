-- Rows whose ids rise, so that each id stands once.
use Rattle.std.specs.Prelude.{◌≡◌, ℕ, Bool, true, false, ◌==◌, ◌++◌, ◌∷◌, not, if◌then◌else◌, List, [], IsTrue}
use Rattle.std.specs.List.{list_any}
use Rattle.std.specs.FinMap.Entries.{is_sorted}
use Rattle.std.specs.Ordering.{nat_cmp}
use Rattle.std.specs.declared.cmp.Ordering.{Ordering}
use Rattle.zt_model.specs.Lists.{is_among}
use Rattle.zt_model.specs.Rows.{Ask, ById}
use Rattle.zt_check_faces.specs.Hinted.{AreHinted, is_under}

-- ids rise from row to row
abbrev pub Rise : {X : Type 0} → List (ℕ × X) → Type 0
Rise rows = IsTrue (is_sorted nat_cmp rows)

module _ {K : Type 0} (cmp : K → K → Ordering) where
  -- what is kept beside what a face was told: each row's id is hinted, and ids rise where this is known
  pub record IsToldKept (hints : List (K × List ℕ)) (known : Bool) (rows : ById K) : Type 0 where
    pub hinted : AreHinted cmp hints rows
    pub rise : known ≡ true → Rise rows

  -- the rows of an expression stand under these ids alone
  abbrev pub AreNamed : List ℕ → K → ById K → Type 0
  AreNamed ids e rows = is_under cmp (λ n. not (list_any (λ id. id == n) ids)) e rows ≡ false

  -- an ask is answered an expression, which is there once
  abbrev pub answered_once : K → Ask K → Ask K
  answered_once e ask = if not (is_among cmp e ask.answered) then (record ask { answered = ask.answered ++ e ∷ [] }) else ask
