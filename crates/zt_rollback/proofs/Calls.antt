-- One call more behind others.
use Rattle.std.proofs.Common.{◌≡◌, ◌++◌, ◌==◌, ℕ, Bool, true, List, [], ◌∷◌, length, map, refl, sym, ap, ◌∙◌, arith, eqb-true}
use Rattle.std.specs.declared.cmp.Ordering.{Ordering}
use Rattle.zt_protocol.specs.Plain.{PlainCall}
use Rattle.zt_model.specs.Rows.{Rows}
use Rattle.zt_laws.specs.Sound.{rows_after_call}
use Rattle.zt_rollback.specs.declared.kept.KeptCall.{KeptCall}
use Rattle.zt_rollback.specs.After.{Before, rows_after_calls}
use Rattle.zt_rollback.specs.Kept.{kept_call}

module _ {K : Type 0} (cmp : K → K → Ordering) (matching : K → K → Bool) where
  pub one-more : (cs : List (PlainCall K)) (c : PlainCall K) (g : Rows K)
      → rows_after_calls cmp matching (cs ++ c ∷ []) g ≡ rows_after_call cmp matching c (rows_after_calls cmp matching cs g)
  one-more [] c g = refl
  one-more (d ∷ cs) c g = one-more cs c (rows_after_call cmp matching d g)

  -- where no calls came, the earlier rows are those that are kept
  pub no-calls : (kept : List (KeptCall K)) (g : Rows K) (n : ℕ) → (n == 0) ≡ true → n ≡ length kept → rows_after_calls cmp matching (map kept_call kept) g ≡ g
  no-calls [] g n none counted = refl
  no-calls (c ∷ cs) g n none counted = let zero : n ≡ 0 = eqb-true n 0 none in absurd (omega arith)

  -- what a call leaves of what was kept before it is what is left where it joins the calls
  pub joins : (calls more : List (PlainCall K)) (c : PlainCall K) (earlier state now : Rows K) (former : Before K)
      → now ≡ rows_after_call cmp matching former.call former.rows → record { rows = rows_after_calls cmp matching calls earlier; call = c } ≡ former
      → more ≡ calls ++ c ∷ [] → state ≡ earlier → now ≡ rows_after_calls cmp matching more state
  joins calls more c earlier state now former now_is former_is more_is state_is =
      now_is
      ∙ ap (λ (f : Before K). rows_after_call cmp matching f.call f.rows) (sym former_is)
      ∙ sym (one-more calls c earlier)
      ∙ ap (λ (cs : List (PlainCall K)). rows_after_calls cmp matching cs earlier) (sym more_is)
      ∙ ap (rows_after_calls cmp matching more) (sym state_is)
