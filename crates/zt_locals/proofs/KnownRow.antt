-- What is told of a simple row that is found at its place.
use Rattle.std.proofs.Common.{◌≡◌, ℕ, Bool, List, Option, Some, sym, ap, ◌∙◌}
use Rattle.std.specs.declared.cmp.Ordering.{Ordering}
use Rattle.zt_locals.specs.declared.rows.SimpleRow.{SimpleRow}
use Rattle.zt_locals.specs.declared.rows.LocalResourceInsertResult.{LocalResourceInsertResult}
use Rattle.zt_locals.specs.declared.rows.LocalResourceRemoveResult.{LocalResourceRemoveResult}
use Rattle.zt_locals.specs.Interests.{joined}
use Rattle.zt_locals.specs.Resources.{is_told, is_untold}
use Rattle.zt_locals.specs.Results.{with_told, with_untold}

module _ {Id Res Info : Type 0} (cmp : Res → Res → Ordering) where
  pub told_of_row : (eq : Info → Info → Bool) (key : Res) (info : Info) (ids : List ℕ) (row it : Res × SimpleRow Id Info) (told : Option Res) (before all : List (LocalResourceInsertResult Id Res Info)) → row ≡ it
      → all ≡ with_told cmp it.1.id info told before → told ≡ is_told eq key (Some it.1) info (joined it.1.interests ids)
      → all ≡ with_told cmp row.1.id info (is_told eq key (Some row.1) info (joined row.1.interests ids)) before
  told_of_row eq key info ids row it told before all same h is =
      h
      ∙ ap (λ t. with_told cmp it.1.id info t before) is
      ∙ ap (λ (r : Res × SimpleRow Id Info). with_told cmp r.1.id info (is_told eq key (Some r.1) info (joined r.1.interests ids)) before) (sym same)

  pub untold_of_row : (key : Res) (row it : Res × SimpleRow Id Info) (told : Option Res) (before all : List (LocalResourceRemoveResult Id Res Info)) → row ≡ it
      → all ≡ with_untold cmp it.1.id told before → told ≡ is_untold key it.1.interests → all ≡ with_untold cmp row.1.id (is_untold key row.1.interests) before
  untold_of_row key row it told before all same h is =
      h
      ∙ ap (λ t. with_untold cmp it.1.id t before) is
      ∙ ap (λ (r : Res × SimpleRow Id Info). with_untold cmp r.1.id (is_untold key r.1.interests) before) (sym same)
