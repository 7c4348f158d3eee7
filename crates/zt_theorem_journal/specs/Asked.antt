-- What an ask for tokens finds in a journal.
use Rattle.std.specs.Prelude.{◌≡◌, ℕ, Bool, List, Option, Some, filter, take}
use Rattle.std.specs.declared.cmp.Ordering.{Ordering}
use Rattle.zt_protocol.specs.Plain.{PlainCall, Interest}
use Rattle.zt_protocol.specs.declared.entries.Sent.{Sent}
use Rattle.zt_protocol.specs.declared.interests.InterestMode.TheVariants.{Current}
use Rattle.zt_protocol.specs.declared.interests.InterestOptions.{InterestOptions}
use Rattle.zt_model.specs.Fabric.{printed_for}
use Rattle.zt_model.specs.Journal.{Journalled, rows_replayed}
use Rattle.zt_model.specs.Promises.{answers_in}
use Rattle.zt_model.specs.Rows.{Face, Rows}
use Rattle.zt_model.specs.Says.{find_face}
use Rattle.zt_model.specs.Visible.{visible_expressions}
use Rattle.zt_model.specs.Wants.{is_about}

-- tokens alone are asked for
abbrev pub tokens_alone : InterestOptions
tokens_alone = record { 0 = 8 }

-- an ask of a face for the tokens that are there now: those of an expression, or all
abbrev pub token_ask : {K : Type 0} → (face id : ℕ) → Option K → PlainCall K
token_ask face id expr = Interest face id Current tokens_alone expr

-- the expressions that an ask of a face is answered among messages, in order
abbrev pub answers_to : {K : Type 0} → (face id : ℕ) → List (Sent K) → List K
answers_to face id sent = answers_in id (printed_for face sent)

module _ {K : Type 0} (cmp : K → K → Ordering) (matching : K → K → Bool) where
  -- the rows as the entries before a place leave them
  abbrev pub rows_before : ℕ → List (Journalled K) → Rows K → Rows K
  rows_before place entries g = rows_replayed cmp matching (take place entries) g

  -- The keys are those that are visible to the face and match the expression, in key order.
  pub record AreVisible (face : ℕ) (expr : Option K) (g : Rows K) (keys : List K) : Type 0 where
    pub asker : Face K
    pub found : find_face face g ≡ Some asker
    pub are : keys ≡ filter (is_about matching expr) (visible_expressions cmp g asker.region)
