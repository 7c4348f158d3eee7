-- What a query is sent in its own call.
use Rattle.std.proofs.Common.{◌≡◌, ℕ, ◌+◌, Bool, true, Option, Some, None, [], filter, refl, ap, ◌∙◌}
use Rattle.std.specs.declared.cmp.Ordering.{Ordering}
use Rattle.zt_region.specs.declared.region.WhatAmI.{WhatAmI}
use Rattle.zt_region.specs.declared.region.WhatAmI.TheVariants.{Router, Peer, Client}
use Rattle.zt_protocol.specs.Interest.{has_tokens}
use Rattle.zt_protocol.specs.Plain.{Interest}
use Rattle.zt_protocol.specs.declared.interests.InterestMode.TheVariants.{Current}
use Rattle.zt_protocol.specs.declared.interests.InterestOptions.{InterestOptions}
use Rattle.zt_model.specs.Hearing.{messages_for}
use Rattle.zt_model.specs.Parts.{find_face}
use Rattle.zt_model.specs.Promises.{answers_in}
use Rattle.zt_model.specs.Rows.{Face, Rows}
use Rattle.zt_model.specs.Says.{answered_expressions, row_of, said}
use Rattle.zt_model.specs.Visible.{visible_expressions}
use Rattle.zt_model.specs.Wants.{is_about, kept_options}
use Rattle.zt_theorem_answers.proofs.AtOnce.{answered_at_once}
use Rattle.zt_liveliness.specs.Lively.{Get, Lively, error_in, interests_made, said_in, unless}
use Rattle.zt_liveliness.specs.declared.errors.ApiError.{ApiError}

-- the options of a query
abbrev tokens_alone : InterestOptions
tokens_alone = record { 0 = 8 }

-- every face keeps them
tokens_kept : (mode : WhatAmI) → has_tokens (kept_options mode tokens_alone) ≡ true
tokens_kept Router = refl
tokens_kept Peer = refl
tokens_kept Client = refl

module _ {K : Type 0} (cmp : K → K → Ordering) (matching : K → K → Bool) where
  asked_of : (f : Face K) (e : K) (g : Rows K)
      → answered_expressions cmp matching g (row_of cmp matching f Current tokens_alone (Some e)) f ≡ filter (is_about matching (Some e)) (visible_expressions cmp g f.region)
  unfolding answered_expressions
  asked_of f e g = rw (tokens_kept f.mode) refl

  pub query_answered_at_once : (session : ℕ) (expr : K) (f : Face K) (l : Lively K) → find_face session l.rows ≡ Some f → error_in cmp matching (Get session expr) l ≡ None
      → answers_in (interests_made session l + 1) (messages_for session (said_in cmp matching (Get session expr) l)) ≡ filter (is_about matching (Some expr)) (visible_expressions cmp l.rows f.region)
  query_answered_at_once session expr f l found accepted =
      let id : ℕ = interests_made session l + 1 in
      ap (λ (o : Option ApiError). answers_in id (messages_for session (unless o (said cmp matching (Interest session id Current tokens_alone (Some expr)) l.rows) []))) accepted
      ∙ answered_at_once cmp matching session id Current tokens_alone (Some expr) f l.rows found
      ∙ asked_of f expr l.rows
