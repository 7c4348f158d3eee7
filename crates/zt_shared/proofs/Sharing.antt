-- What a caller is told of an entry, and what a pass knows after its call.
use Rattle.std.proofs.Common.{◌≡◌, ℕ, Bool, List, Option, Some, None, Result, Ok, Err, map, refl, sym, ◌∙◌, subst}
use Rattle.std.specs.declared.cmp.Ordering.{Ordering}
use Rattle.zt_model.specs.Fabric.{entry_by, sorted_by_face}
use Rattle.zt_model.specs.Journal.{Journalled, cause_of, made_by, outcome_of}
use Rattle.zt_model.specs.Rows.{Rows}
use Rattle.zt_model.specs.Says.{said}
use Rattle.zt_shared_value.specs.Passes.{Adds, Standing}
use Rattle.zt_protocol.specs.Plain.{PlainCall}
use Rattle.zt_protocol.specs.declared.entries.Sent.{Sent}
use Rattle.zt_protocol.specs.declared.errors.Refusal.{Refusal}
use Rattle.zt_shared.specs.Recorded.{Recorded, answer_of, entry_of}
use Rattle.zt_shared.specs.Sharing.{Enters, HasReplay, Tells, answered, entries_of, pass_of}
use Rattle.zt_shared.specs.declared.entries.Receipt.{Receipt}

module _ {K : Type 0} (cmp : K → K → Ordering) (matching : K → K → Bool) where
  pub answer_told : (pass : ℕ) (c : PlainCall K) (g : Rows K) → answer_of cmp matching c g ≡ answered (entry_of cmp matching pass c g)
  unfolding outcome_of
  answer_told pass c g = by_cause (cause_of cmp matching c g) (sorted_by_face (map (λ m. record { gateway = 1; face = m.0; message = m.1 }) (said cmp matching c g))) (made_by cmp matching c g)
    where
      by_cause : (o : Option Refusal) (ms : List (Sent K)) (made : Option ℕ)
          → (let told : Result (Option ℕ) Refusal = elim o [ None ↦ Ok made | Some refusal ↦ Err refusal ] in
          let answer : Result (Option ℕ) Refusal = elim (entry_by cmp matching o ms) [ Ok sent ↦ Ok made | Err refusal ↦ Err refusal ] in
          told ≡ answer)
      by_cause None ms made = refl
      by_cause (Some refusal) ms made = refl

  pub tells_of : (place pass : ℕ) (c : PlainCall K) (g : Rows K) (receipt : Receipt) → receipt.place ≡ place → receipt.answer ≡ answer_of cmp matching c g → Tells place (entry_of cmp matching pass c g) receipt
  tells_of place pass c g receipt placed answer = record { placed = placed; answer = answer ∙ answer_told pass c g }

  pub enters_of : (call : PlainCall K) (receipt : Receipt) (before after : Standing (Recorded K)) (place : ℕ) (entry : Journalled K) → Adds entries_of pass_of before after place entry → entry.pass ≡ before.number → entry.call ≡ call → Tells place entry receipt → HasReplay cmp matching after
      → Enters cmp matching call receipt before after
  enters_of call receipt before after place entry adds by is tells replay = record {
    entry = entry;
    adds = subst (λ n. Adds entries_of pass_of before after n entry) (sym tells.placed) adds;
    by = by;
    is_of = is;
    answer = tells.answer;
    replay = replay;
  }
