-- Faces are numbered in order of making, and messages are for faces that were made.
use Rattle.std.proofs.Common.{◌≡◌, ℕ, ◌+◌, ◌≤◌, Bool, true, Option, Some, None, ◌==◌, arith, eqb-true}
use Rattle.std.specs.Cmp.{IsTotalOrder}
use Rattle.std.specs.declared.cmp.Ordering.{Ordering}
use Rattle.zt_protocol.specs.Plain.{PlainCall}
use Rattle.zt_protocol.specs.declared.errors.Refusal.{Refusal}
use Rattle.zt_model.specs.Hearing.{rows_heard}
use Rattle.zt_model.specs.Journal.{cause_of, rows_after}
use Rattle.zt_model.specs.Rows.{Face, Rows}
use Rattle.zt_model.specs.Says.{said}
use Rattle.zt_model.specs.Transcript.{Each}
use Rattle.zt_laws.specs.Order.{RowsAreInOrder}
use Rattle.zt_laws.specs.Sound.{CallHasFirstIds, opens_face, rows_after_call}
use Rattle.zt_laws.proofs.CallsOrder.{altered_faces, in_order_after_call}
use Rattle.zt_laws.proofs.LinesOrder.{opened_faces}
use Rattle.zt_laws.proofs.Lists.{any_member, by_test, each_always, each_weaker}
use Rattle.zt_theorem_transcript.proofs.Said.{HasFace, said_for_open}

module _ {K : Type 0} (cmp : K → K → Ordering) (matching : K → K → Bool) (total : IsTotalOrder cmp) where
  pub made_after_call : (n : ℕ) (c : PlainCall K) (g : Rows K) → RowsAreInOrder cmp matching g → n ≤ g.made → n ≤ (rows_after_call cmp matching c g).made
  unfolding rows_heard
  made_after_call n c g ordered made =
      by_test (opens_face c)
      (λ opens. let more = (opened_faces cmp matching total (λ k. Unit {0}) c g opens tt (each_always (λ f. Unit {0}) (λ f. tt) g.faces)).1 in omega (arith, more, made))
      (λ still. let same_ = (altered_faces cmp matching total (λ k. Unit {0}) c g still ordered.lists (each_always (λ f. Unit {0}) (λ f. tt) g.faces)).1 in omega (arith, same_, made))

  pub made_after : (n : ℕ) (c : PlainCall K) (g : Rows K) → RowsAreInOrder cmp matching g → n ≤ g.made → n ≤ (rows_after cmp matching c g).made
  unfolding rows_after
  made_after n c g ordered made = cases (cause_of cmp matching c g)
    where
      cases : (o : Option Refusal) → n ≤ (let h : Rows K = elim o [ None ↦ rows_after_call cmp matching c g | Some refusal ↦ g ] in h).made
      cases None = made_after_call n c g ordered made
      cases (Some refusal) = made

  -- a message is for a face that was made
  pub said_to_made : (c : PlainCall K) (g : Rows K) → CallHasFirstIds c → RowsAreInOrder cmp matching g → Each (λ s. s.0 ≤ (rows_after_call cmp matching c g).made) (said cmp matching c g)
  said_to_made c g real ordered =
      let h = rows_after_call cmp matching c g in
      let faces_made = (in_order_after_call cmp matching total c g real ordered).lists.faces_made in
      each_weaker (λ s. HasFace h s.0) (λ s. s.0 ≤ h.made)
      (λ s there. any_member (λ (f : Face K). f.number ≤ h.made) (λ f. s.0 == f.number) h.faces faces_made there (λ f up own. let is = eqb-true s.0 f.number own in omega (arith, is, up)))
      (said cmp matching c g) (said_for_open cmp matching total c g ordered.lists)

  -- a call that opens a face makes one more
  pub made_opened : (c : PlainCall K) (g : Rows K) → opens_face c ≡ true → g.made + 1 ≤ (rows_after_call cmp matching c g).made
  unfolding rows_heard
  made_opened c g opens = let more = (opened_faces cmp matching total (λ k. Unit {0}) c g opens tt (each_always (λ f. Unit {0}) (λ f. tt) g.faces)).1 in omega (arith, more)
