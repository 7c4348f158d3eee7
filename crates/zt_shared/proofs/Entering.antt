-- What an entry more makes of a journal.
use Rattle.std.proofs.Common.{arith, ◌≡◌, ℕ, zero, suc, ◌+◌, take, slice_get, Bool, List, [], ◌∷◌, ◌++◌, None, Some, Result, Ok, Err, OnErr, ap, map, refl, sym, ◌∙◌}
use Rattle.std.specs.declared.cmp.Ordering.{Ordering}
use Rattle.zt_gateway.specs.Running.{Planned, by_face, planned, sent_alone}
use Rattle.zt_model.specs.Journal.{IsReplay, Journalled, cause_of, made_by, outcome_of, rows_after, rows_replayed}
use Rattle.zt_model.specs.Rows.{Rows}
use Rattle.zt_model.specs.Says.{Sends, said}
use Rattle.zt_protocol.specs.Plain.{PlainCall}
use Rattle.zt_protocol.specs.declared.errors.Refusal.{Refusal}
use Rattle.zt_shared.specs.Recorded.{IsRecord, Recorded, entered, entry_of, opened}

-- what is so is so after an error
pub on_err : {A B : Type 0} {P : Type 0} (r : Result A B) → P → OnErr r P
on_err (Ok x) p = tt
on_err (Err e) p = p

-- one item more
pub take_more : {A B : Type 0} (f : A → B) (xs : List A) (i : ℕ) (x : A) → Some x ≡ slice_get xs i → map f (take (i + 1) xs) ≡ map f (take i xs) ++ f x ∷ []
take_more f [] i x is = cc
take_more f (y ∷ ys) zero x is = cc
take_more f (y ∷ ys) (suc i) x is =
    let more : suc i + 1 ≡ suc (i + 1) = omega arith in
    rw more (ap (λ rest. f y ∷ rest) (take_more f ys i x is))

module _ {K : Type 0} (cmp : K → K → Ordering) (matching : K → K → Bool) where
  rows_more : (es : List (Journalled K)) (e : Journalled K) (g : Rows K) → rows_replayed cmp matching (es ++ e ∷ []) g ≡ rows_after cmp matching e.call (rows_replayed cmp matching es g)
  unfolding rows_replayed
  rows_more [] e g = refl
  rows_more (x ∷ es) e g = rows_more es e (rows_after cmp matching x.call g)

  replay_more : (es : List (Journalled K)) (e : Journalled K) (g : Rows K) → IsReplay cmp matching es g
      → e.made ≡ made_by cmp matching e.call (rows_replayed cmp matching es g)
      → e.outcome ≡ outcome_of cmp matching e.call (rows_replayed cmp matching es g)
      → IsReplay cmp matching (es ++ e ∷ []) g
  unfolding rows_replayed
  replay_more [] e g h made outcome = (made, outcome, tt)
  replay_more (x ∷ es) e g h made outcome = (h.0, h.1, replay_more es e (rows_after cmp matching x.call g) h.2 made outcome)

  -- with one entry more it stays a record
  pub record_more : (pass : ℕ) (c : PlainCall K) (j : Recorded K) → IsRecord cmp matching j → IsRecord cmp matching (entered cmp matching pass c j)
  record_more pass c j is =
      let entry = entry_of cmp matching pass c j.gateway.rows in
      record {
        replay = replay_more j.entries entry j.opening.rows is.replay (ap (made_by cmp matching c) is.rows) (ap (outcome_of cmp matching c) is.rows);
        rows = ap (rows_after cmp matching c) is.rows ∙ sym (rows_more j.entries entry j.opening.rows);
        opened_quiet = is.opened_quiet;
        quiet = refl;
      }

  -- a journal begins
  pub record_opened : (j : Recorded K) → j ≡ opened j.opening → j.opening.waiting ≡ [] → IsRecord cmp matching j
  unfolding rows_replayed
  record_opened j is quiet = rw is (record { replay = tt; rows = refl; opened_quiet = quiet; quiet = quiet })

  -- a refused call leaves the gateway
  pub entered_refused : (pass : ℕ) (c : PlainCall K) (refusal : Refusal) (j : Recorded K) → j.gateway.waiting ≡ []
      → cause_of cmp matching c j.gateway.rows ≡ Some refusal
      → record { opening = j.opening; gateway = j.gateway; entries = j.entries ++ record { pass = pass; call = c; made = None; outcome = Err refusal } ∷ [] } ≡ entered cmp matching pass c j
  unfolding made_by outcome_of rows_after
  entered_refused pass c refusal j quiet refused =
      let entry : Journalled K = record { pass = pass; call = c; made = None; outcome = Err refusal } in
      let with : Sends K → Recorded K = λ ms. record { opening = j.opening; gateway = record { rows = j.gateway.rows; waiting = ms }; entries = j.entries ++ entry ∷ [] } in
      ap with quiet ∙ rw (refused, made_by, outcome_of, rows_after) refl

  -- a prepared call is carried out
  pub entered_prepared : (pass : ℕ) (c : PlainCall K) (j : Recorded K) (p : Planned K) → p ≡ planned cmp matching c j.gateway
      → outcome_of cmp matching c j.gateway.rows ≡ Ok (map sent_alone (by_face (said cmp matching c j.gateway.rows)))
      → record { opening = j.opening; gateway = record { rows = p.after.rows; waiting = [] }; entries = j.entries ++ record { pass = pass; call = c; made = p.made; outcome = Ok (map sent_alone (by_face p.said)) } ∷ [] } ≡ entered cmp matching pass c j
  entered_prepared pass c j p is outcome = rw is (rw outcome refl)
