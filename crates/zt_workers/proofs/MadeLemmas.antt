-- What lines come to that open faces.
use Rattle.std.proofs.Common.{◌≡◌, ℕ, zero, suc, ◌+◌, ◌<◌, ◌≤◌, drop, get_or, arith, Bool, true, false, ◌==◌, if◌then◌else◌, List, [], ◌∷◌, ◌++◌, length, map, Option, Some, None, Result, Ok, Err, IfOk, OnOk, refl, sym, ap, ◌∙◌, subst, append_assoc, append-nil}
use Rattle.std.proofs.lemmas.List.{drop_all}
use Rattle.std.proofs.Math.Seq.{drop-cons}
use Rattle.std.specs.declared.cmp.Ordering.{Ordering}
use Rattle.zt_protocol.specs.Plain.{PlainCall, PlainEntry, PlainLine, plain_entry, Gateway, Session, Face as FaceLine, Link, Unlink, Step, Speak, Moment, SetTreesAt}
use Rattle.zt_protocol.specs.declared.entries.Entry.{Entry}
use Rattle.zt_protocol.specs.declared.entries.Sent.{Sent}
use Rattle.zt_protocol.specs.declared.errors.CallError.{CallError}
use Rattle.zt_keys.specs.declared.error.Memory.{Memory}
use Rattle.zt_gateway.specs.Running.{IsRefusedBy, Running}
use Rattle.zt_workers.specs.Opening.{IsEntryOf}
use Rattle.zt_protocol.specs.declared.errors.Refusal.{Refusal}
use Rattle.zt_model.specs.Fabric.{entry_by, sorted_by_face}
use Rattle.zt_model.specs.Hearing.{rows_heard}
use Rattle.zt_model.specs.Journal.{cause_of, outcome_of, rows_after}
use Rattle.zt_model.specs.Rows.{Rows}
use Rattle.zt_model.specs.Says.{Sends, altered, said}
use Rattle.zt_laws.specs.Sound.{CallHasFirstIds, HasFirstIds}
use Rattle.zt_laws.proofs.Lists.{map-append}
use Rattle.zt_theorem_journal.specs.Alone.{gateway_named, made_entries, made_entry, made_rows, opening_call, rows_made}

-- the lines that are left at a place
pub left_none : {A B : Type 0} (f : A → B) (xs : List A) (i : ℕ) → length xs ≤ i → map f (drop i xs) ≡ []
left_none f xs i most = ap (map f) (drop_all i xs most)

pub left_at : {A B : Type 0} (f : A → B) (xs : List A) (i : ℕ) (x : A) → i < length xs → x ≡ get_or xs i x → map f (drop i xs) ≡ f x ∷ map f (drop (i + 1) xs)
left_at f xs i x less is =
    let next : suc i ≡ i + 1 = omega arith in
    ap (map f) (drop-cons xs i x less) ∙ ap (λ y. f y ∷ map f (drop (suc i) xs)) (sym is) ∙ ap (λ n. f x ∷ map f (drop n xs)) next

module _ {K : Type 0} where
  pub call_first_ids : (line : PlainLine K) → HasFirstIds line → CallHasFirstIds (opening_call line)
  call_first_ids (Gateway mode zid regions south name timeout refused) h = tt
  call_first_ids (Session gateway first) h = h
  call_first_ids (FaceLine gateway mode zid region bound first) h = h
  call_first_ids (Link one two first back) h = tt
  call_first_ids (Unlink link) h = tt
  call_first_ids (Step link back) h = tt
  call_first_ids (Speak call) h = tt
  call_first_ids (Moment gateway now) h = tt
  call_first_ids (SetTreesAt gateway region table) h = tt

module _ {K : Type 0} (cmp : K → K → Ordering) (matching : K → K → Bool) where
  -- a refused call
  pub refused_outcome : (c : PlainCall K) (g : Rows K) (r : Refusal) → cause_of cmp matching c g ≡ Some r → outcome_of cmp matching c g ≡ Err r
  unfolding outcome_of
  refused_outcome c g r refused =
      ap (λ o. entry_by cmp matching o (sorted_by_face (map (λ m. record { gateway = 1; face = m.0; message = m.1 }) (said cmp matching c g)))) refused

  pub refused_rows : (c : PlainCall K) (g : Rows K) (r : Refusal) → cause_of cmp matching c g ≡ Some r → rows_after cmp matching c g ≡ g
  unfolding rows_after
  refused_rows c g r refused =
      ap (λ (o : Option Refusal). let rows : Rows K = elim o [ None ↦ rows_heard cmp (said cmp matching c g) (altered cmp matching c g) | Some refusal ↦ g ] in rows) refused

  -- a refused line that opens a face
  pub refused_line : (line : PlainLine K) (g : Rows K) (r : Refusal) → (gateway_named line == 1) ≡ true → cause_of cmp matching (opening_call line) g ≡ Some r → Err r ≡ made_entry cmp matching line g
  refused_line line g r named refused = rw named (sym (refused_outcome (opening_call line) g r refused))

  pub refused_line_rows : (line : PlainLine K) (g : Rows K) (r : Refusal) → (gateway_named line == 1) ≡ true → cause_of cmp matching (opening_call line) g ≡ Some r → g ≡ made_rows cmp matching line g
  refused_line_rows line g r named refused = rw named (sym (refused_rows (opening_call line) g r refused))

  pub refused_came : (line : PlainLine K) (g : Rows K) (e : CallError) (result : Result (Entry K) Memory) → (gateway_named line == 1) ≡ true → IsRefusedBy cmp matching (opening_call line) g e
      → IfOk result (λ entry. IsEntryOf e (plain_entry entry)) → IfOk result (λ entry. plain_entry entry ≡ made_entry cmp matching line g)
  refused_came line g e (Ok entry) named by h = h.entry_is ∙ refused_line line g h.refusal named (subst (IsRefusedBy cmp matching (opening_call line) g) h.is by)
  refused_came line g e (Err error) named by h = tt

  pub refused_stays : (line : PlainLine K) (old new : Running K) (e : CallError) (result : Result (Entry K) Memory) → (gateway_named line == 1) ≡ true → IsRefusedBy cmp matching (opening_call line) old.rows e
      → IfOk result (λ entry. IsEntryOf e (plain_entry entry)) → new ≡ old → old.waiting ≡ [] → OnOk result (new ≡ record { rows = made_rows cmp matching line old.rows; waiting = [] })
  refused_stays line old new e (Ok entry) named by h same quiet =
      let with : Rows K → Sends K → Running K = λ rs ms. record { rows = rs; waiting = ms } in
      same ∙ ap (λ ms. with old.rows ms) quiet ∙ ap (λ rs. with rs []) (refused_line_rows line old.rows h.refusal named (subst (IsRefusedBy cmp matching (opening_call line) old.rows) h.is by))
  refused_stays line old new e (Err error) named by h same quiet = tt

  -- an accepted line that opens a face
  pub accepted_line : (line : PlainLine K) (g : Rows K) (came : PlainEntry K) → (gateway_named line == 1) ≡ true → outcome_of cmp matching (opening_call line) g ≡ came → came ≡ made_entry cmp matching line g
  accepted_line line g came named accepted = rw named (sym accepted)

  -- ---- one line after another

  pub entries_next : (line : PlainLine K) (lines : List (PlainLine K)) (g : Rows K) → made_entries cmp matching (line ∷ lines) g ≡ made_entry cmp matching line g ∷ made_entries cmp matching lines (made_rows cmp matching line g)
  unfolding made_entries
  entries_next line lines g = refl

  pub entries_end : (g : Rows K) → made_entries cmp matching [] g ≡ []
  unfolding made_entries
  entries_end g = refl

  pub rows_next : (line : PlainLine K) (lines : List (PlainLine K)) (g : Rows K) → rows_made cmp matching (line ∷ lines) g ≡ rows_made cmp matching lines (made_rows cmp matching line g)
  unfolding rows_made
  rows_next line lines g = refl

  pub rows_end : (g : Rows K) → rows_made cmp matching [] g ≡ g
  unfolding rows_made
  rows_end g = refl

  pub as_many_entries : (lines : List (PlainLine K)) (g : Rows K) → length (made_entries cmp matching lines g) ≡ length lines
  unfolding made_entries
  as_many_entries [] g = refl
  as_many_entries (line ∷ lines) g = ap suc (as_many_entries lines (made_rows cmp matching line g))

  -- of these lines those before the ones left have come to these entries
  pub record MadeSoFar (lines left : List (PlainLine K)) (start now : Rows K) (entries : List (PlainEntry K)) : Type 0 where
    pub entries_are : made_entries cmp matching lines start ≡ entries ++ made_entries cmp matching left now
    pub rows_are : rows_made cmp matching lines start ≡ rows_made cmp matching left now

  pub made_none : (lines : List (PlainLine K)) (g : Rows K) → MadeSoFar lines lines g g []
  made_none lines g = record { entries_are = refl; rows_are = refl }

  pub made_start : (lines : List (PlainLine K)) (g : Rows K) (entries : List (PlainEntry K)) → entries ≡ [] → MadeSoFar lines lines g g entries
  made_start lines g entries none = subst (MadeSoFar lines lines g g) (sym none) (made_none lines g)

  pub made_next : (lines left later : List (PlainLine K)) (line : PlainLine K) (start now then_ : Rows K) (entries : List (PlainEntry K)) (entry : PlainEntry K) → MadeSoFar lines left start now entries
      → left ≡ line ∷ later → entry ≡ made_entry cmp matching line now → then_ ≡ made_rows cmp matching line now → MadeSoFar lines later start then_ (entries ++ entry ∷ [])
  made_next lines left later line start now then_ entries entry so_far is came after = record {
    entries_are =
        so_far.entries_are ∙ ap (λ ls. entries ++ made_entries cmp matching ls now) is ∙ ap (λ es. entries ++ es) (entries_next line later now)
        ∙ ap (λ e. entries ++ (e ∷ made_entries cmp matching later (made_rows cmp matching line now))) (sym came)
        ∙ ap (λ g. entries ++ (entry ∷ made_entries cmp matching later g)) (sym after)
        ∙ sym (append_assoc entries (entry ∷ []) (made_entries cmp matching later then_));
    rows_are = so_far.rows_are ∙ ap (λ ls. rows_made cmp matching ls now) is ∙ rows_next line later now ∙ ap (rows_made cmp matching later) (sym after);
  }

  pub made_all : (lines left : List (PlainLine K)) (start now : Rows K) (entries : List (PlainEntry K)) → MadeSoFar lines left start now entries → left ≡ [] → entries ≡ made_entries cmp matching lines start
  made_all lines left start now entries so_far none =
      sym (so_far.entries_are ∙ ap (λ ls. entries ++ made_entries cmp matching ls now) none ∙ ap (λ es. entries ++ es) (entries_end now) ∙ append-nil entries)

  pub rows_all : (lines left : List (PlainLine K)) (start now : Rows K) (entries : List (PlainEntry K)) → MadeSoFar lines left start now entries → left ≡ [] → now ≡ rows_made cmp matching lines start
  rows_all lines left start now entries so_far none = sym (so_far.rows_are ∙ ap (λ ls. rows_made cmp matching ls now) none ∙ rows_end now)

  pub made_pushed : (lines left later : List (PlainLine K)) (line : PlainLine K) (start now then_ : Rows K) (entries entries' : List (Entry K)) (entry : Entry K) → MadeSoFar lines left start now (map plain_entry entries)
      → left ≡ line ∷ later → plain_entry entry ≡ made_entry cmp matching line now → then_ ≡ made_rows cmp matching line now → entries' ≡ entries ++ entry ∷ [] → MadeSoFar lines later start then_ (map plain_entry entries')
  made_pushed lines left later line start now then_ entries entries' entry so_far is came after more =
      subst (MadeSoFar lines later start then_) (sym (ap (map plain_entry) more ∙ map-append plain_entry entries (entry ∷ [])))
      (made_next lines left later line start now then_ (map plain_entry entries) (plain_entry entry) so_far is came after)

  pub rows_left : (lines left : List (PlainLine K)) (start : Rows K) (now : Running K) (entries : List (PlainEntry K)) → MadeSoFar lines left start now.rows entries → left ≡ [] → now.waiting ≡ [] → now ≡ record { rows = rows_made cmp matching lines start; waiting = [] }
  rows_left lines left start now entries so_far none quiet =
      let with : Rows K → Sends K → Running K = λ rs ms. record { rows = rs; waiting = ms } in
      ap (λ ms. with now.rows ms) quiet ∙ ap (λ rs. with rs []) (rows_all lines left start now.rows entries so_far none)
