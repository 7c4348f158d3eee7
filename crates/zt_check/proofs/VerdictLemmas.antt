-- At most one verdict can be given of a claimed text.
use Rattle.std.proofs.Common.{◌≡◌, ◌⊎◌, inl, inr, ℕ, ◌+◌, ◌<◌, ◌≤◌, Bool, List, [], ◌∷◌, ◌++◌, length, Result, refl, sym, ap, subst, ◌∙◌, append_assoc, arith}
use Rattle.std.proofs.lemmas.List.{append_cancel_left, length-append}
use Rattle.std.proofs.lemmas.Bool.Decides.{nat_tests}
use Rattle.std.specs.declared.cmp.Ordering.{Ordering}
use Rattle.zt_keys.specs.Key.{KeyLaws}
use Rattle.zt_keys.specs.declared.anchor.Anchor.{Anchor}
use Rattle.zt_keys.specs.declared.error.KeyError.{KeyError}
use Rattle.std.specs.Prelude.{Option, nat_lt}
use Rattle.zt_streams.proofs.LineLemmas.{by_test}
use Rattle.zt_protocol.specs.Plain.{PlainEntry, PlainLine}
use Rattle.zt_model.specs.Fabric.{Fabric, empty_fabric}
use Rattle.zt_model.specs.Promises.{Turn, turns_from}
use Rattle.zt_protocol.specs.declared.entries.Report.{Report}
use Rattle.zt_text.specs.Text.{report_text}
use Rattle.zt_model.specs.Transcript.{Each, fabric_shown, report_of}
use Rattle.zt_check_trace.proofs.EntryLemmas.{one_entry}
use Rattle.zt_check.specs.Clauses.{FailsFirst, MeetsAll}
use Rattle.zt_check.specs.Judging.{BeginsWell, BeginsWithEntries, BreaksForm, FailsNext, Judges, turns_of}
use Rattle.zt_check.proofs.PlaceLemmas.{AreOnOneAnother, GoesOn, Stand, on_one_another}
use Rattle.zt_check.specs.declared.verdict.Clause.TheVariants.{Text}
use Rattle.zt_check.specs.declared.verdict.Verdict.{Verdict}
use Rattle.zt_check.specs.declared.verdict.Verdict.TheVariants as verdict
use Rattle.zt_check.specs.declared.verdict.Clause.{Clause}

-- ---- what is so of each

pub each_front : {A : Type 0} (P : A → Type 0) (xs ys : List A) → Each P (xs ++ ys) → Each P xs
each_front P [] ys h = tt
each_front P (x ∷ xs) ys h = (h.0, each_front P xs ys h.1)

pub each_last : {A : Type 0} (P : A → Type 0) (xs : List A) (y : A) → Each P (xs ++ y ∷ []) → P y
each_last P [] y h = h.0
each_last P (x ∷ xs) y h = each_last P xs y h.1

module _ {K : Type 0} (cmp : K → K → Ordering) (matching : K → K → Bool) where
  -- ---- turns

  -- the turns of the first entries are the first turns
  front_turns : (P : Turn K → Type 0) (lines : List (PlainLine K)) (entries more : List (PlainEntry K)) (s : Fabric K) → Each P (turns_from cmp matching lines (entries ++ more) s)
      → Each P (turns_from cmp matching lines entries s)
  unfolding turns_from
  front_turns P [] entries more s h = tt
  front_turns P (line ∷ lines) [] more s h = tt
  front_turns P (line ∷ lines) (entry ∷ entries) more s h = (h.0, front_turns P lines entries more (fabric_shown cmp matching line entry s) h.1)

  -- where each line has its entry, further ones make no turn
  no_turn : (lines : List (PlainLine K)) (entries more : List (PlainEntry K)) (s : Fabric K) → length lines ≤ length entries → turns_from cmp matching lines (entries ++ more) s ≡ turns_from cmp matching lines entries s
  unfolding turns_from
  no_turn [] entries more s h = refl
  no_turn (line ∷ lines) [] more s h = absurd (omega (arith, h))
  no_turn (line ∷ lines) (entry ∷ entries) more s h =
      let after = fabric_shown cmp matching line entry s in
      ap (λ (ts : List (Turn K)). record { line = line; entry = entry; before = s; after = after } ∷ ts) (no_turn lines entries more after (omega (arith, h)))

  -- ---- clauses

  fails_none : (clauses : List Clause) (t : Turn K) (failed : Clause) → FailsFirst cmp matching clauses t failed → MeetsAll cmp matching clauses t → ⊥
  fails_none [] t failed h all = h
  fails_none (c ∷ clauses) t failed (inl h) all = h.1 all.0
  fails_none (c ∷ clauses) t failed (inr h) all = fails_none clauses t failed h.1 all.1

  fails_one : (clauses : List Clause) (t : Turn K) (one other : Clause) → FailsFirst cmp matching clauses t one → FailsFirst cmp matching clauses t other → one ≡ other
  fails_one [] t one other h k = absurd h
  fails_one (c ∷ clauses) t one other (inl h) (inl k) = sym h.0 ∙ k.0
  fails_one (c ∷ clauses) t one other (inl h) (inr k) = absurd (h.1 k.0)
  fails_one (c ∷ clauses) t one other (inr h) (inl k) = absurd (k.1 h.0)
  fails_one (c ∷ clauses) t one other (inr h) (inr k) = fails_one clauses t one other h.1 k.1

-- ---- where a verdict stops

module _ {K : Type 0} (cmp : K → K → Ordering) (matching : K → K → Bool) (reading : List ℕ → Result K KeyError) (printed : K → List ℕ) (anchored : Anchor → K → Option ℕ) (laws : KeyLaws cmp matching reading printed anchored) (asked : List Clause) (lines : List (PlainLine K)) (claimed : List ℕ) (small : length lines < 18446744073709551615) where
  abbrev Why : List (PlainEntry K) → List ℕ → Clause → Type 0
  Why es rest failed = ((failed ≡ Text) × BreaksForm printed lines es rest) ⊎ FailsNext cmp matching printed asked lines es rest failed

  -- behind these entries it says this
  abbrev Stops : List (PlainEntry K) → List ℕ → Verdict → Type 0
  Stops es rest (verdict.Holds report) = (length es ≡ length lines) × (rest ≡ report_text report) × (report ≡ report_of es)
  Stops es rest (verdict.Breaks line failed) = (line ≡ length es + 1) × Why es rest failed

  record At (es : List (PlainEntry K)) (rest : List ℕ) (v : Verdict) : Type 0 where
    well : BeginsWell cmp matching printed asked lines claimed es rest
    stops : Stops es rest v

  abbrev IsAt : Verdict → Type 0
  IsAt v = (es : List (PlainEntry K)) × (rest : List ℕ) × At es rest v

  at : (v : Verdict) → Judges cmp matching printed asked lines claimed v → IsAt v
  at (verdict.Holds report) h = (h.entries, report_text report, record { well = h.well; stops = (h.is_whole, refl, h.totals) })
  at (verdict.Breaks line failed) h = (h.entries, h.rest, record { well = h.well; stops = (h.is_line, h.breaks) })

  not_itself : {A : Type 0} (xs : List A) (x : A) → xs ++ x ∷ [] ≡ xs → ⊥
  not_itself xs x h = absurd (omega (arith, ap length h, length-append xs (x ∷ [])))

  -- a next turn that fails is one of a further line
  fails_within : (es : List (PlainEntry K)) (rest : List ℕ) (failed : Clause) → FailsNext cmp matching printed asked lines es rest failed → length es < length lines
  fails_within es rest failed h =
      by_test (nat_lt (length es) (length lines))
      (λ e. grind (arith, nat_tests, e))
      (λ e.
      let past : length lines ≤ length es = grind (arith, nat_tests, e) in
      absurd (not_itself (turns_of cmp matching printed asked lines es) h.turn (sym h.is_next ∙ no_turn cmp matching lines es (h.entry ∷ []) empty_fabric past)))

  why_within : (es : List (PlainEntry K)) (rest : List ℕ) (failed : Clause) → Why es rest failed → length es ≤ length lines
  why_within es rest failed (inl (text, inl h)) = omega (arith, h.0)
  why_within es rest failed (inl (text, inr h)) = omega (arith, h.0)
  why_within es rest failed (inr h) = omega (arith, fails_within es rest failed h)

  within : (es : List (PlainEntry K)) (rest : List ℕ) (v : Verdict) → Stops es rest v → length es ≤ length lines
  within es rest (verdict.Holds report) h = omega (arith, h.0)
  within es rest (verdict.Breaks line failed) h = why_within es rest failed h.1

  -- no verdict stops where the entries of another go on
  abbrev Beyond : List (PlainEntry K) → List ℕ → List (PlainEntry K) → Type 0
  Beyond es rest fs = GoesOn printed 1 rest es fs

  longer : (es : List (PlainEntry K)) (rest : List ℕ) (fs : List (PlainEntry K)) → Beyond es rest fs → length es < length fs
  longer es rest fs on = omega (arith, ap length on.is_all, length-append es (on.entry ∷ on.more))

  why_not : (es : List (PlainEntry K)) (rest : List ℕ) (fs : List (PlainEntry K)) (failed : Clause) → Beyond es rest fs → length fs ≤ length lines → Each (MeetsAll cmp matching asked) (turns_of cmp matching printed asked lines fs)
      → Why es rest failed → ⊥
  why_not es rest fs failed on short met (inl (text, inl h)) = h.1 on.entry on.behind (on.stands (length es + 1) (omega arith))
  why_not es rest fs failed on short met (inl (text, inr h)) = absurd (omega (arith, h.0, longer es rest fs on, short))
  why_not es rest fs failed on short met (inr h) =
      let same = one_entry cmp matching reading printed anchored laws (length es + 1) (omega (arith, small, short, longer es rest fs on)) rest h.entry on.entry h.behind on.behind h.stands (on.stands (length es + 1) (omega arith)) in
      let front : fs ≡ (es ++ h.entry ∷ []) ++ on.more = on.is_all ∙ (ap (λ (x : PlainEntry K). es ++ x ∷ on.more) (sym same.0) ∙ sym (append_assoc es (h.entry ∷ []) on.more)) in
      let some = front_turns cmp matching (MeetsAll cmp matching asked) lines (es ++ h.entry ∷ []) on.more empty_fabric (subst (λ (x : List (PlainEntry K)). Each (MeetsAll cmp matching asked) (turns_of cmp matching printed asked lines x)) front met) in
      fails_none cmp matching asked h.turn failed h.fails
      (each_last (MeetsAll cmp matching asked) (turns_of cmp matching printed asked lines es) h.turn (subst (λ (ts : List (Turn K)). Each (MeetsAll cmp matching asked) ts) h.is_next some))

  not_beyond : (es : List (PlainEntry K)) (rest : List ℕ) (v : Verdict) (fs : List (PlainEntry K)) (end : List ℕ) (w : Verdict) → At es rest v → At fs end w → Beyond es rest fs → ⊥
  not_beyond es rest (verdict.Holds report) fs end w one two on = absurd (omega (arith, one.stops.0, longer es rest fs on, within fs end w two.stops))
  not_beyond es rest (verdict.Breaks line failed) fs end w one two on = why_not es rest fs failed on (within fs end w two.stops) two.well.met one.stops.1

  -- behind the same entries two verdicts say the same
  why_same : (es : List (PlainEntry K)) (rest : List ℕ) (c d : Clause) → Why es rest c → Why es rest d → c ≡ d
  why_same es rest c d (inl h) (inl k) = h.0 ∙ sym k.0
  why_same es rest c d (inl (text, inl h)) (inr k) = absurd (h.1 k.entry k.behind k.stands)
  why_same es rest c d (inl (text, inr h)) (inr k) = absurd (omega (arith, h.0, fails_within es rest d k))
  why_same es rest c d (inr h) (inl (text, inl k)) = absurd (k.1 h.entry h.behind h.stands)
  why_same es rest c d (inr h) (inl (text, inr k)) = absurd (omega (arith, k.0, fails_within es rest c h))
  why_same es rest c d (inr h) (inr k) =
      let same = one_entry cmp matching reading printed anchored laws (length es + 1) (omega (arith, small, fails_within es rest c h)) rest h.entry k.entry h.behind k.behind h.stands k.stands in
      let turns : turns_of cmp matching printed asked lines es ++ h.turn ∷ [] ≡ turns_of cmp matching printed asked lines es ++ k.turn ∷ [] =
      sym h.is_next ∙ (ap (λ (x : PlainEntry K). turns_of cmp matching printed asked lines (es ++ x ∷ [])) same.0 ∙ k.is_next) in
      let one = append_cancel_left (turns_of cmp matching printed asked lines es) (h.turn ∷ []) (k.turn ∷ []) turns in
      let turn : h.turn ≡ k.turn = cc in
      fails_one cmp matching asked k.turn c d (subst (λ (t : Turn K). FailsFirst cmp matching asked t c) turn h.fails) k.fails

  holds_or : (es : List (PlainEntry K)) (rest : List ℕ) (report : Report) (c : Clause) → (length es ≡ length lines) × (rest ≡ report_text report) × (report ≡ report_of es) → Why es rest c → ⊥
  holds_or es rest report c h (inl (text, inl k)) = absurd (omega (arith, h.0, k.0))
  holds_or es rest report c h (inl (text, inr k)) = k.1 (h.1 ∙ ap report_text h.2)
  holds_or es rest report c h (inr k) = absurd (omega (arith, h.0, fails_within es rest c k))

  stops_same : (es : List (PlainEntry K)) (rest : List ℕ) (v w : Verdict) → Stops es rest v → Stops es rest w → v ≡ w
  stops_same es rest (verdict.Holds report) (verdict.Holds other) h k = ap (λ (r : Report). verdict.Holds r) (h.2 ∙ sym k.2)
  stops_same es rest (verdict.Holds report) (verdict.Breaks line failed) h k = absurd (holds_or es rest report failed h k.1)
  stops_same es rest (verdict.Breaks line failed) (verdict.Holds report) h k = absurd (holds_or es rest report failed k h.1)
  stops_same es rest (verdict.Breaks line c) (verdict.Breaks other d) h k = rw (h.0 ∙ sym k.0, why_same es rest c d h.1 k.1) refl

  stand : (es : List (PlainEntry K)) (rest : List ℕ) → BeginsWithEntries printed claimed es rest → Stand printed 1 claimed es rest
  stand es rest h = record { are_entries = h.are_entries; are_printed = h.are_printed; stand = h.stand; are_all = h.are_all }

  pub judged_once : (v w : Verdict) → Judges cmp matching printed asked lines claimed v → Judges cmp matching printed asked lines claimed w → v ≡ w
  judged_once v w h k =
      let a = at v h in
      let b = at w k in
      by_place a.0 a.1 b.0 b.1 a.2 b.2
      (on_one_another cmp matching reading printed anchored laws 1 claimed claimed a.0 b.0 a.1 b.1 (omega (arith, small, within a.0 a.1 v a.2.stops)) refl (stand a.0 a.1 a.2.well.begins) (stand b.0 b.1 b.2.well.begins))
    where
      by_place : (es : List (PlainEntry K)) (rest : List ℕ) (fs : List (PlainEntry K)) (end : List ℕ) → At es rest v → At fs end w → AreOnOneAnother printed 1 es rest fs end → v ≡ w
      by_place es rest fs end one two (inl same) =
          stops_same es rest v w one.stops
          (subst (λ (x : List (PlainEntry K)). Stops x rest w) (sym same.0) (subst (λ (r : List ℕ). Stops fs r w) (sym same.1) two.stops))
      by_place es rest fs end one two (inr (inl on)) = absurd (not_beyond es rest v fs end w one two on)
      by_place es rest fs end one two (inr (inr on)) = absurd (not_beyond fs end w es rest v two one on)
