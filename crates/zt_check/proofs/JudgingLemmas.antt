-- Lemmas on a claimed transcript that is judged entry by entry.
use Rattle.std.proofs.Common.{◌≡◌, inl, inr, ℕ, ◌+◌, ◌<◌, true, false, List, [], ◌∷◌, ◌++◌, length, get_or, sum_by, None, Some, Result, Ok, Err, IfOk, refl, sym, ap, subst, ◌∙◌, append_assoc, arith}
use Rattle.std.proofs.lemmas.List.{append-nil, length-append}
use Rattle.std.proofs.lemmas.List.Sums.{sum_by-append}
use Rattle.zt_protocol.specs.Plain.{PlainEntry, PlainLine}
use Rattle.zt_protocol.specs.declared.entries.Report.{Report}
use Rattle.zt_text.specs.Sent.{IsPrinted}
use Rattle.zt_text.specs.Text.{entries_text, entry_text, report_text}
use Rattle.std.specs.Prelude.{Bool}
use Rattle.std.specs.declared.cmp.Ordering.{Ordering}
use Rattle.zt_model.specs.Fabric.{Fabric, empty_fabric}
use Rattle.zt_model.specs.Promises.{Turn, turns_from}
use Rattle.zt_model.specs.Transcript.{Each, IsEntry, fabric_shown, messages_in, refusals_in, report_of}
use Rattle.zt_check_trace.specs.Entries.{BeginsWithEntry, FindsEntry}
use Rattle.zt_check_trace.proofs.MessageLemmas.{all_more}
use Rattle.zt_check_fabric.proofs.Shown.{shown_placed}
use Rattle.zt_check.specs.Clauses.{MeetsAll, every_clause}
use Rattle.zt_check.specs.Turns.{IsKept, Tells, turn_of}
use Rattle.zt_check.proofs.TurnLemmas.{each_more, no_turns, shown_after, shown_more, turns_more, unended_shown}
use Rattle.zt_check.specs.Judging.{BeginsWell, BeginsWithEntries, Breaks, Judges, JudgesTotals}
use Rattle.zt_check.specs.Totals.{IsInRange, with_entry}
use Rattle.zt_check.specs.declared.verdict.Clause.{Clause}
use Rattle.zt_check.specs.declared.verdict.Clause.TheVariants.{Text}
use Rattle.zt_check.specs.declared.verdict.Verdict.{Verdict}
use Rattle.zt_check.specs.declared.verdict.Verdict.TheVariants as verdict

abbrev no_totals : Report
no_totals = record { lines = 0; messages = 0; refusals = 0 }

totals_none : (K : Type 0) → no_totals ≡ report_of {K = K} []
unfolding report_of
totals_none K = refl

totals_more : {K : Type 0} (entries : List (PlainEntry K)) (entry : PlainEntry K) → with_entry entry (report_of entries) ≡ report_of (entries ++ entry ∷ [])
unfolding report_of
totals_more entries entry =
    let lines : length entries + 1 ≡ length (entries ++ entry ∷ []) = sym (length-append entries (entry ∷ [])) in
    let messages : sum_by messages_in entries + messages_in entry ≡ sum_by messages_in (entries ++ entry ∷ []) =
    omega (arith, sum_by-append messages_in entries (entry ∷ [])) in
    let refusals : sum_by refusals_in entries + refusals_in entry ≡ sum_by refusals_in (entries ++ entry ∷ []) =
    omega (arith, sum_by-append refusals_in entries (entry ∷ [])) in
    rw (lines, messages, refusals) refl

lines_counted : {K : Type 0} (entries : List (PlainEntry K)) (report : Report) → report ≡ report_of entries → report.lines ≡ length entries
unfolding report_of
lines_counted entries report h = ap (λ (r : Report). r.lines) h

module _ {K : Type 0} (printed : K → List ℕ) where
  text_more : (n : ℕ) (entries : List (PlainEntry K)) (entry : PlainEntry K) → entries_text printed n (entries ++ entry ∷ []) ≡ entries_text printed n entries ++ entry_text printed (n + length entries) entry
  unfolding entries_text
  text_more n [] entry = let same : n ≡ n + 0 = omega arith in append-nil (entry_text printed n entry) ∙ ap (λ (k : ℕ). entry_text printed k entry) same
  text_more n (x ∷ entries) entry =
      let same : n + 1 + length entries ≡ n + length (x ∷ entries) = omega arith in
      ap (λ (t : List ℕ). entry_text printed n x ++ t) (text_more (n + 1) entries entry ∙ ap (λ (k : ℕ). entries_text printed (n + 1) entries ++ entry_text printed k entry) same)
      ∙ sym (append_assoc (entry_text printed n x) (entries_text printed (n + 1) entries) (entry_text printed (n + length (x ∷ entries)) entry))

  begins_none : (claimed : List ℕ) → BeginsWithEntries printed claimed [] claimed
  unfolding entries_text
  begins_none claimed = record { are_entries = tt; are_printed = tt; stand = refl; are_all = inl refl }

  begins_more : (claimed : List ℕ) (entries : List (PlainEntry K)) (rest : List ℕ) (number : ℕ) (entry : PlainEntry K) (behind : List ℕ) → BeginsWithEntries printed claimed entries rest
      → number ≡ length entries + 1 → BeginsWithEntry printed number rest entry behind → BeginsWithEntries printed claimed (entries ++ entry ∷ []) behind
  begins_more claimed entries rest number entry behind begins is next =
      let same : number ≡ 1 + length entries = omega (arith, is) in
      record {
        are_entries = all_more IsEntry entries entry begins.are_entries next.is_entry;
        are_printed = all_more IsPrinted entries entry begins.are_printed next.is_printed;
        stand =
            begins.stand
            ∙ (ap (λ (t : List ℕ). entries_text printed 1 entries ++ t) (next.stands ∙ ap (λ (k : ℕ). entry_text printed k entry ++ behind) same)
            ∙ (sym (append_assoc (entries_text printed 1 entries) (entry_text printed (1 + length entries) entry) behind)
            ∙ ap (λ (t : List ℕ). t ++ behind) (sym (text_more 1 entries entry))));
        are_all = inr next.is_all;
      }

module _ {K : Type 0} (cmp : K → K → Ordering) (matching : K → K → Bool) (printed : K → List ℕ) where
  -- So many entries were read off the front of a claimed text, and the turn of each meets the clauses .
  -- These are their totals, and the fabric that they show.
  pub record IsUnderway (script : List (PlainLine K)) (claimed rest : List ℕ) (report : Report) (done : ℕ) (s : Fabric K) : Type 0 where
    pub entries : List (PlainEntry K)
    pub begins : BeginsWithEntries printed claimed entries rest
    pub is_done : length entries ≡ done
    pub totals : report ≡ report_of entries
    pub lines : report.lines ≡ done
    pub range : IsInRange report
    pub met : Each (MeetsAll cmp matching every_clause) (turns_from cmp matching script entries empty_fabric)
    pub shown : shown_after cmp matching script entries empty_fabric ≡ s
    pub kept : IsKept cmp matching s

  pub underway_first : (lines : List (PlainLine K)) (claimed : List ℕ) (s : Fabric K) → s ≡ empty_fabric → IsUnderway lines claimed claimed no_totals 0 s
  underway_first lines claimed s none = record {
    entries = [];
    begins = begins_none printed claimed;
    is_done = refl;
    totals = totals_none K;
    lines = refl;
    range = record { messages_fit = omega arith; refusals_fit = omega arith };
    met = no_turns cmp matching (MeetsAll cmp matching every_clause) lines empty_fabric;
    shown = sym none;
    kept = subst (IsKept cmp matching) (sym none) (record { placed = record { one = tt; made = tt }; no_more = tt; no_less = tt; unended = tt });
  }

  turn_after : (lines : List (PlainLine K)) (claimed rest : List ℕ) (report : Report) (done : ℕ) (s : Fabric K) (line : PlainLine K) (entry : PlainEntry K) → (under : IsUnderway lines claimed rest report done s)
      → done < length lines → line ≡ get_or lines done line
      → turns_from cmp matching lines (under.entries ++ entry ∷ []) empty_fabric ≡ turns_from cmp matching lines under.entries empty_fabric ++ turn_of cmp matching line entry s ∷ []
  turn_after lines claimed rest report done s line entry under within is =
      let at : line ≡ get_or lines (length under.entries) line = is ∙ ap (λ (k : ℕ). get_or lines k line) (sym under.is_done) in
      turns_more cmp matching lines under.entries empty_fabric line entry (omega (arith, within, under.is_done)) at
      ∙ ap (λ (t : Fabric K). turns_from cmp matching lines under.entries empty_fabric ++ turn_of cmp matching line entry t ∷ []) under.shown

  pub underway_next : (lines : List (PlainLine K)) (claimed rest : List ℕ) (report report' : Report) (done number : ℕ) (s t : Fabric K) (line : PlainLine K) (entry : PlainEntry K) (behind : List ℕ)
      → IsUnderway lines claimed rest report done s → done < length lines → line ≡ get_or lines done line → number ≡ report.lines + 1
      → BeginsWithEntry printed number rest entry behind → report' ≡ with_entry entry report → IsInRange report'
      → Tells cmp matching (turn_of cmp matching line entry s) None → t ≡ fabric_shown cmp matching line entry s → IsUnderway lines claimed behind report' (done + 1) t
  underway_next lines claimed rest report report' done number s t line entry behind under within at is next counted range meets shows =
      let here : line ≡ get_or lines (length under.entries) line = at ∙ ap (λ (k : ℕ). get_or lines k line) (sym under.is_done) in
      record {
        entries = under.entries ++ entry ∷ [];
        begins = begins_more printed claimed under.entries rest number entry behind under.begins (omega (arith, is, under.lines, under.is_done)) next;
        is_done = omega (arith, length-append under.entries (entry ∷ []), under.is_done);
        totals = counted ∙ (ap (with_entry entry) under.totals ∙ totals_more under.entries entry);
        lines = omega (arith, ap (λ (r : Report). r.lines) counted, under.lines);
        range = range;
        met =
            subst (λ (ts : List (Turn K)). Each (MeetsAll cmp matching every_clause) ts) (sym (turn_after lines claimed rest report done s line entry under within at))
            (each_more (MeetsAll cmp matching every_clause) (turns_from cmp matching lines under.entries empty_fabric) (turn_of cmp matching line entry s) under.met meets);
        shown =
            shown_more cmp matching lines under.entries empty_fabric line entry (omega (arith, within, under.is_done)) here
            ∙ (ap (fabric_shown cmp matching line entry) under.shown ∙ sym shows);
        kept = subst (IsKept cmp matching) (sym shows) (record { placed = shown_placed cmp matching line entry s under.kept.placed; no_more = meets.1.1.0; no_less = meets.1.1.1.0; unended = unended_shown cmp matching line entry s under.kept.unended meets.1.1.1.1.1.0 });
      }

  begins_well : (lines : List (PlainLine K)) (claimed rest : List ℕ) (report : Report) (done : ℕ) (s : Fabric K) → (under : IsUnderway lines claimed rest report done s) → BeginsWell cmp matching printed every_clause lines claimed under.entries rest
  begins_well lines claimed rest report done s under = record { begins = under.begins; met = under.met }

  pub underway_breaks : (lines : List (PlainLine K)) (claimed rest : List ℕ) (report : Report) (done number : ℕ) (s : Fabric K) → IsUnderway lines claimed rest report done s → done < length lines → number ≡ report.lines + 1
      → FindsEntry printed number rest None → Breaks cmp matching printed every_clause lines claimed number Text
  underway_breaks lines claimed rest report done number s under more is none =
      let same : number ≡ length under.entries + 1 = omega (arith, is, under.lines, under.is_done) in
      record {
        entries = under.entries;
        rest = rest;
        well = begins_well lines claimed rest report done s under;
        breaks = inl (refl, inl (omega (arith, under.is_done), subst (λ (k : ℕ). FindsEntry printed k rest None) same none));
        is_line = same;
      }

  pub underway_last : (lines : List (PlainLine K)) (claimed rest : List ℕ) (report : Report) (done : ℕ) (s : Fabric K) (verdict : Verdict) → IsUnderway lines claimed rest report done s → done ≡ length lines
      → JudgesTotals report rest verdict → Judges cmp matching printed every_clause lines claimed verdict
  underway_last lines claimed rest report done s (verdict.Holds totals) under all h = record {
    entries = under.entries;
    well = subst (λ (t : List ℕ). BeginsWell cmp matching printed every_clause lines claimed under.entries t) (h.1 ∙ ap report_text (sym h.0)) (begins_well lines claimed rest report done s under);
    is_whole = under.is_done ∙ all;
    totals = h.0 ∙ under.totals;
  }
  underway_last lines claimed rest report done s (verdict.Breaks line failed) under all h = record {
    entries = under.entries;
    rest = rest;
    well = begins_well lines claimed rest report done s under;
    breaks = inl (h.1, inr (under.is_done ∙ all, λ is. h.2 (is ∙ ap report_text (sym under.totals))));
    is_line = omega (arith, h.0, under.lines, under.is_done);
  }

  pub totals_result : (lines : List (PlainLine K)) (claimed rest : List ℕ) (report : Report) (done : ℕ) (s : Fabric K) {E : Type 0} (result : Result Verdict E) → IsUnderway lines claimed rest report done s → done ≡ length lines
      → IfOk result (λ verdict. JudgesTotals report rest verdict) → IfOk result (λ verdict. Judges cmp matching printed every_clause lines claimed verdict)
  totals_result lines claimed rest report done s (Ok verdict) under all h = underway_last lines claimed rest report done s verdict under all h
  totals_result lines claimed rest report done s (Err e) under all h = tt

  -- the entry of the next line stands, and its turn is said to fail a clause
  pub underway_stops : (lines : List (PlainLine K)) (claimed rest : List ℕ) (report : Report) (done number : ℕ) (s : Fabric K) (line : PlainLine K) (entry : PlainEntry K) (behind : List ℕ) (failed : Clause)
      → IsUnderway lines claimed rest report done s → done < length lines → line ≡ get_or lines done line → number ≡ report.lines + 1
      → BeginsWithEntry printed number rest entry behind → Tells cmp matching (turn_of cmp matching line entry s) (Some failed) → Breaks cmp matching printed every_clause lines claimed number failed
  underway_stops lines claimed rest report done number s line entry behind failed under within at is next told =
      let same : number ≡ length under.entries + 1 = omega (arith, is, under.lines, under.is_done) in
      let stands : BeginsWithEntry printed (length under.entries + 1) rest entry behind = subst (λ (k : ℕ). BeginsWithEntry printed k rest entry behind) same next in
      let is_next = turn_after lines claimed rest report done s line entry under within at in
      record {
        entries = under.entries;
        rest = rest;
        well = begins_well lines claimed rest report done s under;
        breaks = inr (record { entry = entry; behind = behind; stands = stands; turn = turn_of cmp matching line entry s; is_next = is_next; fails = told });
        is_line = same;
      }
