-- A run, piece by piece.
use Rattle.std.proofs.Common.{◌≡◌, ◌⊎◌, ℕ, ◌+◌, ◌-◌, ◌<◌, ◌≤◌, min, Bool, List, [], ◌∷◌, ◌++◌, length, take, drop, Option, Result, Ok, Err, inl, inr, refl, sym, ap, subst, ◌∙◌, arith, zero-add, append_assoc, append-nil, length-append, take-append-drop, IfOk, IfErr}
use Rattle.std.specs.declared.cmp.Ordering.{Ordering}
use Rattle.std.specs.Io.KnownBytes.{Appends, Consumes, IsAtEnd, Keeps}
use Rattle.std.proofs.KnownBytes.{Appends-nil, Appends-trans, Consumes-kept, Consumes-nil, Consumes-trans}
use Rattle.std.proofs.lemmas.List.{length-take, take-take, take_all}
use Rattle.std.proofs.Math.Seq.{take-append-add}
use Rattle.std.proofs.lemmas.Bool.{cases_lt}
use Rattle.zt_keys.specs.declared.error.KeyError.{KeyError}
use Rattle.zt_streams.specs.Streams.{HasRisen}
use Rattle.zt_streams.specs.Lines.{last_line, lines_of, rest_of, whole_lines}
use Rattle.zt_streams.proofs.LineLemmas.{lines_of-parts, rest_of-append, rest_of-rest_of, whole_lines-append}
use Rattle.zt_protocol.specs.Plain.{PlainEntry, PlainLine}
use Rattle.zt_protocol.specs.declared.entries.Report.{Report}
use Rattle.zt_protocol.specs.declared.errors.RunError.{RunError}
use Rattle.zt_protocol.specs.declared.errors.RunError.TheVariants as errors
use Rattle.zt_text.specs.Text.{entries_text, report_text}
use Rattle.zt_model.specs.Fabric.{Fabric, empty_fabric, entries_from}
use Rattle.zt_model.specs.Transcript.{Each, report_of}
use Rattle.zt_laws.specs.Sound.{HasFirstIds}
use Rattle.zt_theorem_transcript.specs.Named.{HasNamedOptions}
use Rattle.zt_fabric.proofs.Printed.{entries_printed}
use Rattle.zt_fabric.specs.Transcripts.{Answers, BeginsWith, FailedToRead, FailedToWrite, FoundTooMuch, IsTranscript, RanToItsEnd, most_bytes, streams}
use Rattle.zt_fabric.specs.Carrying.{Carries, Ends, EndsInPart, Shows, StopsWriting, Writes, WritesUntil, no_totals, with_entries}
use Rattle.zt_fabric.proofs.ReadLines.{first_ids_of, named_options_of}
use Rattle.zt_fabric.proofs.Right.{AreRight}
use Rattle.zt_fabric.proofs.CarryLemmas.{carries-behind, carries-none, carries-then, lines_read, same_totals, shows-carried, shows-then}

-- the front of a front
take-both : (m n k : ℕ) (l : List ℕ) → k ≡ min m n → take m (take n l) ≡ take k l
take-both m n k l least = elim (cases_lt n m) as (λ _. take m (take n l) ≡ take k l) [
  | inl less ↦
      let whole : length (take n l) ≤ m = omega (arith, length-take n l) in
      let same : n ≡ k = omega arith in
      take_all m (take n l) whole ∙ ap (λ i. take i l) same
  | inr more ↦
      let same : m ≡ k = omega arith in
      take-take m n l more ∙ ap (λ i. take i l) same
]

-- what is fed of a piece: as much as there is room for
pub fed-front : (read buf : List ℕ) (count room limit n : ℕ) → length read ≤ limit → room ≡ limit - length read → n ≡ min count room → take limit (read ++ take count buf) ≡ read ++ take n buf
fed-front read buf count room limit n fits is least =
    let sum : limit ≡ length read + room = omega arith in
    let smaller : n ≡ min room count = omega (arith, least) in
    ap (λ m. take m (read ++ take count buf)) sum ∙ take-append-add read (take count buf) room ∙ ap (λ t. read ++ t) (take-both room count n buf smaller)

pub risen-from : (a b d : ℕ) → a ≤ b → HasRisen b d → HasRisen a d
risen-from a b d low risen = λ h. omega (arith, risen h)

module _ {K : Type 0} (cmp : K → K → Ordering) (matching : K → K → Bool) (reading : List ℕ → Result K KeyError) (printed : K → List ℕ) where
  -- What was read so far: its whole lines were carried out and their entries written, and its rest is kept.
  pub record SoFar (left0 written0 left written : Option (List ℕ)) (s : Fabric K) (r : Report) (kept : List ℕ) (total : ℕ) : Type 0 where
    pub read : List ℕ
    pub taken : Consumes left0 left read
    pub size : length read ≡ total
    pub kept_is : kept ≡ rest_of read
    pub writes : Writes cmp matching reading printed (whole_lines read) empty_fabric no_totals s r written0 written

  pub so_far-none : (left0 written0 : Option (List ℕ)) → SoFar left0 written0 left0 written0 empty_fabric no_totals [] 0
  so_far-none left0 written0 = record {
    read = [];
    taken = Consumes-nil left0;
    size = refl;
    kept_is = refl;
    writes = record { text = []; carried = carries-none cmp matching reading printed empty_fabric no_totals []; appended = Appends-nil written0 };
  }

  -- with a new fabric and a new feeder
  pub so_far-start : (left0 written0 : Option (List ℕ)) (s : Fabric K) (kept : List ℕ) → s ≡ empty_fabric → kept ≡ [] → SoFar left0 written0 left0 written0 s no_totals kept 0
  so_far-start left0 written0 s kept new empty =
      subst (λ (f : Fabric K). SoFar left0 written0 left0 written0 f no_totals kept 0) (sym new)
      (subst (λ (k : List ℕ). SoFar left0 written0 left0 written0 empty_fabric no_totals k 0) (sym empty) (so_far-none left0 written0))

  -- the whole lines of what was read with what comes next
  lines-grown : (read kept more : List ℕ) → kept ≡ rest_of read → whole_lines read ++ whole_lines (kept ++ more) ≡ whole_lines (read ++ more)
  lines-grown read kept more is = ap (λ k. whole_lines read ++ whole_lines (k ++ more)) is ∙ sym (whole_lines-append read more)

  -- all lines of what was read, the unfinished one too
  lines-ended : (read kept : List ℕ) → kept ≡ rest_of read → lines_of read ≡ whole_lines read ++ last_line (rest_of kept)
  lines-ended read kept is = lines_of-parts read ∙ ap (λ k. whole_lines read ++ last_line k) (sym (ap rest_of is ∙ rest_of-rest_of read))

  writes-then : (xs ys : List (List ℕ)) (s s1 s2 : Fabric K) (r r1 r2 : Report) (a b d : Option (List ℕ))
      → Writes cmp matching reading printed xs s r s1 r1 a b → Writes cmp matching reading printed ys s1 r1 s2 r2 b d → Writes cmp matching reading printed (xs ++ ys) s r s2 r2 a d
  writes-then xs ys s s1 s2 r r1 r2 a b d p q = record {
    text = p.text ++ q.text;
    carried = carries-then cmp matching reading printed xs ys s s1 s2 r r1 r2 [] p.text (p.text ++ q.text) p.carried (carries-behind cmp matching reading printed ys s1 s2 r1 r2 p.text q.text q.carried);
    appended = Appends-trans a b d p.text q.text p.appended q.appended;
  }

  pub so_far-next : (left0 written0 left written left' written' : Option (List ℕ)) (s s' : Fabric K) (r r' : Report) (kept kept' : List ℕ) (total count : ℕ) (piece : List ℕ)
      → SoFar left0 written0 left written s r kept total → Consumes left left' piece → length piece ≡ count
      → Writes cmp matching reading printed (whole_lines (kept ++ piece)) s r s' r' written written' → kept' ≡ rest_of (kept ++ piece)
      → SoFar left0 written0 left' written' s' r' kept' (total + count)
  so_far-next left0 written0 left written left' written' s s' r r' kept kept' total count piece p given size more rest = record {
    read = p.read ++ piece;
    taken = Consumes-trans left0 left left' p.read piece p.taken given;
    size = omega (arith, length-append p.read piece, p.size, size);
    kept_is = rest ∙ ap (λ k. rest_of (k ++ piece)) p.kept_is ∙ sym (rest_of-append p.read piece);
    writes = subst (λ (ls : List (List ℕ)). Writes cmp matching reading printed ls empty_fabric no_totals s' r' written0 written') (lines-grown p.read kept piece p.kept_is)
        (writes-then (whole_lines p.read) (whole_lines (kept ++ piece)) empty_fabric s s' no_totals r r' written0 written written' p.writes more);
  }

  -- a last read that gave nothing
  pub so_far-end : (left0 written0 left written left' : Option (List ℕ)) (s : Fabric K) (r : Report) (kept : List ℕ) (total : ℕ) (piece : List ℕ)
      → SoFar left0 written0 left written s r kept total → Consumes left left' piece → piece ≡ [] → SoFar left0 written0 left' written s r kept total
  so_far-end left0 written0 left written left' s r kept total piece p given none =
      let P : List ℕ → Type 0 = λ t. Consumes left0 left' t in
      record {
        read = p.read;
        taken = subst P (ap (λ t. p.read ++ t) none ∙ append-nil p.read) (Consumes-trans left0 left left' p.read piece p.taken given);
        size = p.size;
        kept_is = p.kept_is;
        writes = p.writes;
      }

  totals-from_none : (es : List (PlainEntry K)) → with_entries es no_totals ≡ report_of es
  unfolding with_entries report_of
  totals-from_none es = same_totals (zero-add _) (zero-add _) (zero-add _)

  -- The law: what the machine comes to on lines with first ids and named options is right.
  module _ (law : (lines : List (PlainLine K)) → Each HasFirstIds lines → Each HasNamedOptions lines → AreRight cmp matching lines (entries_from cmp matching lines empty_fabric)) where
    transcript_of : (texts : List (List ℕ)) (text : List ℕ) (p : Shows cmp matching reading printed texts empty_fabric 1 text)
        → IsTranscript cmp matching reading texts (entries_from cmp matching p.lines empty_fabric)
    transcript_of texts text p =
        let right = law p.lines (first_ids_of reading texts p.lines p.are_read) (named_options_of reading texts p.lines p.are_read) in
        record { lines = p.lines; are_read = p.are_read; are_the_machines = refl; are_printed = entries_printed cmp matching p.lines (entries_from cmp matching p.lines empty_fabric) empty_fabric right.faithful p.fit; are_faithful = right.faithful; are_strict = right.strict; keep_promises = right.promises; keep_stricter_promises = right.stricter_promises; tell_what_is_new = right.news; print_exactly = right.exactly; keep_tree_promises = right.tree_promises }

    -- what was shown of a transcript
    record Told (texts : List (List ℕ)) (text : List ℕ) : Type 0 where
      pub entries : List (PlainEntry K)
      pub transcript : IsTranscript cmp matching reading texts entries
      pub is_text : text ≡ entries_text printed 1 entries

    told : (texts : List (List ℕ)) (text : List ℕ) → Shows cmp matching reading printed texts empty_fabric 1 text → Told texts text
    told texts text p = record { entries = entries_from cmp matching p.lines empty_fabric; transcript = transcript_of texts text p; is_text = p.is_text }

    -- the lines before were carried out, and of those behind them only some
    stopped_at : (left0 written0 left written left' written' : Option (List ℕ)) (s : Fabric K) (r : Report) (kept : List ℕ) (total rf0 rf wf0 wf wf' : ℕ) (e : RunError)
        (p : SoFar left0 written0 left written s r kept total) (read : List ℕ) → Consumes left0 left' read → length read ≤ most_bytes + 1 → (all : List (List ℕ))
        → ((texts others : List (List ℕ)) → whole_lines p.read ++ all ≡ texts ++ others → BeginsWith left' read texts)
        → StopsWriting cmp matching reading printed all s (r.lines + 1) written written' wf wf' e → wf0 ≤ wf
        → Answers cmp matching reading printed (streams left0 rf0 written0 wf0) (streams left' rf written' wf') (Err e)
    stopped_at left0 written0 left written left' written' s r kept total rf0 rf wf0 wf wf' e p read taken few all begins q low = by_cause e q.cause
      where
        lines : List (List ℕ)
        lines = whole_lines p.read

        number : r.lines ≡ 0 + length (whole_lines p.read)
        number = lines_read cmp matching reading printed (whole_lines p.read) empty_fabric s no_totals r [] p.writes.text p.writes.carried

        shown : Told (whole_lines p.read ++ q.before) (p.writes.text ++ q.text)
        shown = told (whole_lines p.read ++ q.before) (p.writes.text ++ q.text)
            (shows-then cmp matching reading printed (whole_lines p.read) q.before empty_fabric s no_totals r p.writes.text q.text p.writes.carried q.shows)

        whole : Appends written written' q.text → Appends written0 written' (entries_text printed 1 shown.entries)
        whole h = let P : List ℕ → Type 0 = λ t. Appends written0 written' t in subst P shown.is_text (Appends-trans written0 written written' p.writes.text q.text p.writes.appended h)

        by_cause : (e : RunError) → WritesUntil cmp matching reading printed all q.before (r.lines + 1) q.text written written' wf wf' e
            → Answers cmp matching reading printed (streams left0 rf0 written0 wf0) (streams left' rf written' wf') (Err e)
        by_cause (errors.BadLine n) h = record {
          read = read;
          taken = taken;
          bounded = few;
          before = whole_lines p.read ++ q.before;
          bad = h.0.0;
          first = begins ((whole_lines p.read ++ q.before) ++ h.0.0 ∷ []) h.0.1
              (ap (λ ls. whole_lines p.read ++ ls) h.0.2 ∙ sym (append_assoc (whole_lines p.read) (q.before ++ h.0.0 ∷ []) h.0.1)
              ∙ ap (λ ls. ls ++ h.0.1) (sym (append_assoc (whole_lines p.read) q.before (h.0.0 ∷ []))));
          counted = omega (arith, h.0.4, number, length-append (whole_lines p.read) q.before);
          is_bad = h.0.3;
          entries = shown.entries;
          transcript = shown.transcript;
          shown = whole h.1;
        }
        by_cause errors.Alloc h = record {
          read = read;
          taken = taken;
          bounded = few;
          texts = whole_lines p.read ++ q.before;
          first = begins (whole_lines p.read ++ q.before) h.0.0 (ap (λ ls. whole_lines p.read ++ ls) h.0.1 ∙ sym (append_assoc (whole_lines p.read) q.before h.0.0));
          entries = shown.entries;
          transcript = shown.transcript;
          shown = whole h.1;
        }
        by_cause errors.WriteFault h = record {
          risen = risen-from wf0 wf wf' low h.2;
          read = read;
          taken = taken;
          bounded = few;
          texts = whole_lines p.read ++ q.before;
          entries = shown.entries;
          transcript = shown.transcript;
          front = p.writes.text ++ take h.1.0 q.text;
          others = drop h.1.0 q.text;
          is_text = inl (
            begins (whole_lines p.read ++ q.before) h.0.0 (ap (λ ls. whole_lines p.read ++ ls) h.0.1 ∙ sym (append_assoc (whole_lines p.read) q.before h.0.0)),
            append_assoc p.writes.text (take h.1.0 q.text) (drop h.1.0 q.text) ∙ ap (λ t. p.writes.text ++ t) (take-append-drop h.1.0 q.text) ∙ shown.is_text,
          );
          shown = Appends-trans written0 written written' p.writes.text (take h.1.0 q.text) p.writes.appended h.1.2;
        }
        by_cause errors.TooLong h = absurd h.0
        by_cause errors.ReadFault h = absurd h.0

    -- a piece wasn't carried out whole
    pub stopped : (left0 written0 left written left' written' : Option (List ℕ)) (s : Fabric K) (r : Report) (kept : List ℕ) (total rf0 rf wf0 wf wf' : ℕ) (e : RunError) (piece fed : List ℕ)
        (p : SoFar left0 written0 left written s r kept total) → Consumes left left' piece → total + length piece ≤ most_bytes + 1 → take most_bytes (p.read ++ piece) ≡ p.read ++ fed
        → StopsWriting cmp matching reading printed (whole_lines (kept ++ fed)) s (r.lines + 1) written written' wf wf' e → wf0 ≤ wf
        → Answers cmp matching reading printed (streams left0 rf0 written0 wf0) (streams left' rf written' wf') (Err e)
    stopped left0 written0 left written left' written' s r kept total rf0 rf wf0 wf wf' e piece fed p given few front q low =
        stopped_at left0 written0 left written left' written' s r kept total rf0 rf wf0 wf wf' e p (p.read ++ piece) (Consumes-trans left0 left left' p.read piece p.taken given) (omega (arith, few, p.size, length-append p.read piece))
        (whole_lines (kept ++ fed)) (λ texts others are. inl (others, ap whole_lines front ∙ sym (lines-grown p.read kept fed p.kept_is) ∙ are)) q low

    -- the end wasn't carried out whole
    ended_early : (left0 written0 left written written' : Option (List ℕ)) (s : Fabric K) (r : Report) (kept : List ℕ) (total rf0 rf wf0 wf wf' : ℕ) (e : RunError)
        (p : SoFar left0 written0 left written s r kept total) → IsAtEnd left → total ≤ most_bytes
        → StopsWriting cmp matching reading printed (last_line (rest_of kept)) s (r.lines + 1) written written' wf wf' e → wf0 ≤ wf
        → Answers cmp matching reading printed (streams left0 rf0 written0 wf0) (streams left rf written' wf') (Err e)
    ended_early left0 written0 left written written' s r kept total rf0 rf wf0 wf wf' e p at_end fits q low =
        let small : length p.read ≤ most_bytes = omega (arith, p.size, fits) in
        stopped_at left0 written0 left written left written' s r kept total rf0 rf wf0 wf wf' e p p.read p.taken (omega (arith, small))
        (last_line (rest_of kept)) (λ texts others are. inr (others, at_end, small, lines-ended p.read kept p.kept_is ∙ are)) q low

    -- all lines were carried out
    record Carried (read : List ℕ) (text : List ℕ) (report : Report) : Type 0 where
      pub entries : List (PlainEntry K)
      pub transcript : IsTranscript cmp matching reading (lines_of read) entries
      pub is_text : text ≡ entries_text printed 1 entries
      pub totals : report ≡ report_of entries

    carried_all : (read kept : List ℕ) (s last : Fabric K) (r report : Report) (text more : List ℕ) → kept ≡ rest_of read
        → Carries cmp matching reading printed (whole_lines read) empty_fabric no_totals [] s r text
        → Carries cmp matching reading printed (last_line (rest_of kept)) s r [] last report more → Carried read (text ++ more) report
    carried_all read kept s last r report text more is p q =
        let both = carries-then cmp matching reading printed (whole_lines read) (last_line (rest_of kept)) empty_fabric s last no_totals r report [] text (text ++ more) p
        (carries-behind cmp matching reading printed (last_line (rest_of kept)) s last r report text more q) in
        let all = subst (λ (ls : List (List ℕ)). Carries cmp matching reading printed ls empty_fabric no_totals [] last report (text ++ more)) (sym (lines-ended read kept is)) both in
        record {
          entries = entries_from cmp matching all.lines empty_fabric;
          transcript = transcript_of (lines_of read) (text ++ more) (record { lines = all.lines; are_read = all.are_read; is_text = all.text_is; fit = all.fit });
          is_text = all.text_is;
          totals = all.totals_are ∙ totals-from_none (entries_from cmp matching all.lines empty_fabric);
        }

    ended : (left0 written0 left written written' : Option (List ℕ)) (s : Fabric K) (r report : Report) (kept : List ℕ) (total rf0 rf wf0 wf' : ℕ)
        (p : SoFar left0 written0 left written s r kept total) → IsAtEnd left → total ≤ most_bytes
        → Ends cmp matching reading printed (last_line (rest_of kept)) s r report written written'
        → RanToItsEnd cmp matching reading printed (streams left0 rf0 written0 wf0) (streams left rf written' wf') report
    ended left0 written0 left written written' s r report kept total rf0 rf wf0 wf' p at_end fits q =
        let all = carried_all p.read kept s q.last r report p.writes.text q.text p.kept_is p.writes.carried q.carried in
        let P : List ℕ → Type 0 = λ t. Appends written0 written' t in
        record {
          read = p.read;
          taken = p.taken;
          at_end = at_end;
          fits = omega (arith, p.size, fits);
          entries = all.entries;
          transcript = all.transcript;
          totals = all.totals;
          shown = subst P (sym (append_assoc p.writes.text q.text (report_text report)) ∙ ap (λ t. t ++ report_text report) all.is_text)
              (Appends-trans written0 written written' p.writes.text (q.text ++ report_text report) p.writes.appended q.appended);
        }

    ended_in_part : (left0 written0 left written written' : Option (List ℕ)) (s : Fabric K) (r : Report) (kept : List ℕ) (total rf0 rf wf0 wf wf' : ℕ)
        (p : SoFar left0 written0 left written s r kept total) → IsAtEnd left → total ≤ most_bytes
        → EndsInPart cmp matching reading printed (last_line (rest_of kept)) s r written written' wf wf' → wf0 ≤ wf
        → FailedToWrite cmp matching reading printed (streams left0 rf0 written0 wf0) (streams left rf written' wf')
    ended_in_part left0 written0 left written written' s r kept total rf0 rf wf0 wf wf' p at_end fits q low =
        let all = carried_all p.read kept s q.last r q.totals p.writes.text q.text p.kept_is p.writes.carried q.carried in
        let text = q.text ++ report_text q.totals in
        record {
          risen = risen-from wf0 wf wf' low q.risen;
          read = p.read;
          taken = p.taken;
          bounded = omega (arith, p.size, fits);
          texts = lines_of p.read;
          entries = all.entries;
          transcript = all.transcript;
          front = p.writes.text ++ take q.part.0 text;
          others = drop q.part.0 text;
          is_text = inr (
            at_end,
            omega (arith, p.size, fits),
            refl,
            append_assoc p.writes.text (take q.part.0 text) (drop q.part.0 text) ∙ ap (λ t. p.writes.text ++ t) (take-append-drop q.part.0 text)
                ∙ sym (append_assoc p.writes.text q.text (report_text q.totals)) ∙ ap (λ t. t ++ report_text q.totals) all.is_text
                ∙ ap (λ n. entries_text printed 1 all.entries ++ report_text n) all.totals,
          );
          shown = Appends-trans written0 written written' p.writes.text (take q.part.0 text) p.writes.appended q.part.2;
        }

    -- what came of the end
    pub finished : (left0 written0 left written written' : Option (List ℕ)) (s : Fabric K) (r : Report) (kept : List ℕ) (total rf0 rf wf0 wf wf' : ℕ) (result : Result Report RunError)
        (p : SoFar left0 written0 left written s r kept total) → IsAtEnd left → total ≤ most_bytes → wf0 ≤ wf
        → IfOk result (λ report. Ends cmp matching reading printed (last_line (rest_of kept)) s r report written written')
        → IfErr result (λ e. StopsWriting cmp matching reading printed (last_line (rest_of kept)) s (r.lines + 1) written written' wf wf' e
        ⊎ ((e ≡ errors.WriteFault) × EndsInPart cmp matching reading printed (last_line (rest_of kept)) s r written written' wf wf'))
        → Answers cmp matching reading printed (streams left0 rf0 written0 wf0) (streams left rf written' wf') result
    finished left0 written0 left written written' s r kept total rf0 rf wf0 wf wf' (Ok report) p at_end fits low done failed =
        ended left0 written0 left written written' s r report kept total rf0 rf wf0 wf' p at_end fits done
    finished left0 written0 left written written' s r kept total rf0 rf wf0 wf wf' (Err e) p at_end fits low done failed =
        elim failed as (λ _. Answers cmp matching reading printed (streams left0 rf0 written0 wf0) (streams left rf written' wf') (Err e)) [
          | inl q ↦ ended_early left0 written0 left written written' s r kept total rf0 rf wf0 wf wf' e p at_end fits q low
          | inr q ↦ subst (λ (x : RunError). Answers cmp matching reading printed (streams left0 rf0 written0 wf0) (streams left rf written' wf') (Err x)) (sym q.0)
              (ended_in_part left0 written0 left written written' s r kept total rf0 rf wf0 wf wf' p at_end fits q.1 low)
        ]

    -- more was read than a script may have
    pub too_long : (left0 written0 left written left' written' : Option (List ℕ)) (s s' : Fabric K) (r r' : Report) (kept : List ℕ) (total rf0 rf wf0 wf' : ℕ) (piece fed : List ℕ)
        (p : SoFar left0 written0 left written s r kept total) → Consumes left left' piece → total + length piece ≤ most_bytes + 1 → take most_bytes (p.read ++ piece) ≡ p.read ++ fed → most_bytes < total + length piece
        → Writes cmp matching reading printed (whole_lines (kept ++ fed)) s r s' r' written written'
        → FoundTooMuch cmp matching reading printed (streams left0 rf0 written0 wf0) (streams left' rf written' wf')
    too_long left0 written0 left written left' written' s s' r r' kept total rf0 rf wf0 wf' piece fed p given few front more q =
        let both = writes-then (whole_lines p.read) (whole_lines (kept ++ fed)) empty_fabric s s' no_totals r r' written0 written written' p.writes q in
        let lines : whole_lines p.read ++ whole_lines (kept ++ fed) ≡ whole_lines (take most_bytes (p.read ++ piece)) = lines-grown p.read kept fed p.kept_is ∙ ap whole_lines (sym front) in
        let all = subst (λ (ls : List (List ℕ)). Writes cmp matching reading printed ls empty_fabric no_totals s' r' written0 written') lines both in
        let shown = told (whole_lines (take most_bytes (p.read ++ piece))) all.text (shows-carried cmp matching reading printed (whole_lines (take most_bytes (p.read ++ piece))) empty_fabric s' no_totals r' all.text all.carried) in
        let P : List ℕ → Type 0 = λ t. Appends written0 written' t in
        record {
          read = p.read ++ piece;
          taken = Consumes-trans left0 left left' p.read piece p.taken given;
          bounded = omega (arith, few, p.size, length-append p.read piece);
          longer = omega (arith, more, p.size, length-append p.read piece);
          entries = shown.entries;
          transcript = shown.transcript;
          shown = subst P shown.is_text all.appended;
        }

    -- the source failed
    pub read_failed : (left0 written0 left written left' : Option (List ℕ)) (s : Fabric K) (r : Report) (kept : List ℕ) (total rf0 rf rf' wf0 wf : ℕ)
        (p : SoFar left0 written0 left written s r kept total) → Keeps left left' → total ≤ most_bytes → rf0 ≤ rf → HasRisen rf rf'
        → FailedToRead cmp matching reading printed (streams left0 rf0 written0 wf0) (streams left' rf' written wf)
    read_failed left0 written0 left written left' s r kept total rf0 rf rf' wf0 wf p kept_left fits low risen =
        let shown = told (whole_lines p.read) p.writes.text (shows-carried cmp matching reading printed (whole_lines p.read) empty_fabric s no_totals r p.writes.text p.writes.carried) in
        let P : List ℕ → Type 0 = λ t. Appends written0 written t in
        record {
          risen = risen-from rf0 rf rf' low risen;
          read = p.read;
          taken = Consumes-kept left0 left left' p.read p.taken kept_left;
          fits = omega (arith, p.size, fits);
          entries = shown.entries;
          transcript = shown.transcript;
          shown = subst P shown.is_text p.writes.appended;
        }
