-- Carrying out lines one after another.
use Rattle.std.proofs.Common.{◌≡◌, ◌≢◌, ℕ, suc, ◌+◌, ◌≤◌, Bool, true, false, List, [], ◌∷◌, ◌++◌, length, map, Option, Some, Result, Ok, Err, refl, sym, ap, subst, ◌∙◌, arith, add-zero, add_assoc, append_assoc, append-nil, length-append, take, if◌then◌else◌, is_ok, is_err, OnErr, OnOk}
use Rattle.std.specs.declared.cmp.Ordering.{Ordering}
use Rattle.std.proofs.lemmas.List.{map-append, length-map}
use Rattle.std.proofs.lemmas.List.Sums.{sum_by-append}
use Rattle.zt_keys.specs.declared.error.KeyError.{KeyError}
use Rattle.zt_protocol.specs.Plain.{PlainEntry, PlainLine}
use Rattle.zt_protocol.specs.declared.entries.Report.{Report}
use Rattle.zt_protocol.specs.declared.errors.RunError.{RunError}
use Rattle.zt_protocol.specs.declared.errors.RunError.TheVariants as errors
use Rattle.std.specs.Io.KnownBytes.{Appends}
use Rattle.std.proofs.KnownBytes.{Appends-nil, Appends-trans}
use Rattle.std.proofs.Math.Seq.{take-append-add}
use Rattle.zt_streams.specs.Streams.{AppendsPart, HasRisen}
use Rattle.zt_streams.specs.Lines.{last_line, rest_of, TakesRest}
use Rattle.zt_text.specs.Sent.{EntryFits}
use Rattle.zt_lines.specs.Reading.{line_read}
use Rattle.zt_text.specs.Text.{entries_text, entry_text, report_text}
use Rattle.zt_model.specs.Fabric.{Fabric, entries_from, entry_of, fabric_after}
use Rattle.zt_model.specs.Transcript.{Each, messages_in, refusals_in}
use Rattle.zt_laws.proofs.Lists.{each_append}
use Rattle.zt_fabric.specs.Carrying.{Carries, EndsInPart, LineStops, Shows, Stops, StopsBehind, StopsWriting, Writes, WritesUntil, fabric_from, with_entries, with_entry}

-- ---- totals

pub same_totals : {a a' b b' d d' : ℕ} → a ≡ a' → b ≡ b' → d ≡ d' → (let one : Report = record { lines = a; messages = b; refusals = d } in let two : Report = record { lines = a'; messages = b'; refusals = d' } in one ≡ two)
same_totals p q r = cc

pub with_entries-none : (K : Type 0) (r : Report) → r ≡ with_entries {K = K} [] r
unfolding with_entries
with_entries-none K r = same_totals (sym (add-zero r.lines)) (sym (add-zero r.messages)) (sym (add-zero r.refusals))

module _ {K : Type 0} where
  pub with_entries-one : (entry : PlainEntry K) (r : Report) → with_entry entry r ≡ with_entries (entry ∷ []) r
  unfolding with_entries
  with_entries-one entry r = same_totals refl (ap (λ n. r.messages + n) (omega arith)) (ap (λ n. r.refusals + n) (omega arith))

  pub with_entries-append : (es fs : List (PlainEntry K)) (r : Report) → with_entries fs (with_entries es r) ≡ with_entries (es ++ fs) r
  unfolding with_entries
  with_entries-append es fs r =
      same_totals (omega (arith, length-append es fs)) (add_assoc r.messages _ _ ∙ ap (λ n. r.messages + n) (sym (sum_by-append messages_in es fs)))
      (add_assoc r.refusals _ _ ∙ ap (λ n. r.refusals + n) (sym (sum_by-append refusals_in es fs)))

  -- ---- texts

  pub entries_text-append : (printed : K → List ℕ) (n : ℕ) (es fs : List (PlainEntry K)) → entries_text printed n (es ++ fs) ≡ entries_text printed n es ++ entries_text printed (n + length es) fs
  unfolding entries_text
  entries_text-append printed n [] fs = ap (λ m. entries_text printed m fs) (sym (add-zero n))
  entries_text-append printed n (e ∷ es) fs =
      ap (λ text. entry_text printed n e ++ text) (entries_text-append printed (n + 1) es fs ∙ ap (λ m. entries_text printed (n + 1) es ++ entries_text printed m fs) (omega arith))
      ∙ sym (append_assoc (entry_text printed n e) (entries_text printed (n + 1) es) _)

  pub entries_text-one : (printed : K → List ℕ) (n : ℕ) (e : PlainEntry K) → entry_text printed n e ≡ entries_text printed n (e ∷ [])
  unfolding entries_text
  entries_text-one printed n e = sym (append-nil (entry_text printed n e))

-- ---- the machine

module _ {K : Type 0} (cmp : K → K → Ordering) (matching : K → K → Bool) where
  abbrev entries : List (PlainLine K) → Fabric K → List (PlainEntry K)
  entries lines s = entries_from cmp matching lines s

  pub entries-append : (ls ms : List (PlainLine K)) (s : Fabric K) → entries (ls ++ ms) s ≡ entries ls s ++ entries ms (fabric_from cmp matching ls s)
  unfolding entries_from fabric_from
  entries-append [] ms s = refl
  entries-append (l ∷ ls) ms s = ap (λ es. entry_of cmp matching l s ∷ es) (entries-append ls ms (fabric_after cmp matching l (entry_of cmp matching l s) s))

  pub fabric_from-append : (ls ms : List (PlainLine K)) (s : Fabric K) → fabric_from cmp matching (ls ++ ms) s ≡ fabric_from cmp matching ms (fabric_from cmp matching ls s)
  unfolding fabric_from
  fabric_from-append [] ms s = refl
  fabric_from-append (l ∷ ls) ms s = fabric_from-append ls ms (fabric_after cmp matching l (entry_of cmp matching l s) s)

  pub entries-length : (ls : List (PlainLine K)) (s : Fabric K) → length (entries ls s) ≡ length ls
  unfolding entries_from
  entries-length [] s = refl
  entries-length (l ∷ ls) s = ap suc (entries-length ls (fabric_after cmp matching l (entry_of cmp matching l s) s))

module _ {K : Type 0} (cmp : K → K → Ordering) (matching : K → K → Bool) (reading : List ℕ → Result K KeyError) (printed : K → List ℕ) where
  pub carries-none : (s : Fabric K) (r : Report) (text : List ℕ) → Carries cmp matching reading printed [] s r text s r text
  unfolding entries_from fabric_from entries_text
  carries-none s r text = record { lines = []; are_read = refl; fabric_is = refl; totals_are = with_entries-none K r; text_is = sym (append-nil text); fit = tt }

  pub carries-one : (bytes : List ℕ) (line : PlainLine K) (entry : PlainEntry K) (s s' : Fabric K) (r r' : Report) (text text' : List ℕ)
      → line_read reading bytes ≡ Ok line → entry ≡ entry_of cmp matching line s → s' ≡ fabric_after cmp matching line entry s
      → r' ≡ with_entry entry r → text' ≡ text ++ entry_text printed (r.lines + 1) entry → EntryFits entry
      → Carries cmp matching reading printed (bytes ∷ []) s r text s' r' text'
  unfolding entries_from fabric_from
  carries-one bytes line entry s s' r r' text text' is_read is_machine after counted grown fits = record {
    lines = line ∷ [];
    are_read = ap (λ x. x ∷ []) is_read;
    fabric_is = after ∙ ap (λ e. fabric_after cmp matching line e s) is_machine;
    totals_are = counted ∙ with_entries-one entry r ∙ ap (λ e. with_entries (e ∷ []) r) is_machine;
    text_is = grown ∙ ap (λ t. text ++ t) (entries_text-one printed (r.lines + 1) entry ∙ ap (λ e. entries_text printed (r.lines + 1) (e ∷ [])) is_machine);
    fit = (subst EntryFits is_machine fits, tt);
  }

  lines_after : (es : List (PlainEntry K)) (r r' : Report) → r' ≡ with_entries es r → r'.lines ≡ r.lines + length es
  unfolding with_entries
  lines_after es r r' h = ap (λ (x : Report). x.lines) h

  pub carries-then : (xs ys : List (List ℕ)) (s s1 s2 : Fabric K) (r r1 r2 : Report) (text text1 text2 : List ℕ)
      → Carries cmp matching reading printed xs s r text s1 r1 text1 → Carries cmp matching reading printed ys s1 r1 text1 s2 r2 text2
      → Carries cmp matching reading printed (xs ++ ys) s r text s2 r2 text2
  carries-then xs ys s s1 s2 r r1 r2 text text1 text2 p q =
      let es = entries cmp matching p.lines s in
      let same : entries cmp matching q.lines s1 ≡ entries cmp matching q.lines (fabric_from cmp matching p.lines s) = ap (entries cmp matching q.lines) p.fabric_is in
      let all : es ++ entries cmp matching q.lines s1 ≡ entries cmp matching (p.lines ++ q.lines) s = ap (λ fs. es ++ fs) same ∙ sym (entries-append cmp matching p.lines q.lines s) in
      let number : r1.lines + 1 ≡ (r.lines + 1) + length es = omega (arith, lines_after es r r1 p.totals_are) in
      record {
        lines = p.lines ++ q.lines;
        are_read = map-append (line_read reading) xs ys ∙ ap (λ x. x ++ map (line_read reading) ys) p.are_read ∙ ap (λ x. map (λ line. Ok line) p.lines ++ x) q.are_read ∙ sym (map-append (λ line. Ok line) p.lines q.lines);
        fabric_is = q.fabric_is ∙ ap (fabric_from cmp matching q.lines) p.fabric_is ∙ sym (fabric_from-append cmp matching p.lines q.lines s);
        totals_are = q.totals_are ∙ ap (with_entries (entries cmp matching q.lines s1)) p.totals_are ∙ with_entries-append es (entries cmp matching q.lines s1) r ∙ ap (λ fs. with_entries fs r) all;
        text_is = q.text_is ∙ ap (λ t. t ++ entries_text printed (r1.lines + 1) (entries cmp matching q.lines s1)) p.text_is ∙ append_assoc text _ _
            ∙ ap (λ t. text ++ t) (ap (λ n. entries_text printed (r.lines + 1) es ++ entries_text printed n (entries cmp matching q.lines s1)) number
            ∙ sym (entries_text-append printed (r.lines + 1) es (entries cmp matching q.lines s1)) ∙ ap (entries_text printed (r.lines + 1)) all);
        fit = subst (Each EntryFits) all (each_append EntryFits es (entries cmp matching q.lines s1) p.fit q.fit);
      }

  -- what was carried out shows its text
  pub shows-carried : (texts : List (List ℕ)) (s s' : Fabric K) (r r' : Report) (text : List ℕ) → Carries cmp matching reading printed texts s r [] s' r' text → Shows cmp matching reading printed texts s (r.lines + 1) text
  shows-carried texts s s' r r' text p = record { lines = p.lines; are_read = p.are_read; is_text = p.text_is; fit = p.fit }

-- ---- lines one after another

module _ {K : Type 0} (cmp : K → K → Ordering) (matching : K → K → Bool) (reading : List ℕ → Result K KeyError) (printed : K → List ℕ) where
  -- of these lines those before the ones left were carried out
  pub record Partly (all left : List (List ℕ)) (s : Fabric K) (r : Report) (text : List ℕ) (s' : Fabric K) (r' : Report) (text' : List ℕ) : Type 0 where
    pub done : List (List ℕ)
    pub are : all ≡ done ++ left
    pub carried : Carries cmp matching reading printed done s r text s' r' text'

  pub partly-none : (all : List (List ℕ)) (s : Fabric K) (r : Report) (text : List ℕ) → Partly all all s r text s r text
  partly-none all s r text = record { done = []; are = refl; carried = carries-none cmp matching reading printed s r text }

  pub partly-next : (all left : List (List ℕ)) (line : List ℕ) (left' : List (List ℕ)) (s s1 s2 : Fabric K) (r r1 r2 : Report) (text text1 text2 : List ℕ)
      → Partly all left s r text s1 r1 text1 → left ≡ line ∷ left' → Carries cmp matching reading printed (line ∷ []) s1 r1 text1 s2 r2 text2
      → Partly all left' s r text s2 r2 text2
  partly-next all left line left' s s1 s2 r r1 r2 text text1 text2 p first q = record {
    done = p.done ++ line ∷ [];
    are = p.are ∙ ap (λ ls. p.done ++ ls) first ∙ sym (append_assoc p.done (line ∷ []) left');
    carried = carries-then cmp matching reading printed p.done (line ∷ []) s s1 s2 r r1 r2 text text1 text2 p.carried q;
  }

  pub partly-all : (all left : List (List ℕ)) (s s' : Fabric K) (r r' : Report) (text text' : List ℕ)
      → Partly all left s r text s' r' text' → left ≡ [] → Carries cmp matching reading printed all s r text s' r' text'
  partly-all all left s s' r r' text text' p none =
      subst (λ (ls : List (List ℕ)). Carries cmp matching reading printed ls s r text s' r' text') (sym (p.are ∙ ap (λ ls. p.done ++ ls) none ∙ append-nil p.done)) p.carried

  pub lines_read : (texts : List (List ℕ)) (s s' : Fabric K) (r r' : Report) (text text' : List ℕ) → Carries cmp matching reading printed texts s r text s' r' text' → r'.lines ≡ r.lines + length texts
  lines_read texts s s' r r' text text' p =
      let read : length texts ≡ length p.lines = sym (length-map texts (line_read reading)) ∙ ap length p.are_read ∙ length-map p.lines (λ line. Ok line) in
      lines_after cmp matching reading printed (entries cmp matching p.lines s) r r' p.totals_are ∙ ap (λ n. r.lines + n) (entries-length cmp matching p.lines s ∙ sym read)

  pub partly-stops : (all left : List (List ℕ)) (line : List ℕ) (left' : List (List ℕ)) (s s' : Fabric K) (r r' : Report) (text text' text2 : List ℕ) (error : RunError)
      → Partly all left s r text s' r' text' → left ≡ line ∷ left' → LineStops cmp matching reading printed line (r'.lines + 1) error → text2 ≡ text'
      → Stops cmp matching reading printed all s (r.lines + 1) text text2 error
  partly-stops all left line left' s s' r r' text text' text2 error p first why kept = record {
    before = p.done;
    more = entries_text printed (r.lines + 1) (entries cmp matching p.carried.lines s);
    shows = record { lines = p.carried.lines; are_read = p.carried.are_read; is_text = refl; fit = p.carried.fit };
    text_is = kept ∙ p.carried.text_is;
    cause = by_cause error why;
  }
    where
      are : all ≡ p.done ++ line ∷ left'
      are = p.are ∙ ap (λ ls. p.done ++ ls) first

      by_cause : (e : RunError) → LineStops cmp matching reading printed line (r'.lines + 1) e → StopsBehind cmp matching reading printed all p.done (r.lines + 1) e
      by_cause (errors.BadLine n) h =
          (line, left', are ∙ sym (append_assoc p.done (line ∷ []) left'), h.0, omega (arith, h.1, lines_read p.done s s' r r' text text' p.carried))
      by_cause errors.Alloc h = (line ∷ left', are)
      by_cause errors.TooLong h = absurd h
      by_cause errors.ReadFault h = absurd h
      by_cause errors.WriteFault h = absurd h

  -- ---- what was written

  pub writes-carried : (texts : List (List ℕ)) (s s' : Fabric K) (r r' : Report) (text text' : List ℕ) (old new : Option (List ℕ))
      → text ≡ [] → Carries cmp matching reading printed texts s r text s' r' text' → Appends old new text' → Writes cmp matching reading printed texts s r s' r' old new
  writes-carried texts s s' r r' text text' old new none p written =
      record { text = text'; carried = subst (λ (t : List ℕ). Carries cmp matching reading printed texts s r t s' r' text') none p; appended = written }

  pub stops-written : (texts : List (List ℕ)) (s : Fabric K) (number : ℕ) (text text' : List ℕ) (old new : Option (List ℕ)) (faults faults' : ℕ) (error : RunError)
      → text ≡ [] → Stops cmp matching reading printed texts s number text text' error → Appends old new text' → StopsWriting cmp matching reading printed texts s number old new faults faults' error
  stops-written texts s number text text' old new faults faults' error none p written = record {
    before = p.before;
    text = p.more;
    shows = p.shows;
    cause = by_cause error p.cause;
  }
    where
      grown : Appends old new p.more
      grown = let P : List ℕ → Type 0 = λ t. Appends old new t in subst P (p.text_is ∙ ap (λ t. t ++ p.more) none) written

      by_cause : (e : RunError) → StopsBehind cmp matching reading printed texts p.before number e → WritesUntil cmp matching reading printed texts p.before number p.more old new faults faults' e
      by_cause (errors.BadLine n) h = (h, grown)
      by_cause errors.Alloc h = (h, grown)
      by_cause errors.TooLong h = absurd h
      by_cause errors.ReadFault h = absurd h
      by_cause errors.WriteFault h = absurd h

  -- the sink failed after all these lines
  pub failed-carried : (texts : List (List ℕ)) (s s' : Fabric K) (r r' : Report) (text text' : List ℕ) (old new : Option (List ℕ)) (faults faults' : ℕ)
      → text ≡ [] → Carries cmp matching reading printed texts s r text s' r' text' → AppendsPart old new text' → HasRisen faults faults'
      → StopsWriting cmp matching reading printed texts s (r.lines + 1) old new faults faults' errors.WriteFault
  failed-carried texts s s' r r' text text' old new faults faults' none p part risen = record {
    before = texts;
    text = text';
    shows = shows-carried cmp matching reading printed texts s s' r r' text' (subst (λ (t : List ℕ). Carries cmp matching reading printed texts s r t s' r' text') none p);
    cause = (([], sym (append-nil texts)), part, risen);
  }

  -- the sink failed after some of these lines
  pub failed-stops : (texts : List (List ℕ)) (s : Fabric K) (number : ℕ) (text text' : List ℕ) (old new : Option (List ℕ)) (faults faults' : ℕ) (error : RunError)
      → text ≡ [] → Stops cmp matching reading printed texts s number text text' error → AppendsPart old new text' → HasRisen faults faults'
      → StopsWriting cmp matching reading printed texts s number old new faults faults' errors.WriteFault
  failed-stops texts s number text text' old new faults faults' error none p part risen = record {
    before = p.before;
    text = p.more;
    shows = p.shows;
    cause = (others_of error p.cause, (let P : List ℕ → Type 0 = λ t. AppendsPart old new t in subst P (p.text_is ∙ ap (λ t. t ++ p.more) none) part), risen);
  }
    where
      others_of : (e : RunError) → StopsBehind cmp matching reading printed texts p.before number e → (others : List (List ℕ)) × (texts ≡ p.before ++ others)
      others_of (errors.BadLine n) h = (h.0 ∷ h.1, h.2 ∙ append_assoc p.before (h.0 ∷ []) h.1)
      others_of errors.Alloc h = h
      others_of errors.TooLong h = absurd h
      others_of errors.ReadFault h = absurd h
      others_of errors.WriteFault h = absurd h

  -- nothing was carried out for want of memory
  pub stops-first : (texts : List (List ℕ)) (s : Fabric K) (number : ℕ) (old : Option (List ℕ)) (faults : ℕ) → StopsWriting cmp matching reading printed texts s number old old faults faults errors.Alloc
  unfolding entries_from entries_text
  stops-first texts s number old faults = record {
    before = [];
    text = [];
    shows = record { lines = []; are_read = refl; is_text = refl; fit = tt };
    cause = ((texts, refl), Appends-nil old);
  }

-- the rest that was given is the last line
pub only_line : (old rest new : List ℕ) → TakesRest old (Some rest) new → last_line (rest_of old) ≡ rest ∷ []
only_line old rest new h = ap last_line h.0 ∙ one rest h.1
  where
    one : (text : List ℕ) → text ≢ [] → last_line text ≡ text ∷ []
    one [] some = absurd (some refl)
    one (x ∷ text) some = refl

module _ {K : Type 0} (cmp : K → K → Ordering) (matching : K → K → Bool) (reading : List ℕ → Result K KeyError) (printed : K → List ℕ) where
  -- the same lines, behind a text that stands there already
  pub carries-behind : (texts : List (List ℕ)) (s s' : Fabric K) (r r' : Report) (before text : List ℕ)
      → Carries cmp matching reading printed texts s r [] s' r' text → Carries cmp matching reading printed texts s r before s' r' (before ++ text)
  carries-behind texts s s' r r' before text p =
      record { lines = p.lines; are_read = p.are_read; fabric_is = p.fabric_is; totals_are = p.totals_are; text_is = ap (λ t. before ++ t) p.text_is; fit = p.fit }

  -- lines that were carried out, and then lines whose entries have a text
  pub shows-then : (xs ys : List (List ℕ)) (s s1 : Fabric K) (r r1 : Report) (text more : List ℕ)
      → Carries cmp matching reading printed xs s r [] s1 r1 text → Shows cmp matching reading printed ys s1 (r1.lines + 1) more
      → Shows cmp matching reading printed (xs ++ ys) s (r.lines + 1) (text ++ more)
  shows-then xs ys s s1 r r1 text more p q =
      let fabric = fabric_from cmp matching q.lines s1 in
      let totals = with_entries (entries cmp matching q.lines s1) r1 in
      let carried : Carries cmp matching reading printed ys s1 r1 text fabric totals (text ++ more) = record { lines = q.lines; are_read = q.are_read; fabric_is = refl; totals_are = refl; text_is = ap (λ t. text ++ t) q.is_text; fit = q.fit } in
      shows-carried cmp matching reading printed (xs ++ ys) s fabric r totals (text ++ more) (carries-then cmp matching reading printed xs ys s s1 fabric r r1 totals [] text (text ++ more) p carried)

-- a part that comes after bytes that were written whole
pub part-behind : (a b d : Option (List ℕ)) (front bytes : List ℕ) → Appends a b front → AppendsPart b d bytes → AppendsPart a d (front ++ bytes)
part-behind a b d front bytes p q =
    let P : List ℕ → Type 0 = λ t. Appends a d t in
    (length front + q.0, omega (arith, q.1, length-append front bytes), subst P (sym (take-append-add front bytes q.0)) (Appends-trans a b d front (take q.0 bytes) p q.2))

pub on_ok : {T E : Type 0} (r : Result T E) (P : Type 0) → false ≡ is_err r → OnOk r P → P
on_ok (Ok x) P h p = p
on_ok (Err e) P h p = absurd (cc)

pub on_err : {T E : Type 0} (r : Result T E) (P : Type 0) → true ≡ is_err r → OnErr r P → P
on_err (Ok x) P h p = absurd (cc)
on_err (Err e) P h p = p

-- what is printed onto no text
pub printed_alone : {T E : Type 0} (r : Result T E) (text old more : List ℕ) → false ≡ is_err r → text ≡ (if is_ok r then old ++ more else old) → old ≡ [] → text ≡ more
printed_alone (Ok x) text old more h is none = is ∙ ap (λ t. t ++ more) none
printed_alone (Err e) text old more h is none = absurd (cc)

module _ {K : Type 0} (cmp : K → K → Ordering) (matching : K → K → Bool) (reading : List ℕ → Result K KeyError) (printed : K → List ℕ) where
  -- the sink failed at the totals
  pub ends-in-part : (texts : List (List ℕ)) (s s' : Fabric K) (r r' : Report) (a b d : Option (List ℕ)) (bytes : List ℕ) (faults mid faults' : ℕ)
      → Writes cmp matching reading printed texts s r s' r' a b → bytes ≡ report_text r' → AppendsPart b d bytes → faults ≤ mid → HasRisen mid faults'
      → EndsInPart cmp matching reading printed texts s r a d faults faults'
  ends-in-part texts s s' r r' a b d bytes faults mid faults' p is part low risen = record {
    text = p.text;
    last = s';
    totals = r';
    carried = p.carried;
    part = let P : List ℕ → Type 0 = λ t. AppendsPart a d (p.text ++ t) in subst P is (part-behind a b d p.text bytes p.appended part);
    risen = λ h. omega (arith, risen h);
  }
