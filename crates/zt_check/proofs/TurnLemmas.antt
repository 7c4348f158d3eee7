-- Turns, one after another, and the fabric that they show.
use Rattle.std.proofs.Common.{◌≡◌, inl, inr, ℕ, zero, suc, ◌<◌, Bool, true, false, List, [], ◌∷◌, ◌++◌, length, get_or, map, None, Some, Ok, Err, refl, sym, ap, subst, ◌∙◌, arith}
use Rattle.std.specs.Bool.{Decides}
use Rattle.std.specs.Prelude.{Option, nat_lt, if◌then◌else◌}
use Rattle.std.specs.declared.cmp.Ordering.{Ordering}
use Rattle.std.proofs.lemmas.Bool.Decides.{not_from_Decides}
use Rattle.std.proofs.lemmas.Cmp.{tied_itself}
use Rattle.std.specs.Cmp.{IsTotalOrder}
use Rattle.std.specs.Ordering.{is_eq}
use Rattle.std.specs.declared.cmp.Ordering.TheVariants.{Less, Equal, Greater}
use Rattle.zt_protocol.specs.Plain.{PlainEntry, PlainLine, Gateway, Session, Face as FaceLine, Link as LinkLine, Unlink, Step, Speak, Moment, SetTreesAt}
use Rattle.zt_protocol.specs.Refusal.{number_of}
use Rattle.zt_protocol.specs.declared.entries.Sent.{Sent}
use Rattle.zt_protocol.specs.declared.errors.Refusal.{Refusal}
use Rattle.zt_model.specs.Fabric.{CallAt, Fabric, Link, after_hearing, after_refusal, call_of, with_waiting, without_message}
use Rattle.zt_model.specs.Linking.{sending_end, with_taken}
use Rattle.zt_model.specs.Lists.{nth, same}
use Rattle.zt_model.specs.Promises.{SendsFinals, Turn, turns_from}
use Rattle.zt_model.specs.Rows.{Face, Rows}
use Rattle.zt_model.specs.Transcript.{Each, IsEntry, IsRefusedByCause, fabric_shown, fabric_with}
use Rattle.zt_check_fabric.specs.Placed.{IsPlaced}
use Rattle.zt_check_fabric.proofs.Shown.{with_line_placed}
use Rattle.zt_check_keeping.specs.Bounds.{EachPlainFace, KeepsNoLess, KeepsNoMore}
use Rattle.zt_check_keeping.specs.Changed.{held_at, opened_by, tokens_by, unheld_at}
use Rattle.zt_check_keeping.specs.Heard.{heard_by}
use Rattle.zt_check_keeping.specs.Keeping.{are_no_less, are_no_more}
use Rattle.zt_check_keeping.proofs.Bounded.{less_passes, more_passes}
use Rattle.zt_check_keeping.proofs.Nodes.{Lists}
use Rattle.zt_check_keeping.proofs.Turns.{Touches, turn_no_less, turn_no_more}
use Rattle.zt_check_asks.specs.Answering.{asks_are_answered}
use Rattle.zt_check_asks.specs.Calls.{PlainTold, told_of}
use Rattle.zt_check_finals.specs.Ending.{Ended, ended_by_line, finalised_at, touched_at, unopened_by}
use Rattle.zt_check_finals.specs.Finishing.{Unended, finals_are_sent}
use Rattle.zt_check_finals.proofs.FinalTurns.{finals_say, finals_told, refused_finals, refused_unended, unended_after}
use Rattle.zt_check_asks.proofs.Turns.{answers_say, answers_told, refused_answers}
use Rattle.zt_check.specs.Clauses.{Meets}
use Rattle.zt_check.specs.Turns.{IsKept, Tells, TellsOf, first_failed, later, turn_of}
use Rattle.zt_check.specs.declared.verdict.Clause.{Clause}
use Rattle.zt_check.specs.declared.verdict.Clause.TheVariants.{Text, Cause, Upper, Lower, Answers, Finals}

pub each_more : {A : Type 0} (P : A → Type 0) (xs : List A) (y : A) → Each P xs → P y → Each P (xs ++ y ∷ [])
each_more P [] y h last = (last, tt)
each_more P (x ∷ xs) y h last = (h.0, each_more P xs y h.1 last)

-- a member of a list, and what a function makes of it
pub member_mapped : {A B : Type 0} (f : A → B) (xs : List A) (i : ℕ) (x : A) → i < length xs → x ≡ get_or xs i x → f x ≡ get_or (map f xs) i (f x)
member_mapped f [] i x within is = absurd (omega (arith, within))
member_mapped f (y ∷ xs) zero x within is = ap f is
member_mapped f (y ∷ xs) (suc i) x within is = member_mapped f xs i x (omega (arith, within)) is

yes_is_not_no : true ≡ false → ⊥
yes_is_not_no h = cc

module _ {K : Type 0} (cmp : K → K → Ordering) (matching : K → K → Bool) where
  -- the fabric that the first lines show with these entries
  abbrev pub shown_after : List (PlainLine K) → List (PlainEntry K) → Fabric K → Fabric K
  shown_after lines [] s = s
  shown_after [] (entry ∷ entries) s = s
  shown_after (line ∷ lines) (entry ∷ entries) s = shown_after lines entries (fabric_shown cmp matching line entry s)

  pub no_turns : (P : Turn K → Type 0) (lines : List (PlainLine K)) (s : Fabric K) → Each P (turns_from cmp matching lines [] s)
  unfolding turns_from
  no_turns P [] s = tt
  no_turns P (line ∷ lines) s = tt

  pub turns_more : (lines : List (PlainLine K)) (entries : List (PlainEntry K)) (s : Fabric K) (line : PlainLine K) (entry : PlainEntry K) → length entries < length lines → line ≡ get_or lines (length entries) line
      → turns_from cmp matching lines (entries ++ entry ∷ []) s ≡ turns_from cmp matching lines entries s ++ turn_of cmp matching line entry (shown_after lines entries s) ∷ []
  unfolding turns_from
  turns_more [] entries s line entry more is = absurd (omega (arith, more))
  turns_more (first ∷ []) [] s line entry more is = ap (λ (l : PlainLine K). turn_of cmp matching l entry s ∷ []) (sym is)
  turns_more (first ∷ second ∷ lines) [] s line entry more is = ap (λ (l : PlainLine K). turn_of cmp matching l entry s ∷ []) (sym is)
  turns_more (first ∷ lines) (given ∷ entries) s line entry more is =
      ap (λ (ts : List (Turn K)). turn_of cmp matching first given s ∷ ts) (turns_more lines entries (fabric_shown cmp matching first given s) line entry (omega (arith, more)) is)

  pub shown_more : (lines : List (PlainLine K)) (entries : List (PlainEntry K)) (s : Fabric K) (line : PlainLine K) (entry : PlainEntry K) → length entries < length lines → line ≡ get_or lines (length entries) line
      → shown_after lines (entries ++ entry ∷ []) s ≡ fabric_shown cmp matching line entry (shown_after lines entries s)
  shown_more [] entries s line entry more is = absurd (omega (arith, more))
  shown_more (first ∷ lines) [] s line entry more is = none_further lines ∙ ap (λ (l : PlainLine K). fabric_shown cmp matching l entry s) (sym is)
    where
      none_further : (others : List (PlainLine K)) → shown_after others [] (fabric_shown cmp matching first entry s) ≡ fabric_shown cmp matching first entry s
      none_further others = refl
  shown_more (first ∷ lines) (given ∷ entries) s line entry more is = shown_more lines entries (fabric_shown cmp matching first given s) line entry (omega (arith, more)) is

  -- ---- one turn

  -- a line that isn't refused by its cause fails Cause first
  pub tells_cause : (t : Turn K) (b : Bool) → Decides b (IsRefusedByCause cmp matching t.line t.entry t.before) → b ≡ false → IsEntry t.entry → Tells cmp matching t (Some Cause)
  tells_cause t b decides fails text = inr (text, inl (refl, not_from_Decides b decides fails))

  -- one that is meets both, and the others are told by themselves
  pub tells_later : (t : Turn K) (failed : Option Clause) → IsRefusedByCause cmp matching t.line t.entry t.before → IsEntry t.entry → TellsOf cmp matching later t failed → Tells cmp matching t failed
  tells_later t None cause text told = (text, (cause, told))
  tells_later t (Some failed) cause text told = inr (text, inr (cause, told))

  -- ---- the fabric after one turn

  -- what a line itself changes, what is heard then, and what waits
  pub accepted_shown : (line : PlainLine K) (ms : List (Sent K)) (s carried heard waited : Fabric K) → carried ≡ fabric_with cmp matching line ms s → (IsPlaced carried → heard ≡ after_hearing cmp ms carried)
      → waited ≡ with_waiting ms heard → IsPlaced s → waited ≡ fabric_shown cmp matching line (Ok ms) s
  unfolding fabric_shown
  accepted_shown line ms s carried heard waited carries hears waits placed =
      let there : IsPlaced carried = subst IsPlaced (sym carries) (with_line_placed cmp matching line ms s placed) in
      waits ∙ ap (with_waiting ms) (hears there ∙ ap (after_hearing cmp ms) carries)

  pub refused_shown : (line : PlainLine K) (refusal : Refusal) (s : Fabric K) → after_refusal cmp matching line refusal s ≡ fabric_shown cmp matching line (Err refusal) s
  unfolding fabric_shown
  refused_shown line refusal s = refl

  -- ---- what faces keep after one turn

  -- a refused line changes nothing of it
  pub refused_keeps : (P : Rows K → Face K → Type 0) (line : PlainLine K) (refusal : Refusal) (s : Fabric K) → EachPlainFace P s → EachPlainFace P (fabric_shown cmp matching line (Err refusal) s)
  unfolding fabric_shown
  refused_keeps P (Gateway mode zid regions south name timeout refused) refusal s each = each
  refused_keeps P (Session gateway first) refusal s each = each
  refused_keeps P (FaceLine gateway mode zid region bound first) refusal s each = each
  refused_keeps P (LinkLine one two first back) refusal s each = each
  refused_keeps P (Unlink link) refusal s each = each
  refused_keeps P (Step link back) refusal s each = go (nat_lt 3 (number_of refusal))
    where
      taken : (found : Option Link) → EachPlainFace P (elim found [ None ↦ s | Some l ↦ with_taken (sending_end l back) s ])
      taken None = each
      taken (Some l) = each

      go : (b : Bool) → EachPlainFace P (if b then without_message link back s else s)
      go true = taken (nth link s.links)
      go false = each
  refused_keeps P (Speak call) refusal s each = each
  refused_keeps P (Moment gateway now) refusal s each = each
  refused_keeps P (SetTreesAt gateway region table) refusal s each = each

  pub refused_bounds : (line : PlainLine K) (refusal : Refusal) (s : Fabric K) → IsKept cmp matching s → TellsOf cmp matching later (turn_of cmp matching line (Err refusal) s) None
  refused_bounds line refusal s kept = (
    refused_keeps (KeepsNoMore cmp matching) line refusal s kept.no_more,
    (refused_keeps (KeepsNoLess cmp matching) line refusal s kept.no_less, (refused_answers cmp matching line refusal s, (refused_finals cmp matching refusal s line kept.unended, tt))),
  )

  -- no ask has ended after a turn in which those that end get their finals
  pub unended_shown : (line : PlainLine K) (entry : PlainEntry K) (s : Fabric K) → Unended s → SendsFinals cmp matching (turn_of cmp matching line entry s) → Unended (fabric_shown cmp matching line entry s)
  unended_shown line (Ok ms) s unended sends = unended_after cmp matching line ms s sends
  unended_shown line (Err refusal) s unended sends = refused_unended cmp matching refusal s line unended

  -- the tests of the later clauses say what they are to
  bounds_tell : (t : Turn K) (more less answers finals : Bool) → (more ≡ true → Meets cmp matching t Upper) → (Meets cmp matching t Upper → more ≡ true) → (less ≡ true → Meets cmp matching t Lower)
      → (Meets cmp matching t Lower → less ≡ true)
      → (answers ≡ true → Meets cmp matching t Answers) → (Meets cmp matching t Answers → answers ≡ true) → (finals ≡ true → Meets cmp matching t Finals) → (Meets cmp matching t Finals → finals ≡ true) → TellsOf cmp matching later t (first_failed more less answers finals)
  bounds_tell t false less answers finals upper from_upper lower from_lower answered from_answered finished from_finished = inl (refl, λ meets. yes_is_not_no (sym (from_upper meets)))
  bounds_tell t true false answers finals upper from_upper lower from_lower answered from_answered finished from_finished = inr (upper refl, inl (refl, λ meets. yes_is_not_no (sym (from_lower meets))))
  bounds_tell t true true false finals upper from_upper lower from_lower answered from_answered finished from_finished = inr (upper refl, inr (lower refl, inl (refl, λ meets. yes_is_not_no (sym (from_answered meets)))))
  bounds_tell t true true true false upper from_upper lower from_lower answered from_answered finished from_finished =
      inr (upper refl, inr (lower refl, inr (answered refl, inl (refl, λ meets. yes_is_not_no (sym (from_finished meets))))))
  bounds_tell t true true true true upper from_upper lower from_lower answered from_answered finished from_finished = (upper refl, (lower refl, (answered refl, (finished refl, tt))))

  module _ (total : IsTotalOrder cmp) (equal_is_same : (a b : K) → cmp a b ≡ Equal → a ≡ b) where
    itself : (e : K) → same cmp e e ≡ true
    itself e = ap is_eq (tied_itself total e)

    is_equal : (o : Ordering) → is_eq o ≡ true → o ≡ Equal
    is_equal Less h = cc
    is_equal Equal h = refl
    is_equal Greater h = cc

    exact : (a b : K) → same cmp a b ≡ true → a ≡ b
    exact a b h = equal_is_same a b (is_equal (cmp a b) h)

    -- an accepted line, by the lists of what it touches
    pub accepted_bounds : (line : PlainLine K) (ms : List (Sent K)) (s carried after : Fabric K) (found : Option (CallAt K)) (tokens : List (ℕ × K)) (opened : List (ℕ × ℕ)) (held : List (ℕ × ℕ × ℕ)) (unheld : List (ℕ × ℕ)) (heard : List (ℕ × ℕ × K)) (told : PlainTold K) (ended : List Ended) (touched finalised : Option (ℕ × ℕ × ℕ)) (unopened : List ℕ) (more less answers finals : Bool)
        → found ≡ call_of line s → tokens ≡ tokens_by line found s → opened ≡ opened_by line found s → held ≡ held_at found → unheld ≡ unheld_at found
        → carried ≡ fabric_with cmp matching line ms s → heard ≡ heard_by carried ms → after ≡ fabric_shown cmp matching line (Ok ms) s
        → more ≡ are_no_more cmp matching after tokens heard unheld → less ≡ are_no_less cmp matching after tokens heard opened held → told ≡ told_of found ms → answers ≡ asks_are_answered cmp matching carried told
        → ended ≡ ended_by_line line found s → touched ≡ touched_at found → finalised ≡ finalised_at found → unopened ≡ unopened_by s ms → finals ≡ finals_are_sent carried finalised ms ended touched unopened → IsKept cmp matching s
        → TellsOf cmp matching later (turn_of cmp matching line (Ok ms) s) (first_failed more less answers finals)
    accepted_bounds line ms s carried after found tokens opened held unheld heard told ended touched finalised unopened more less answers finals found_is tokens_is opened_is held_is unheld_is carries heard_is shows more_is less_is told_is answers_is ended_is touched_is finalised_is unopened_is finals_is kept =
        let shown = fabric_shown cmp matching line (Ok ms) s in
        let lists : Lists K = record { tokens = tokens; unheld = unheld; opened = opened; held = held } in
        let placed = with_line_placed cmp matching line ms s kept.placed in
        let touches : Touches cmp matching itself exact line ms s lists heard = record {
          tokens = tokens_is ∙ ap (λ at. tokens_by line at s) found_is;
          opened = opened_is ∙ ap (λ at. opened_by line at s) found_is;
          held = held_is ∙ ap held_at found_is;
          unheld = unheld_is ∙ ap unheld_at found_is;
          heard_is = heard_is ∙ ap (λ (x : Fabric K). heard_by x ms) carries;
        } in
        let more_now : more ≡ are_no_more cmp matching shown tokens heard unheld = more_is ∙ ap (λ (x : Fabric K). are_no_more cmp matching x tokens heard unheld) shows in
        let less_now : less ≡ are_no_less cmp matching shown tokens heard opened held = less_is ∙ ap (λ (x : Fabric K). are_no_less cmp matching x tokens heard opened held) shows in
        let told_now : told ≡ told_of (call_of line s) ms = told_is ∙ ap (λ at. told_of at ms) found_is in
        let answers_now : answers ≡ asks_are_answered cmp matching (fabric_with cmp matching line ms s) (told_of (call_of line s) ms) =
        answers_is ∙ (ap (λ (x : Fabric K). asks_are_answered cmp matching x told) carries ∙ ap (asks_are_answered cmp matching (fabric_with cmp matching line ms s)) told_now) in
        let finals_now : finals ≡ finals_are_sent (fabric_with cmp matching line ms s) (finalised_at (call_of line s)) ms (ended_by_line line (call_of line s) s) (touched_at (call_of line s)) (unopened_by s ms) =
        finals_is
        ∙ (ap (λ (x : Fabric K). finals_are_sent x finalised ms ended touched unopened) carries
        ∙ (ap (λ x. finals_are_sent (fabric_with cmp matching line ms s) x ms ended touched unopened) (finalised_is ∙ ap finalised_at found_is)
        ∙ (ap (λ x. finals_are_sent (fabric_with cmp matching line ms s) (finalised_at (call_of line s)) ms x touched unopened) (ended_is ∙ ap (λ at. ended_by_line line at s) found_is)
        ∙ (ap (λ x. finals_are_sent (fabric_with cmp matching line ms s) (finalised_at (call_of line s)) ms (ended_by_line line (call_of line s) s) x unopened) (touched_is ∙ ap touched_at found_is)
        ∙ ap (finals_are_sent (fabric_with cmp matching line ms s) (finalised_at (call_of line s)) ms (ended_by_line line (call_of line s) s) (touched_at (call_of line s))) unopened_is)))) in
        bounds_tell (turn_of cmp matching line (Ok ms) s) more less answers finals
        (λ passes. turn_no_more cmp matching itself exact line ms s lists heard touches placed (sym more_now ∙ passes) kept.no_more)
        (λ meets. more_now ∙ more_passes cmp matching itself exact shown tokens heard unheld meets)
        (λ passes. turn_no_less cmp matching itself exact line ms s lists heard touches placed (sym less_now ∙ passes) kept.no_less)
        (λ meets. less_now ∙ less_passes cmp matching itself exact shown tokens heard opened held meets)
        (λ passes. answers_say cmp matching itself exact line ms s placed (sym answers_now ∙ passes))
        (λ meets. answers_now ∙ answers_told cmp matching itself exact line ms s meets)
        (λ passes. finals_say cmp matching line ms s placed kept.unended (sym finals_now ∙ passes))
        (λ meets. finals_now ∙ finals_told cmp matching line ms s placed meets)
