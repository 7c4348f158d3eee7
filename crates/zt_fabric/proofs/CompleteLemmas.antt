-- A complete script has no bad line and is not too long.
use Rattle.std.proofs.Common.{◌≡◌, ◌⊎◌, ℕ, Bool, true, false, List, [], ◌∷◌, ◌++◌, length, take, drop, map, Option, Some, None, Result, Ok, Err, IsOkUnless, is_err, inl, inr, refl, sym, ap, ◌∙◌, arith, append_assoc, append-nil, length-append, take-append-drop}
use Rattle.std.specs.declared.cmp.Ordering.{Ordering}
use Rattle.std.specs.Io.KnownBytes.{Consumes, IsAtEnd}
use Rattle.zt_keys.specs.declared.error.KeyError.{KeyError}
use Rattle.zt_streams.specs.Lines.{lines_of, rest_of}
use Rattle.zt_streams.proofs.LineLemmas.{lines_of-append}
use Rattle.zt_protocol.specs.Plain.{PlainLine}
use Rattle.zt_protocol.specs.declared.entries.Report.{Report}
use Rattle.zt_protocol.specs.declared.errors.RunError.{RunError}
use Rattle.zt_protocol.specs.declared.errors.RunError.TheVariants as errors
use Rattle.zt_lines.specs.Reading.{line_read}
use Rattle.zt_fabric.specs.Transcripts.{Answers, BeginsWith, GivesComplete, HasNoFault, IsComplete, Streams, most_bytes, status_of}

-- what was read of a text, and what is left of it
record Front (text read : List ℕ) (left : Option (List ℕ)) : Type 0 where
  rest : List ℕ
  left_is : left ≡ Some rest
  is : text ≡ read ++ rest

front_of : (a left : Option (List ℕ)) (text read : List ℕ) → a ≡ Some text → Consumes a left read → Front text read left
front_of None left text read h p = absurd (cc)
front_of (Some x) None text read h p = absurd p
front_of (Some x) (Some rest) text read h p = let same : x ≡ text = cc in record { rest = rest; left_is = refl; is = sym same ∙ p }

nothing_left : (left : Option (List ℕ)) (rest : List ℕ) → left ≡ Some rest → IsAtEnd left → rest ≡ []
nothing_left None rest h e = absurd (cc)
nothing_left (Some x) rest h e = let same : x ≡ rest = cc in sym same ∙ e

-- what was read of a text up to its end
pub read_whole : (a left : Option (List ℕ)) (text read : List ℕ) → a ≡ Some text → Consumes a left read → IsAtEnd left → read ≡ text
read_whole a left text read h taken at_end =
    let front = front_of a left text read h taken in
    sym (front.is ∙ ap (λ t. read ++ t) (nothing_left left front.rest front.left_is at_end) ∙ append-nil read)

module _ {K : Type 0} (reading : List ℕ → Result K KeyError) where
  -- no line is bad
  no_bad_line : (before others : List (List ℕ)) (bad : List ℕ) (lines : List (PlainLine K))
      → map (line_read reading) ((before ++ bad ∷ []) ++ others) ≡ map (λ line. Ok line) lines → is_err (line_read reading bad) ≡ true → ⊥
  no_bad_line [] others bad [] h e = cc
  no_bad_line [] others bad (line ∷ lines) h e =
      let read : line_read reading bad ≡ Ok line = cc in
      let good : is_err (line_read reading bad) ≡ false = ap is_err read in
      cc
  no_bad_line (text ∷ before) others bad [] h e = cc
  no_bad_line (text ∷ before) others bad (line ∷ lines) h e =
      let rest : map (line_read reading) ((before ++ bad ∷ []) ++ others) ≡ map (λ line. Ok line) lines = cc in
      no_bad_line before others bad lines rest e

  -- the first lines of what was read are the first of the text
  first_lines : (text read : List ℕ) (left : Option (List ℕ)) (texts : List (List ℕ)) → Front text read left → BeginsWith left read texts
      → (others : List (List ℕ)) × (lines_of text ≡ texts ++ others)
  first_lines text read left texts p (inl q) =
      let front = take most_bytes read in
      let later = drop most_bytes read ++ p.rest in
      let is : text ≡ front ++ later = p.is ∙ ap (λ t. t ++ p.rest) (sym (take-append-drop most_bytes read)) ∙ append_assoc front (drop most_bytes read) p.rest in
      let more = lines_of (rest_of front ++ later) in
      (q.0 ++ more, ap lines_of is ∙ lines_of-append front later ∙ ap (λ ls. ls ++ more) q.1 ∙ append_assoc texts q.0 more)
  first_lines text read left texts p (inr q) =
      let whole : text ≡ read = p.is ∙ ap (λ t. read ++ t) (nothing_left left p.rest p.left_is q.1) ∙ append-nil read in
      (q.0, ap lines_of whole ∙ q.3)

  module _ (cmp : K → K → Ordering) (matching : K → K → Bool) (printed : K → List ℕ) where
    carried_out : (old new : Streams) (text : List ℕ) (result : Result Report RunError) → Answers cmp matching reading printed old new result
        → old.left ≡ Some text → IsComplete reading text → HasNoFault old new → IsOkUnless result errors.Alloc
    carried_out old new text (Ok report) p h complete calm = tt
    carried_out old new text (Err (errors.BadLine n)) p h complete calm =
        let first = first_lines text p.read new.left (p.before ++ p.bad ∷ []) (front_of old.left new.left text p.read h p.taken) p.first in
        let read : map (line_read reading) ((p.before ++ p.bad ∷ []) ++ first.0) ≡ map (λ line. Ok line) complete.lines = ap (map (line_read reading)) (sym first.1) ∙ complete.are_read in
        absurd (no_bad_line p.before first.0 p.bad complete.lines read p.is_bad)
    carried_out old new text (Err errors.TooLong) p h complete calm =
        let front = front_of old.left new.left text p.read h p.taken in
        absurd (omega (arith, p.longer, complete.fits, ap length front.is, length-append p.read front.rest))
    carried_out old new text (Err errors.ReadFault) p h complete calm = absurd (calm.0 p.risen)
    carried_out old new text (Err errors.WriteFault) p h complete calm = absurd (calm.1 p.risen)
    carried_out old new text (Err errors.Alloc) p h complete calm = refl

    -- a complete script is carried out to its end unless memory runs out
    pub complete : (old new : Streams) (result : Result Report RunError) → Answers cmp matching reading printed old new result → GivesComplete reading old new → IsOkUnless result errors.Alloc
    complete old new result p h = carried_out old new h.0 result p h.1 h.2 h.3

    pub complete_status : (old new : Streams) (result : Result Report RunError) (status : ℕ) → status ≡ status_of result → Answers cmp matching reading printed old new result
        → GivesComplete reading old new → (status ≡ 0) ⊎ (status ≡ 5)
    complete_status old new result status is p h = by_answer result is (complete old new result p h)
      where
        by_answer : (r : Result Report RunError) → status ≡ status_of r → IsOkUnless r errors.Alloc → (status ≡ 0) ⊎ (status ≡ 5)
        by_answer (Ok report) e alloc = inl e
        by_answer (Err error) e alloc = inr (e ∙ ap (λ x. status_of (Err x)) alloc)
