-- Lemmas on a script that is read line by line.
use Rattle.std.proofs.Common.{◌≡◌, ℕ, ◌+◌, true, List, [], ◌∷◌, ◌++◌, length, map, Result, Ok, is_err, refl, sym, ap, ◌∙◌, append_assoc}
use Rattle.std.proofs.lemmas.List.{append-nil, map-append, length-map}
use Rattle.zt_keys.specs.declared.error.KeyError.{KeyError}
use Rattle.zt_protocol.specs.Plain.{PlainLine}
use Rattle.zt_protocol.specs.declared.errors.LineError.{LineError}
use Rattle.zt_lines.specs.Reading.{line_read}
use Rattle.zt_streams.specs.Lines.{HasNoFeed, lines_of, rest_of}
use Rattle.zt_streams.proofs.LineLemmas.{lines_of-line, rest_of-line, rest_of-none}
use Rattle.zt_check_trace.specs.Script.{AreRead, HasBadLine, LineStops, StopsReading}
use Rattle.zt_check_trace.specs.declared.script.LinesError.{LinesError}
use Rattle.zt_check_trace.specs.declared.script.LinesError.TheVariants as errors

module _ {K : Type 0} (reading : List ℕ → Result K KeyError) where
  -- of these texts the first were read, and the others are the lines of what is left
  pub record IsUnderway (texts : List (List ℕ)) (lines : List (PlainLine K)) (rest : List ℕ) : Type 0 where
    pub done : List (List ℕ)
    pub are_texts : texts ≡ done ++ lines_of rest
    pub are_read : AreRead reading done lines
    pub is_whole : rest_of rest ≡ []

  pub underway_first : (script : List ℕ) → rest_of script ≡ [] → IsUnderway (lines_of script) [] script
  underway_first script whole = record { done = []; are_texts = refl; are_read = refl; is_whole = whole }

  pub underway_next : (texts : List (List ℕ)) (lines : List (PlainLine K)) (rest text behind : List ℕ) (line : PlainLine K) → IsUnderway texts lines rest → HasNoFeed text → rest ≡ text ++ 10 ∷ behind
      → line_read reading text ≡ Ok line → IsUnderway texts (lines ++ line ∷ []) behind
  underway_next texts lines rest text behind line under feedless is read = record {
    done = under.done ++ text ∷ [];
    are_texts =
        under.are_texts
        ∙ ap (λ (others : List (List ℕ)). under.done ++ others) (ap lines_of is ∙ lines_of-line text behind feedless)
        ∙ sym (append_assoc under.done (text ∷ []) (lines_of behind));
    are_read =
        map-append (line_read reading) under.done (text ∷ [])
        ∙ ap (λ (front : List (Result (PlainLine K) LineError)). front ++ line_read reading text ∷ []) under.are_read
        ∙ ap (λ (last : Result (PlainLine K) LineError). map (λ line. Ok line) lines ++ last ∷ []) read
        ∙ sym (map-append (λ line. Ok line) lines (line ∷ []));
    is_whole = sym (ap rest_of is ∙ rest_of-line text behind) ∙ under.is_whole;
  }

  pub underway_last : (texts : List (List ℕ)) (lines : List (PlainLine K)) (rest : List ℕ) → IsUnderway texts lines rest → HasNoFeed rest → AreRead reading texts lines
  underway_last texts lines rest under feedless =
      let nothing : rest ≡ [] = sym (rest_of-none rest feedless) ∙ under.is_whole in
      ap (map (line_read reading)) (under.are_texts ∙ ap (λ (r : List ℕ). under.done ++ lines_of r) nothing ∙ append-nil under.done) ∙ under.are_read

  pub underway_bad : (texts : List (List ℕ)) (lines : List (PlainLine K)) (rest text behind : List ℕ) (number : ℕ) → IsUnderway texts lines rest → HasNoFeed text → rest ≡ text ++ 10 ∷ behind
      → is_err (line_read reading text) ≡ true → number ≡ length lines + 1 → HasBadLine reading texts number
  underway_bad texts lines rest text behind number under feedless is bad counted = record {
    before = under.done;
    lines = lines;
    bad = text;
    others = lines_of behind;
    are_texts =
        under.are_texts
        ∙ ap (λ (others : List (List ℕ)). under.done ++ others) (ap lines_of is ∙ lines_of-line text behind feedless)
        ∙ sym (append_assoc under.done (text ∷ []) (lines_of behind));
    are_read = under.are_read;
    is_bad = bad;
    is_number = counted ∙ ap (λ (n : ℕ). n + 1) (sym (length-map lines (λ line. Ok line)) ∙ (ap length (sym under.are_read) ∙ length-map under.done (line_read reading)));
  }

  pub stops_underway : (texts : List (List ℕ)) (lines : List (PlainLine K)) (rest text behind : List ℕ) (number : ℕ) (error : LinesError) → IsUnderway texts lines rest → HasNoFeed text → rest ≡ text ++ 10 ∷ behind
      → number ≡ length lines + 1 → LineStops reading text number error → StopsReading reading texts error
  stops_underway texts lines rest text behind number (errors.BadLine n) under feedless is counted h = underway_bad texts lines rest text behind n under feedless is h.0 (h.1 ∙ counted)
  stops_underway texts lines rest text behind number errors.Memory under feedless is counted h = tt
