-- Lemmas on an input that is cut at its first line `---`.
use Rattle.std.proofs.Common.{◌≡◌, inl, inr, ℕ, ◌+◌, ◌-◌, ◌≤◌, false, ◌||◌, List, [], ◌∷◌, ◌++◌, length, take, drop, Some, None, refl, sym, ap, subst, ◌∙◌, arith}
use Rattle.std.specs.declared.option.Option.{Option}
use Rattle.std.specs.Prelude.{codes}
use Rattle.std.specs.List.{list_any}
use Rattle.std.proofs.lemmas.List.{append-nil, take_rest, take-append-drop, length-append, length-drop}
use Rattle.std.proofs.lemmas.List.Folds.{list_any-append}
use Rattle.std.proofs.Math.Seq.{take-add, take-append-add}
use Rattle.memchr.specs.Find.{IsFirstByte, is_byte}
use Rattle.zt_streams.specs.Lines.{HasNoFeed, lines_of, whole_lines, rest_of, last_line}
use Rattle.zt_streams.specs.Feeding.{StandsAt}
use Rattle.zt_streams.proofs.FeedLemmas.{FindsFeed-from_search}
use Rattle.zt_streams.proofs.LineLemmas.{lines_of-append, lines_of-line, lines_of-none, lines_of-parts, rest_of-append, rest_of-line}
use Rattle.zt_check_trace.specs.Parts.{IsCut, is_end_of_script}

-- ---- a text's first line

searched : (text : List ℕ) (found : Option ℕ) → IsFirstByte (is_byte 10) text found → IsFirstByte (is_byte 10) (take (length text - 0) (drop 0 text)) found
searched text found h = subst (λ t. IsFirstByte (is_byte 10) t found) (sym (take_rest text 0)) h

pub line_none : (text : List ℕ) → IsFirstByte (is_byte 10) text None → HasNoFeed text
line_none text h = FindsFeed-from_search text 0 None (omega arith) (searched text None h)

pub line_found : (text : List ℕ) (place : ℕ) → IsFirstByte (is_byte 10) text (Some place)
    → HasNoFeed (take place text) × (text ≡ take place text ++ 10 ∷ take (length text - (place + 1)) (drop (place + 1) text))
line_found text place h =
    let same : 0 + place ≡ place = omega arith in
    let none : place - 0 ≡ place = omega arith in
    let at : StandsAt text 0 place = subst (λ (p : ℕ). StandsAt text 0 p) same (FindsFeed-from_search text 0 (Some place) (omega arith) (searched text (Some place) h)) in
    (subst (λ (n : ℕ). HasNoFeed (take n text)) none at.before, sym (take-append-drop place text) ∙ ap (λ rest. take place text ++ rest) (at.feed ∙ ap (λ rest. 10 ∷ rest) (sym (take_rest text (place + 1)))))

-- ---- lines that were passed

-- the lines before a place are whole, and none of them ends the script
pub record IsPassed (input : List ℕ) (start : ℕ) : Type 0 where
  pub within : start ≤ length input
  pub is_whole : rest_of (take start input) ≡ []
  pub has_no_end : list_any is_end_of_script (lines_of (take start input)) ≡ false

lines_behind_whole : (a b : List ℕ) → rest_of a ≡ [] → lines_of (a ++ b) ≡ lines_of a ++ lines_of b
lines_behind_whole a b whole =
    lines_of-append a b
    ∙ ap (λ rest. whole_lines a ++ lines_of (rest ++ b)) whole
    ∙ ap (λ lines. lines ++ lines_of b) (sym (lines_of-parts a ∙ ap (λ rest. whole_lines a ++ last_line rest) whole ∙ append-nil (whole_lines a)))

no_end_behind : (a b : List ℕ) → rest_of a ≡ [] → list_any is_end_of_script (lines_of a) ≡ false → list_any is_end_of_script (lines_of b) ≡ false → list_any is_end_of_script (lines_of (a ++ b)) ≡ false
no_end_behind a b whole p q =
    ap (list_any is_end_of_script) (lines_behind_whole a b whole)
    ∙ list_any-append is_end_of_script (lines_of a) (lines_of b)
    ∙ ap (λ t. t || list_any is_end_of_script (lines_of b)) p
    ∙ q

pub passed_none : (input : List ℕ) → IsPassed input 0
passed_none input = record { within = omega arith; is_whole = refl; has_no_end = refl }

-- what is left, with the slice's bounds
rest_is : (input : List ℕ) (start : ℕ) → take (length input - start) (drop start input) ≡ drop start input
rest_is input start = take_rest input start

input_is : (input : List ℕ) (start : ℕ) (rest : List ℕ) → take (length input - start) (drop start input) ≡ rest → input ≡ take start input ++ rest
input_is input start rest h = sym (take-append-drop start input) ∙ ap (λ (t : List ℕ). take start input ++ t) (sym (rest_is input start) ∙ h)

pub left_behind : (input : List ℕ) (start : ℕ) (line behind : List ℕ) → start ≤ length input → take (length input - start) (drop start input) ≡ line ++ 10 ∷ behind
    → start + (length line + 1) ≤ length input
left_behind input start line behind within h =
    omega (arith, length-drop start input, ap length (sym (rest_is input start) ∙ h), length-append line (10 ∷ behind))

front_is : (input : List ℕ) (start : ℕ) (line behind : List ℕ) → take (length input - start) (drop start input) ≡ line ++ 10 ∷ behind
    → take (start + (length line + 1)) input ≡ take start input ++ (line ++ 10 ∷ [])
front_is input start line behind h =
    take-add start (length line + 1) input
    ∙ ap (λ (t : List ℕ). take start input ++ take (length line + 1) t) (sym (rest_is input start) ∙ h)
    ∙ ap (λ (t : List ℕ). take start input ++ t) (line_taken line behind)
  where
    line_taken : (line behind : List ℕ) → take (length line + 1) (line ++ 10 ∷ behind) ≡ line ++ 10 ∷ []
    line_taken line behind = take-append-add line (10 ∷ behind) 1

pub passed_line : (input : List ℕ) (start : ℕ) (line behind : List ℕ) → IsPassed input start → HasNoFeed line → take (length input - start) (drop start input) ≡ line ++ 10 ∷ behind
    → is_end_of_script line ≡ false → IsPassed input (start + (length line + 1))
passed_line input start line behind passed feedless h other = record {
  within = left_behind input start line behind passed.within h;
  is_whole =
      ap rest_of (front_is input start line behind h)
      ∙ rest_of-append (take start input) (line ++ 10 ∷ [])
      ∙ ap (λ (rest : List ℕ). rest_of (rest ++ (line ++ 10 ∷ []))) passed.is_whole
      ∙ rest_of-line line [];
  has_no_end =
      ap (λ (text : List ℕ). list_any is_end_of_script (lines_of text)) (front_is input start line behind h)
      ∙ no_end_behind (take start input) (line ++ 10 ∷ []) passed.is_whole passed.has_no_end
      (ap (list_any is_end_of_script) (lines_of-line line [] feedless) ∙ ap (λ t. t || false) other);
}

-- ---- the cut

pub cut_at : (input : List ℕ) (start : ℕ) (line behind : List ℕ) → IsPassed input start → take (length input - start) (drop start input) ≡ line ++ 10 ∷ behind
    → line ≡ codes "---" → IsCut input (take start input) behind
cut_at input start line behind passed h mark = record {
  is_whole = passed.is_whole;
  is_first = passed.has_no_end;
  parts = inl (input_is input start (codes "---" ++ 10 ∷ behind) (h ∙ ap (λ (t : List ℕ). t ++ 10 ∷ behind) mark));
}

pub cut_last : (input : List ℕ) (start : ℕ) → IsPassed input start → take (length input - start) (drop start input) ≡ codes "---" → IsCut input (take start input) []
cut_last input start passed mark = record {
  is_whole = passed.is_whole;
  is_first = passed.has_no_end;
  parts = inr (input_is input start (codes "---") mark, refl);
}

last_has_no_end : (rest : List ℕ) → is_end_of_script rest ≡ false → list_any is_end_of_script (last_line rest) ≡ false
last_has_no_end [] h = refl
last_has_no_end (byte ∷ rest) h = ap (λ t. t || false) h

pub cut_none : (input : List ℕ) (start : ℕ) (rest : List ℕ) → IsPassed input start → take (length input - start) (drop start input) ≡ rest → HasNoFeed rest → is_end_of_script rest ≡ false
    → list_any is_end_of_script (lines_of input) ≡ false
cut_none input start rest passed h feedless other =
    ap (λ (text : List ℕ). list_any is_end_of_script (lines_of text)) (input_is input start rest h)
    ∙ no_end_behind (take start input) rest passed.is_whole passed.has_no_end
    (ap (list_any is_end_of_script) (lines_of-none rest feedless) ∙ last_has_no_end rest other)
