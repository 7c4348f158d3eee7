-- Lines joined again: the lines of a text have no feed, and with their feeds they are the text.
use Rattle.std.proofs.Common.{◌≡◌, ℕ, true, false, ◌||◌, List, ◌∷◌, [], ◌++◌, refl, sym, ap, ◌∙◌}
use Rattle.std.specs.List.{All, list_any, onto_first, flat_map}
use Rattle.std.proofs.lemmas.Bool.{eqb-true}
use Rattle.std.proofs.lemmas.List.{append_assoc}
use Rattle.std.proofs.lemmas.List.Concat.{flat_map-cons}
use Rattle.std.proofs.lemmas.List.Elements.{All-nil, All-cons, All-head, All-tail, All-same}
use Rattle.zt_streams.specs.Lines.{is_feed, lines_of, onto_line, whole_lines, rest_of, with_feed, HasNoFeed}
use Rattle.zt_streams.proofs.LineLemmas.{by_test, or_true, begins_with_line, lines_of-byte, lines_of-feed, whole_lines-byte, whole_lines-feed, rest_of-byte, whole_lines-none, rest_of-none, lines_of-line, whole_lines-line, rest_of-line}

-- a line before others, with their feeds
joined-cons : (line : List ℕ) (lines : List (List ℕ)) → flat_map with_feed (line ∷ lines) ≡ line ++ 10 ∷ flat_map with_feed lines
joined-cons line lines = flat_map-cons with_feed line lines ∙ append_assoc line (10 ∷ []) (flat_map with_feed lines)

-- lines with no feed, joined, are the lines of what they make
pub lines_of-joined : (lines : List (List ℕ)) → All HasNoFeed lines → lines_of (flat_map with_feed lines) ≡ lines
lines_of-joined [] h = refl
lines_of-joined (line ∷ lines) h =
    ap lines_of (joined-cons line lines) ∙ lines_of-line line (flat_map with_feed lines) (All-head HasNoFeed line lines h)
    ∙ ap (λ ls. line ∷ ls) (lines_of-joined lines (All-tail HasNoFeed line lines h))

pub whole_lines-joined : (lines : List (List ℕ)) → All HasNoFeed lines → whole_lines (flat_map with_feed lines) ≡ lines
whole_lines-joined [] h = refl
whole_lines-joined (line ∷ lines) h =
    ap whole_lines (joined-cons line lines) ∙ whole_lines-line line (flat_map with_feed lines) (All-head HasNoFeed line lines h)
    ∙ ap (λ ls. line ∷ ls) (whole_lines-joined lines (All-tail HasNoFeed line lines h))

pub rest_of-joined : (lines : List (List ℕ)) → rest_of (flat_map with_feed lines) ≡ []
rest_of-joined [] = refl
rest_of-joined (line ∷ lines) = ap rest_of (joined-cons line lines) ∙ rest_of-line line (flat_map with_feed lines) ∙ rest_of-joined lines

-- a text is its whole lines with their feeds, and then its rest
pub joined-whole_lines : (text : List ℕ) → text ≡ flat_map with_feed (whole_lines text) ++ rest_of text
joined-whole_lines [] = refl
joined-whole_lines (x ∷ text) = by_test (list_any is_feed (x ∷ text))
    (λ found. ap (λ later. x ∷ later) (joined-whole_lines text) ∙ by_test (is_feed x)
    (λ feed.
    ap (λ byte. byte ∷ flat_map with_feed (whole_lines text) ++ rest_of text) (eqb-true x 10 feed)
    ∙ ap (λ front. front ++ rest_of text) (sym (joined-cons [] (whole_lines text)))
    ∙ ap (λ ls. flat_map with_feed ls ++ rest_of text) (sym (whole_lines-feed x text feed)) ∙ same_rest found)
    (λ byte.
    let begins = begins_with_line text (or_true (is_feed x) (list_any is_feed text) found byte) in
    ap (λ ls. x ∷ flat_map with_feed ls ++ rest_of text) begins.are
    ∙ ap (λ front. x ∷ front ++ rest_of text) (joined-cons begins.first begins.others)
    ∙ ap (λ front. front ++ rest_of text) (sym (joined-cons (x ∷ begins.first) begins.others))
    ∙ ap (λ ls. flat_map with_feed (onto_line x ls) ++ rest_of text) (sym begins.are)
    ∙ ap (λ ls. flat_map with_feed ls ++ rest_of text) (sym (whole_lines-byte x text byte)) ∙ same_rest found))
    (λ lacks. sym (rest_of-none (x ∷ text) lacks) ∙ ap (λ ls. flat_map with_feed ls ++ rest_of (x ∷ text)) (sym (whole_lines-none (x ∷ text) lacks)))
  where
    same_rest : list_any is_feed (x ∷ text) ≡ true → flat_map with_feed (whole_lines (x ∷ text)) ++ rest_of text ≡ flat_map with_feed (whole_lines (x ∷ text)) ++ rest_of (x ∷ text)
    same_rest found = ap (λ r. flat_map with_feed (whole_lines (x ∷ text)) ++ r) (sym (rest_of-byte x text found))

-- a byte that is no feed, before a line that has none
no_feed-cons : (x : ℕ) (line : List ℕ) → is_feed x ≡ false → HasNoFeed line → HasNoFeed (x ∷ line)
no_feed-cons x line byte h = ap (λ t. t || list_any is_feed line) byte ∙ h

-- no line has a feed
pub All-whole_lines : (text : List ℕ) → All HasNoFeed (whole_lines text)
All-whole_lines [] = All-nil HasNoFeed
All-whole_lines (x ∷ text) = by_test (is_feed x)
    (λ feed. All-same HasNoFeed _ _ (whole_lines-feed x text feed) (All-cons HasNoFeed [] (whole_lines text) refl (All-whole_lines text)))
    (λ byte. All-same HasNoFeed _ _ (whole_lines-byte x text byte) (onto (whole_lines text) byte (All-whole_lines text)))
  where
    onto : (lines : List (List ℕ)) → is_feed x ≡ false → All HasNoFeed lines → All HasNoFeed (onto_line x lines)
    onto [] byte h = All-nil HasNoFeed
    onto (line ∷ lines) byte h = All-cons HasNoFeed (x ∷ line) lines (no_feed-cons x line byte (All-head HasNoFeed line lines h)) (All-tail HasNoFeed line lines h)

pub All-lines_of : (text : List ℕ) → All HasNoFeed (lines_of text)
All-lines_of [] = All-nil HasNoFeed
All-lines_of (x ∷ text) = by_test (is_feed x)
    (λ feed. All-same HasNoFeed _ _ (lines_of-feed x text feed) (All-cons HasNoFeed [] (lines_of text) refl (All-lines_of text)))
    (λ byte. All-same HasNoFeed _ _ (lines_of-byte x text byte) (onto (lines_of text) byte (All-lines_of text)))
  where
    onto : (lines : List (List ℕ)) → is_feed x ≡ false → All HasNoFeed lines → All HasNoFeed (onto_first x lines)
    onto [] byte h = All-cons HasNoFeed (x ∷ []) [] (no_feed-cons x [] byte refl) (All-nil HasNoFeed)
    onto (line ∷ lines) byte h = All-cons HasNoFeed (x ∷ line) lines (no_feed-cons x line byte (All-head HasNoFeed line lines h)) (All-tail HasNoFeed line lines h)
