-- The laws of lines: what a text's lines and rest are when it grows, and when a line is taken off its front.
use Rattle.std.proofs.Common.{◌≡◌, ◌≢◌, ℕ, Bool, true, false, cond, ◌||◌, ◌+◌, ◌<◌, List, ◌∷◌, [], ◌++◌, length, take, get_or, map, slice_get, None, Some, refl, sym, ap, ◌∙◌}
use Rattle.std.specs.declared.option.Option.{Option}
use Rattle.std.specs.List.{list_any, onto_first, flat_map}
use Rattle.std.proofs.lemmas.List.{append_assoc, append-nil, map-append, take_more}
use Rattle.std.proofs.lemmas.Grind.{flat_map-append}
use Rattle.std.proofs.lemmas.List.Folds.{list_any-append}
use Rattle.zt_streams.specs.Lines.{is_feed, lines_of, onto_line, whole_lines, rest_of, last_line, HasNoFeed, TakesLine, TakesRest}

-- by cases on a test
pub by_test : {P : Type 0} (b : Bool) → (b ≡ true → P) → (b ≡ false → P) → P
by_test true found lacks = found refl
by_test false found lacks = lacks refl

pub or_false : (a b : Bool) → (a || b) ≡ false → (a ≡ false) × (b ≡ false)
or_false false b h = (refl, h)
or_false true b h = absurd (cc)

pub or_true : (a b : Bool) → (a || b) ≡ true → a ≡ false → b ≡ true
or_true false b h e = h
or_true true b h e = cc

-- ---- one byte

pub lines_of-feed : (x : ℕ) (text : List ℕ) → is_feed x ≡ true → lines_of (x ∷ text) ≡ [] ∷ lines_of text
lines_of-feed x text h = ap (λ t. cond t ([] ∷ lines_of text) (onto_first x (lines_of text))) h

pub lines_of-byte : (x : ℕ) (text : List ℕ) → is_feed x ≡ false → lines_of (x ∷ text) ≡ onto_first x (lines_of text)
lines_of-byte x text h = ap (λ t. cond t ([] ∷ lines_of text) (onto_first x (lines_of text))) h

pub whole_lines-feed : (x : ℕ) (text : List ℕ) → is_feed x ≡ true → whole_lines (x ∷ text) ≡ [] ∷ whole_lines text
whole_lines-feed x text h = ap (λ t. cond t ([] ∷ whole_lines text) (onto_line x (whole_lines text))) h

pub whole_lines-byte : (x : ℕ) (text : List ℕ) → is_feed x ≡ false → whole_lines (x ∷ text) ≡ onto_line x (whole_lines text)
whole_lines-byte x text h = ap (λ t. cond t ([] ∷ whole_lines text) (onto_line x (whole_lines text))) h

pub rest_of-byte : (x : ℕ) (text : List ℕ) → list_any is_feed (x ∷ text) ≡ true → rest_of (x ∷ text) ≡ rest_of text
rest_of-byte x text h = ap (λ t. cond t (rest_of text) (x ∷ text)) h

-- a feed in the front is a feed in the whole
has_feed-append : (a b : List ℕ) → list_any is_feed a ≡ true → list_any is_feed (a ++ b) ≡ true
has_feed-append a b h = list_any-append is_feed a b ∙ ap (λ t. t || list_any is_feed b) h

-- ---- a text with no feed is a rest

pub whole_lines-none : (text : List ℕ) → HasNoFeed text → whole_lines text ≡ []
whole_lines-none [] h = refl
whole_lines-none (x ∷ text) h =
    let parts = or_false (is_feed x) (list_any is_feed text) h in
    whole_lines-byte x text parts.0 ∙ ap (onto_line x) (whole_lines-none text parts.1)

pub rest_of-none : (text : List ℕ) → HasNoFeed text → rest_of text ≡ text
rest_of-none [] h = refl
rest_of-none (x ∷ text) h = ap (λ t. cond t (rest_of text) (x ∷ text)) h

onto_first-last_line : (x : ℕ) (rest : List ℕ) → onto_first x (last_line rest) ≡ (x ∷ rest) ∷ []
onto_first-last_line x [] = refl
onto_first-last_line x (y ∷ rest) = refl

pub lines_of-none : (text : List ℕ) → HasNoFeed text → lines_of text ≡ last_line text
lines_of-none [] h = refl
lines_of-none (x ∷ text) h =
    let parts = or_false (is_feed x) (list_any is_feed text) h in
    lines_of-byte x text parts.0 ∙ ap (onto_first x) (lines_of-none text parts.1) ∙ onto_first-last_line x text

-- ---- a text with a feed begins with a whole line

pub record BeginsWithLine (text : List ℕ) : Type 0 where
  pub first : List ℕ
  pub others : List (List ℕ)
  pub are : whole_lines text ≡ first ∷ others

pub begins_with_line : (text : List ℕ) → list_any is_feed text ≡ true → BeginsWithLine text
begins_with_line [] h = absurd (cc)
begins_with_line (x ∷ text) h = by_test (is_feed x)
    (λ found. record { first = []; others = whole_lines text; are = whole_lines-feed x text found })
    (λ lacks.
    let later = begins_with_line text (or_true (is_feed x) (list_any is_feed text) h lacks) in
    record { first = x ∷ later.first; others = later.others; are = whole_lines-byte x text lacks ∙ ap (onto_line x) later.are })

-- a text of which no line is whole has no feed
pub HasNoFeed-from_whole_lines : (text : List ℕ) → whole_lines text ≡ [] → HasNoFeed text
HasNoFeed-from_whole_lines text h = by_test (list_any is_feed text)
    (λ found. let begins = begins_with_line text found in let e = begins.are in absurd (cc))
    (λ lacks. lacks)

-- ---- a line and its feed at the front

pub whole_lines-line : (line text : List ℕ) → HasNoFeed line → whole_lines (line ++ 10 ∷ text) ≡ line ∷ whole_lines text
whole_lines-line [] text h = refl
whole_lines-line (x ∷ line) text h =
    let parts = or_false (is_feed x) (list_any is_feed line) h in
    whole_lines-byte x (line ++ 10 ∷ text) parts.0 ∙ ap (onto_line x) (whole_lines-line line text parts.1)

pub lines_of-line : (line text : List ℕ) → HasNoFeed line → lines_of (line ++ 10 ∷ text) ≡ line ∷ lines_of text
lines_of-line [] text h = refl
lines_of-line (x ∷ line) text h =
    let parts = or_false (is_feed x) (list_any is_feed line) h in
    lines_of-byte x (line ++ 10 ∷ text) parts.0 ∙ ap (onto_first x) (lines_of-line line text parts.1)

pub rest_of-line : (line text : List ℕ) → rest_of (line ++ 10 ∷ text) ≡ rest_of text
rest_of-line [] text = refl
rest_of-line (x ∷ line) text =
    let feed : list_any is_feed (x ∷ line ++ 10 ∷ text) ≡ true =
    list_any-append is_feed (x ∷ line) (10 ∷ text) ∙ or_right (list_any is_feed (x ∷ line)) in
    rest_of-byte x (line ++ 10 ∷ text) feed ∙ rest_of-line line text
  where
    or_right : (t : Bool) → (t || true) ≡ true
    or_right true = refl
    or_right false = refl

-- ---- a text in two pieces

pub rest_of-append : (a b : List ℕ) → rest_of (a ++ b) ≡ rest_of (rest_of a ++ b)
rest_of-append [] b = refl
rest_of-append (x ∷ a) b = by_test (list_any is_feed (x ∷ a))
    (λ found. rest_of-byte x (a ++ b) (has_feed-append (x ∷ a) b found) ∙ rest_of-append a b ∙ ap (λ r. rest_of (r ++ b)) (sym (rest_of-byte x a found)))
    (λ lacks. ap (λ r. rest_of (r ++ b)) (sym (rest_of-none (x ∷ a) lacks)))

pub whole_lines-append : (a b : List ℕ) → whole_lines (a ++ b) ≡ whole_lines a ++ whole_lines (rest_of a ++ b)
whole_lines-append [] b = refl
whole_lines-append (x ∷ a) b = by_test (list_any is_feed (x ∷ a))
    (λ found. by_test (is_feed x)
    (λ feed. whole_lines-feed x (a ++ b) feed ∙ ap (λ ls. [] ∷ ls) (whole_lines-append a b)
    ∙ ap (λ ls. ls ++ whole_lines (rest_of a ++ b)) (sym (whole_lines-feed x a feed)) ∙ same_rest found)
    (λ byte.
    let begins = begins_with_line a (or_true (is_feed x) (list_any is_feed a) found byte) in
    whole_lines-byte x (a ++ b) byte ∙ ap (onto_line x) (whole_lines-append a b)
    ∙ ap (λ ls. onto_line x (ls ++ whole_lines (rest_of a ++ b))) begins.are
    ∙ ap (λ ls. onto_line x ls ++ whole_lines (rest_of a ++ b)) (sym begins.are)
    ∙ ap (λ ls. ls ++ whole_lines (rest_of a ++ b)) (sym (whole_lines-byte x a byte)) ∙ same_rest found))
    (λ lacks. ap (λ r. whole_lines (r ++ b)) (sym (rest_of-none (x ∷ a) lacks))
    ∙ ap (λ ls. ls ++ whole_lines (rest_of (x ∷ a) ++ b)) (sym (whole_lines-none (x ∷ a) lacks)))
  where
    same_rest : list_any is_feed (x ∷ a) ≡ true → whole_lines (x ∷ a) ++ whole_lines (rest_of a ++ b) ≡ whole_lines (x ∷ a) ++ whole_lines (rest_of (x ∷ a) ++ b)
    same_rest found = ap (λ r. whole_lines (x ∷ a) ++ whole_lines (r ++ b)) (sym (rest_of-byte x a found))

-- the lines of a text are its whole lines, and then its rest unless that is empty
pub lines_of-parts : (text : List ℕ) → lines_of text ≡ whole_lines text ++ last_line (rest_of text)
lines_of-parts [] = refl
lines_of-parts (x ∷ text) = by_test (list_any is_feed (x ∷ text))
    (λ found. by_test (is_feed x)
    (λ feed. lines_of-feed x text feed ∙ ap (λ ls. [] ∷ ls) (lines_of-parts text)
    ∙ ap (λ ls. ls ++ last_line (rest_of text)) (sym (whole_lines-feed x text feed)) ∙ same_rest found)
    (λ byte.
    let begins = begins_with_line text (or_true (is_feed x) (list_any is_feed text) found byte) in
    lines_of-byte x text byte ∙ ap (onto_first x) (lines_of-parts text)
    ∙ ap (λ ls. onto_first x (ls ++ last_line (rest_of text))) begins.are
    ∙ ap (λ ls. onto_line x ls ++ last_line (rest_of text)) (sym begins.are)
    ∙ ap (λ ls. ls ++ last_line (rest_of text)) (sym (whole_lines-byte x text byte)) ∙ same_rest found))
    (λ lacks. lines_of-none (x ∷ text) lacks ∙ ap last_line (sym (rest_of-none (x ∷ text) lacks))
    ∙ ap (λ ls. ls ++ last_line (rest_of (x ∷ text))) (sym (whole_lines-none (x ∷ text) lacks)))
  where
    same_rest : list_any is_feed (x ∷ text) ≡ true → whole_lines (x ∷ text) ++ last_line (rest_of text) ≡ whole_lines (x ∷ text) ++ last_line (rest_of (x ∷ text))
    same_rest found = ap (λ r. whole_lines (x ∷ text) ++ last_line r) (sym (rest_of-byte x text found))

pub lines_of-append : (a b : List ℕ) → lines_of (a ++ b) ≡ whole_lines a ++ lines_of (rest_of a ++ b)
lines_of-append a b =
    let rest = rest_of a ++ b in
    lines_of-parts (a ++ b)
    ∙ ap (λ ls. ls ++ last_line (rest_of (a ++ b))) (whole_lines-append a b)
    ∙ ap (λ r. (whole_lines a ++ whole_lines rest) ++ last_line r) (rest_of-append a b)
    ∙ append_assoc (whole_lines a) (whole_lines rest) (last_line (rest_of rest))
    ∙ ap (λ ls. whole_lines a ++ ls) (sym (lines_of-parts rest))

-- ---- the rest, and the text as its whole lines and its rest

pub HasNoFeed-rest_of : (text : List ℕ) → HasNoFeed (rest_of text)
HasNoFeed-rest_of [] = refl
HasNoFeed-rest_of (x ∷ text) = by_test (list_any is_feed (x ∷ text))
    (λ found. ap (list_any is_feed) (rest_of-byte x text found) ∙ HasNoFeed-rest_of text)
    (λ lacks. ap (list_any is_feed) (rest_of-none (x ∷ text) lacks) ∙ lacks)

pub whole_lines-rest_of : (text : List ℕ) → whole_lines (rest_of text) ≡ []
whole_lines-rest_of text = whole_lines-none (rest_of text) (HasNoFeed-rest_of text)

pub rest_of-rest_of : (text : List ℕ) → rest_of (rest_of text) ≡ rest_of text
rest_of-rest_of text = rest_of-none (rest_of text) (HasNoFeed-rest_of text)

-- ---- what a feeder's answer says of the lines

-- a line that was given is the first whole one, and the others and the rest stay
pub whole_lines-given : (old line new : List ℕ) → TakesLine old (Some line) new → whole_lines old ≡ line ∷ whole_lines new
whole_lines-given old line new h = ap whole_lines h.1 ∙ whole_lines-line line new h.0

pub rest_of-given : (old line new : List ℕ) → TakesLine old (Some line) new → rest_of old ≡ rest_of new
rest_of-given old line new h = ap rest_of h.1 ∙ rest_of-line line new

pub lines_of-given : (old line new : List ℕ) → TakesLine old (Some line) new → lines_of old ≡ line ∷ lines_of new
lines_of-given old line new h = ap lines_of h.1 ∙ lines_of-line line new h.0

-- the rest that was given is the last line, if there is one
pub last_line-taken : (old : List ℕ) (given : Option (List ℕ)) (new : List ℕ) → TakesRest old given new → given ≡ slice_get (last_line (rest_of old)) 0
last_line-taken old None new h = ap (λ rest. slice_get (last_line rest) 0) (sym h.0)
last_line-taken old (Some rest) new h = one rest h.1 ∙ ap (λ r. slice_get (last_line r) 0) (sym h.0)
  where
    one : (rest : List ℕ) → rest ≢ [] → Some rest ≡ slice_get (last_line rest) 0
    one [] h = absurd (h refl)
    one (x ∷ rest) h = refl

-- a line that was taken is the next of the lines that were to come
pub lines-taken : {V : Type 0} (text_of : V → List ℕ) (lines : List V) (value : V) (line old new : List ℕ) (all : List (List ℕ))
    → text_of value ≡ line → TakesLine old (Some line) new → map text_of lines ++ whole_lines old ≡ all → map text_of (lines ++ value ∷ []) ++ whole_lines new ≡ all
lines-taken text_of lines value line old new all same taken h =
    ap (λ texts. texts ++ whole_lines new) (map-append text_of lines (value ∷ []))
    ∙ append_assoc (map text_of lines) (text_of value ∷ []) (whole_lines new)
    ∙ ap (λ text. map text_of lines ++ text ∷ whole_lines new) same
    ∙ ap (λ texts. map text_of lines ++ texts) (sym (whole_lines-given old line new taken)) ∙ h

-- where no whole line is left, what is kept is the rest
pub rest-left : (old new start : List ℕ) → TakesLine old None new → rest_of old ≡ rest_of start → new ≡ rest_of start
rest-left old new start taken h = taken.1 ∙ sym (rest_of-none old (HasNoFeed-from_whole_lines old taken.0)) ∙ h

-- the lines of one more piece, which comes after the rest that was kept
pub lines-fed : {V : Type 0} (text_of : V → List ℕ) (lines new : List V) (before piece after kept fed left : List ℕ)
    → map text_of lines ≡ whole_lines before → kept ≡ rest_of before → fed ≡ kept ++ piece → after ≡ before ++ piece
    → map text_of new ≡ map text_of lines ++ whole_lines fed → left ≡ rest_of fed
    → (map text_of new ≡ whole_lines after) × (left ≡ rest_of after)
lines-fed text_of lines new before piece after kept fed left taken is grown all more rest =
    let whole = grown ∙ ap (λ r. r ++ piece) is in (
      more ∙ ap (λ ls. ls ++ whole_lines fed) taken ∙ ap (λ text. whole_lines before ++ whole_lines text) whole
          ∙ sym (whole_lines-append before piece) ∙ ap whole_lines (sym all),
      rest ∙ ap rest_of whole ∙ sym (rest_of-append before piece) ∙ ap rest_of (sym all),
    )

-- the rest that was given is the last of the lines, and the only one that was to come
pub line-finished : {V : Type 0} (text_of : V → List ℕ) (lines : List V) (value : V) (rest old new : List ℕ)
    → text_of value ≡ rest → TakesRest old (Some rest) new → map text_of (lines ++ value ∷ []) ≡ map text_of lines ++ last_line (rest_of old)
line-finished text_of lines value rest old new same taken =
    map-append text_of lines (value ∷ []) ∙ ap (λ texts. map text_of lines ++ texts) (ap (λ text. text ∷ []) same ∙ one rest taken.1 ∙ ap last_line (sym taken.0))
  where
    one : (text : List ℕ) → text ≢ [] → text ∷ [] ≡ last_line text
    one [] h = absurd (h refl)
    one (x ∷ text) h = refl

-- the whole lines and then the rest of what is kept are all the lines
pub lines-finished : (all lines : List (List ℕ)) (text kept : List ℕ) → lines ≡ whole_lines text → kept ≡ rest_of text → all ≡ lines ++ last_line (rest_of kept) → all ≡ lines_of text
lines-finished all lines text kept whole rest h =
    h ∙ ap (λ ls. ls ++ last_line (rest_of kept)) whole ∙ ap (λ r. whole_lines text ++ last_line r) (ap rest_of rest ∙ rest_of-rest_of text) ∙ sym (lines_of-parts text)

-- what one more piece adds to a text
pub flat_map-next : {X : Type 0} (text_of : X → List ℕ) (pieces : List X) (n : ℕ) (piece : X) → n < length pieces → piece ≡ get_or pieces n piece
    → flat_map text_of (take (n + 1) pieces) ≡ flat_map text_of (take n pieces) ++ text_of piece
flat_map-next text_of pieces n piece h is =
    ap (flat_map text_of) (take_more pieces n piece h ∙ ap (λ x. take n pieces ++ x ∷ []) (sym is))
    ∙ flat_map-append text_of (take n pieces) (piece ∷ [])
    ∙ ap (λ text. flat_map text_of (take n pieces) ++ text) (append-nil (text_of piece))
