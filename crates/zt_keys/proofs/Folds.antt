-- What the loops over a text keep that find its first chunk, its first two and its last.
use Rattle.std.proofs.Common.{◌≡◌, ℕ, ◌+◌, ◌-◌, ◌<◌, ◌≤◌, Bool, true, false, List, [], ◌∷◌, ◌++◌, length, take, drop, get_or, refl, sym, ap, ◌∙◌, eqb, arith, append_assoc, add-one}
use Rattle.std.specs.List.{list_any, onto_first}
use Rattle.std.proofs.Math.Seq.{take-suc}
use Rattle.std.proofs.lemmas.Bool.{false≢true, eqb-true}
use Rattle.std.proofs.lemmas.List.{append-nil, take_all, length-drop, at_drop_more, at_drop_all, take-append-drop}
use Rattle.std.proofs.lemmas.List.Splits.{slice_split-cons_yes, slice_split-cons_no}
use Rattle.zt_keys.specs.Test.{by_test}
use Rattle.zt_keys.specs.Chunks.{chunks}
use Rattle.zt_keys.specs.Anchors.{first_chunk, first_two, last_chunk, last_from}

abbrev pub is_slash : ℕ → Bool
is_slash b = eqb b 47

-- a byte more is taken of what a text begins with
more-taken : (whole : List ℕ) (here there : List ℕ → List ℕ) (text : List ℕ) (place : ℕ) → place < length text
    → ((rest : List ℕ) → here (get_or text place 0 ∷ rest) ≡ get_or text place 0 ∷ there rest)
    → whole ≡ take place text ++ here (drop place text) → whole ≡ take (place + 1) text ++ there (drop (place + 1) text)
more-taken whole here there text place h goes says =
    let b = get_or text place 0 in
    let rest = there (drop (place + 1) text) in
    let next : here (drop place text) ≡ b ∷ rest = at_drop_more here text place 0 h ∙ goes (drop (place + 1) text) in
    let grown : take (place + 1) text ≡ take place text ++ (b ∷ []) = rw add-one (take-suc text place 0 h) in
    says ∙ ap (λ t. take place text ++ t) next ∙ sym (append_assoc (take place text) (b ∷ []) rest) ∙ ap (λ t. t ++ rest) (sym grown)

-- no more is to be taken
all-taken : (whole : List ℕ) (here : List ℕ → List ℕ) (text : List ℕ) (place : ℕ) → here (drop place text) ≡ []
    → whole ≡ take place text ++ here (drop place text) → take place text ≡ whole
all-taken whole here text place ends says = sym (says ∙ ap (λ t. take place text ++ t) ends ∙ append-nil (take place text))

-- its first chunk

abbrev first_of : List ℕ → List ℕ
first_of text = first_chunk (chunks text)

first-onto_first : (b : ℕ) (parts : List (List ℕ)) → first_chunk (onto_first b parts) ≡ b ∷ first_chunk parts
first-onto_first b [] = refl
first-onto_first b (part ∷ parts) = refl

first-slash : (b : ℕ) (text : List ℕ) → is_slash b ≡ true → first_of (b ∷ text) ≡ []
first-slash b text e = ap first_chunk (slice_split-cons_yes is_slash b text e)

first-other : (b : ℕ) (text : List ℕ) → is_slash b ≡ false → first_of (b ∷ text) ≡ b ∷ first_of text
first-other b text e = ap first_chunk (slice_split-cons_no is_slash b text e) ∙ first-onto_first b (chunks text)

-- the bytes so far begin the first chunk
abbrev pub Begins : List ℕ → ℕ → Type 0
Begins text place = first_chunk (chunks text) ≡ take place text ++ first_chunk (chunks (drop place text))

pub begins-more : (text : List ℕ) (place : ℕ) → place < length text → is_slash (get_or text place 0) ≡ false → Begins text place → Begins text (place + 1)
begins-more text place h e = more-taken (first_of text) first_of first_of text place h (λ rest. first-other (get_or text place 0) rest e)

pub begins-slash : (text : List ℕ) (place : ℕ) → place < length text → is_slash (get_or text place 0) ≡ true → Begins text place → take place text ≡ first_chunk (chunks text)
begins-slash text place h e =
    all-taken (first_of text) first_of text place (at_drop_more first_of text place 0 h ∙ first-slash (get_or text place 0) (drop (place + 1) text) e)

pub begins-end : (text : List ℕ) (place : ℕ) → length text ≤ place → Begins text place → text ≡ first_chunk (chunks text)
begins-end text place h says = sym (take_all place text h) ∙ all-taken (first_of text) first_of text place (at_drop_all first_of text place h) says

-- its first two chunks

-- what is left to take of them: both, or the rest of the second
abbrev left_of_two : Bool → List ℕ → List ℕ
left_of_two false text = first_two (chunks text)
left_of_two true text = first_of text

two-onto_first : (b : ℕ) (parts : List (List ℕ)) → first_two (onto_first b parts) ≡ b ∷ first_two parts
two-onto_first b [] = refl
two-onto_first b (part ∷ []) = refl
two-onto_first b (part ∷ next ∷ parts) = refl

next-onto_first : (b : ℕ) (parts : List (List ℕ)) → first_two ([] ∷ onto_first b parts) ≡ 47 ∷ first_chunk (onto_first b parts)
next-onto_first b [] = refl
next-onto_first b (part ∷ parts) = refl

next-chunks : (text : List ℕ) → first_two ([] ∷ chunks text) ≡ 47 ∷ first_of text
next-chunks [] = refl
next-chunks (b ∷ text) =
    by_test (is_slash b)
    (λ e. rw (slice_split-cons_yes is_slash b text e) refl)
    (λ e. rw (slice_split-cons_no is_slash b text e) (next-onto_first b (chunks text)))

two-slash : (b : ℕ) (text : List ℕ) → is_slash b ≡ true → left_of_two false (b ∷ text) ≡ b ∷ left_of_two true text
two-slash b text e = ap first_two (slice_split-cons_yes is_slash b text e) ∙ next-chunks text ∙ ap (λ c. c ∷ first_of text) (sym (eqb-true b 47 e))

two-other : (in_second : Bool) (b : ℕ) (text : List ℕ) → is_slash b ≡ false → left_of_two in_second (b ∷ text) ≡ b ∷ left_of_two in_second text
two-other false b text e = ap first_two (slice_split-cons_no is_slash b text e) ∙ two-onto_first b (chunks text)
two-other true b text e = first-other b text e

two-nothing : (in_second : Bool) → left_of_two in_second [] ≡ []
two-nothing false = refl
two-nothing true = refl

-- the bytes so far begin the first two chunks, and reach into the second or don't
abbrev pub BeginsTwo : List ℕ → ℕ → Bool → Type 0
BeginsTwo text place in_second = first_two (chunks text) ≡ take place text ++ left_of_two in_second (drop place text)

pub two-more : (text : List ℕ) (place : ℕ) (in_second : Bool) → place < length text → is_slash (get_or text place 0) ≡ false → BeginsTwo text place in_second → BeginsTwo text (place + 1) in_second
two-more text place in_second h e =
    more-taken (first_two (chunks text)) (left_of_two in_second) (left_of_two in_second) text place h (λ rest. two-other in_second (get_or text place 0) rest e)

pub two-next : (text : List ℕ) (place : ℕ) (in_second : Bool) → place < length text → is_slash (get_or text place 0) ≡ true → in_second ≡ false → BeginsTwo text place in_second → BeginsTwo text (place + 1) true
two-next text place false h e first = more-taken (first_two (chunks text)) (left_of_two false) (left_of_two true) text place h (λ rest. two-slash (get_or text place 0) rest e)
two-next text place true h e first = cc

pub two-done : (text : List ℕ) (place : ℕ) (in_second : Bool) → place < length text → is_slash (get_or text place 0) ≡ true → in_second ≡ true → BeginsTwo text place in_second → take place text ≡ first_two (chunks text)
two-done text place false h e second = cc
two-done text place true h e second =
    all-taken (first_two (chunks text)) first_of text place (at_drop_more first_of text place 0 h ∙ first-slash (get_or text place 0) (drop (place + 1) text) e)

pub two-end : (text : List ℕ) (place : ℕ) (in_second : Bool) → length text ≤ place → BeginsTwo text place in_second → text ≡ first_two (chunks text)
two-end text place in_second h says =
    sym (take_all place text h)
    ∙ all-taken (first_two (chunks text)) (left_of_two in_second) text place (at_drop_all (left_of_two in_second) text place h ∙ two-nothing in_second) says

-- its last chunk

abbrev slashless : List ℕ → Type 0
slashless text = list_any is_slash text ≡ false

chunks-slashless : (text : List ℕ) → slashless text → chunks text ≡ text ∷ []
chunks-slashless [] h = refl
chunks-slashless (b ∷ text) h =
    by_test (is_slash b)
    (λ e. absurd (false≢true (sym (rw e at h))))
    (λ e. slice_split-cons_no is_slash b text e ∙ ap (onto_first b) (chunks-slashless text (rw e at h)))

-- some chunk, then others, of which the last is `ys`
record Before (parts : List (List ℕ)) (ys : List ℕ) : Type 0 where
  head : List ℕ
  next : List ℕ
  tail : List (List ℕ)
  is : parts ≡ head ∷ next ∷ tail
  last : last_from next tail ≡ ys

before : (xs ys : List ℕ) (b : ℕ) → is_slash b ≡ true → slashless ys → Before (chunks (xs ++ b ∷ ys)) ys
before [] ys b e h = record { head = []; next = ys; tail = []; is = slice_split-cons_yes is_slash b ys e ∙ ap (λ t. [] ∷ t) (chunks-slashless ys h); last = refl }
before (x ∷ xs) ys b e h =
    let w = before xs ys b e h in
    by_test (is_slash x)
    (λ f. record { head = []; next = w.head; tail = w.next ∷ w.tail; is = slice_split-cons_yes is_slash x (xs ++ b ∷ ys) f ∙ ap (λ t. [] ∷ t) w.is; last = w.last })
    (λ f. record { head = x ∷ w.head; next = w.next; tail = w.tail; is = slice_split-cons_no is_slash x (xs ++ b ∷ ys) f ∙ ap (onto_first x) w.is; last = w.last })

-- as the code takes them, from the start to the text's end
rest-all : (text : List ℕ) (start : ℕ) → take (length text - start) (drop start text) ≡ drop start text
rest-all text start = let h = length-drop start text in take_all (length text - start) (drop start text) (omega (arith, h))

pub ends-start : (text : List ℕ) (start : ℕ) → start ≤ 0 → list_any is_slash (drop start text) ≡ false → take (length text - start) (drop start text) ≡ last_chunk (chunks text)
ends-start text start h says =
    let e : start ≡ 0 = omega arith in
    let all : slashless text = rw e at says in
    rest-all text start ∙ ap (λ n. drop n text) e ∙ sym (ap last_chunk (chunks-slashless text all))

pub ends-slash : (text : List ℕ) (start : ℕ) → 0 < start → start ≤ length text → is_slash (get_or text (start - 1) 0) ≡ true → list_any is_slash (drop start text) ≡ false → take (length text - start) (drop start text) ≡ last_chunk (chunks text)
ends-slash text start h g e says =
    let within : start - 1 < length text = omega arith in
    let same : start - 1 + 1 ≡ start = omega arith in
    let w = before (take (start - 1) text) (drop start text) (get_or text (start - 1) 0) e says in
    let split : take (start - 1) text ++ get_or text (start - 1) 0 ∷ drop start text ≡ text =
    ap (λ n. take (start - 1) text ++ get_or text (start - 1) 0 ∷ drop n text) (sym same) ∙ sym (at_drop_more (λ t. take (start - 1) text ++ t) text (start - 1) 0 within) ∙ take-append-drop (start - 1) text in
    rest-all text start ∙ sym (ap (λ t. last_chunk (chunks t)) (sym split) ∙ ap last_chunk w.is ∙ w.last)
