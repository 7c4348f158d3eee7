-- A script that may be driven has no bad line and is not too long.
use Rattle.std.proofs.Common.{◌≡◌, ◌⊎◌, ℕ, Bool, true, false, not, ◌&&◌, ◌||◌, List, [], ◌∷◌, ◌++◌, length, take, drop, map, Option, Some, None, Result, Ok, Err, IsOkUnless, inl, inr, refl, sym, ap, ◌∙◌, arith, append_assoc, append-nil, length-append, take-append-drop}
use Rattle.std.specs.List.{list_all}
use Rattle.std.proofs.lemmas.List.Folds.{list_all-append}
use Rattle.std.specs.declared.cmp.Ordering.{Ordering}
use Rattle.std.specs.Io.KnownBytes.{Consumes, IsAtEnd}
use Rattle.zt_keys.specs.declared.error.KeyError.{KeyError}
use Rattle.zt_streams.specs.Lines.{lines_of, rest_of}
use Rattle.zt_streams.proofs.LineLemmas.{lines_of-append}
use Rattle.zt_protocol.specs.Plain.{PlainLine, Gateway, Session, Face as FaceLine, Link, Unlink, Step, Speak, Moment, SetTreesAt}
use Rattle.zt_protocol.specs.declared.entries.Report.{Report}
use Rattle.zt_protocol.specs.declared.errors.RunError.{RunError}
use Rattle.zt_protocol.specs.declared.errors.RunError.TheVariants as errors
use Rattle.zt_lines.specs.Reading.{line_read}
use Rattle.zt_model.specs.Journal.{are_makings_first, is_driven, is_making, is_speaking}
use Rattle.zt_fabric.specs.Transcripts.{BeginsWith, HasNoFault, Streams, most_bytes, status_of}
use Rattle.zt_workers.specs.Answers.{Answers, GivesDriven, IsDriven}
use Rattle.zt_plans.specs.Plans.{AreRead, is_bad_behind}

-- ---- the first lines of a script that may be driven

and_both : (a b : Bool) → (a && b) ≡ true → (a ≡ true) × (b ≡ true)
and_both true b h = (refl, h)
and_both false b h = let no : false ≡ true = h in cc

or_either : (a b : Bool) → (a || b) ≡ true → (a ≡ true) ⊎ (b ≡ true)
or_either true b h = inl refl
or_either false b h = inr h

or_true : (a : Bool) → (a || true) ≡ true
or_true true = refl
or_true false = refl

all_front : {A : Type 0} (p : A → Bool) (xs ys : List A) → list_all p (xs ++ ys) ≡ true → list_all p xs ≡ true
all_front p xs ys h = (and_both (list_all p xs) (list_all p ys) (sym (list_all-append p xs ys) ∙ h)).0

module _ {K : Type 0} where
  makings_front : (xs ys : List (PlainLine K)) → are_makings_first (xs ++ ys) ≡ true → are_makings_first xs ≡ true
  makings_front [] ys h = refl
  makings_front (l ∷ xs) ys h =
      elim (or_either (is_making l && are_makings_first (xs ++ ys)) (is_speaking l && list_all is_speaking (xs ++ ys)) h) as (λ _. are_makings_first (l ∷ xs) ≡ true) [
        | inl both ↦
            let two = and_both (is_making l) (are_makings_first (xs ++ ys)) both in
            let speaking : Bool = is_speaking l && list_all is_speaking xs in
            ap (λ b. (b && are_makings_first xs) || speaking) two.0 ∙ ap (λ b. b || speaking) (makings_front xs ys two.1)
        | inr both ↦
            let two = and_both (is_speaking l) (list_all is_speaking (xs ++ ys)) both in
            let making : Bool = is_making l && are_makings_first xs in
            ap (λ b. making || (b && list_all is_speaking xs)) two.0 ∙ ap (λ b. making || b) (all_front is_speaking xs ys two.1) ∙ or_true making
      ]

  driven_front : (xs ys : List (PlainLine K)) → is_driven (xs ++ ys) ≡ true → is_driven xs ≡ true
  driven_front [] ys h = refl
  driven_front (Gateway mode zid regions south name timeout refused ∷ xs) ys h = makings_front xs ys h
  driven_front (Session gateway first ∷ xs) ys h = h
  driven_front (FaceLine gateway mode zid region bound first ∷ xs) ys h = h
  driven_front (Link one two first back ∷ xs) ys h = h
  driven_front (Unlink link ∷ xs) ys h = h
  driven_front (Step link back ∷ xs) ys h = h
  driven_front (Speak call ∷ xs) ys h = h
  driven_front (Moment gateway now ∷ xs) ys h = h
  driven_front (SetTreesAt gateway region table ∷ xs) ys h = h

-- ---- what was read of a text

record Front (text read : List ℕ) (left : Option (List ℕ)) : Type 0 where
  rest : List ℕ
  left_is : left ≡ Some rest
  is : text ≡ read ++ rest

front_of : (a left : Option (List ℕ)) (text read : List ℕ) → a ≡ Some text → Consumes a left read → Front text read left
front_of None left text read h p = absurd (cc)
front_of (Some x) None text read h p = absurd p
front_of (Some x) (Some rest) text read h p = let same : x ≡ text = cc in record { rest = rest; left_is = refl; is = sym same ∙ p }

nothing_left : (left : Option (List ℕ)) (rest : List ℕ) → left ≡ Some rest → IsAtEnd left → rest ≡ []
nothing_left None rest h e = absurd (cc)
nothing_left (Some x) rest h e = let same : x ≡ rest = cc in sym same ∙ e

-- the first lines of what was read are the first of the text
first_lines : (text read : List ℕ) (left : Option (List ℕ)) (texts : List (List ℕ)) → Front text read left → BeginsWith left read texts
    → (others : List (List ℕ)) × (lines_of text ≡ texts ++ others)
first_lines text read left texts p (inl q) =
    let front = take most_bytes read in
    let later = drop most_bytes read ++ p.rest in
    let is : text ≡ front ++ later = p.is ∙ ap (λ t. t ++ p.rest) (sym (take-append-drop most_bytes read)) ∙ append_assoc front (drop most_bytes read) p.rest in
    let more = lines_of (rest_of front ++ later) in
    (q.0 ++ more, ap lines_of is ∙ lines_of-append front later ∙ ap (λ ls. ls ++ more) q.1 ∙ append_assoc texts q.0 more)
first_lines text read left texts p (inr q) =
    let whole : text ≡ read = p.is ∙ ap (λ t. read ++ t) (nothing_left left p.rest p.left_is q.1) ∙ append-nil read in
    (q.0, ap lines_of whole ∙ q.3)

module _ {K : Type 0} (reading : List ℕ → Result K KeyError) where
  -- the line behind others, and those behind it
  record IsBehind (lines : List (PlainLine K)) (text : List ℕ) (all : List (PlainLine K)) : Type 0 where
    line : PlainLine K
    is_read : line_read reading text ≡ Ok line
    more : List (PlainLine K)
    are : all ≡ (lines ++ line ∷ []) ++ more

  line_behind : (before others : List (List ℕ)) (text : List ℕ) (lines all : List (PlainLine K)) → AreRead reading ((before ++ text ∷ []) ++ others) all → AreRead reading before lines → IsBehind lines text all
  line_behind [] others text [] [] h r = absurd (cc)
  line_behind [] others text [] (a ∷ all) h r = let here : line_read reading text ≡ Ok a = cc in record { line = a; is_read = here; more = all; are = refl }
  line_behind [] others text (l ∷ lines) all h r = absurd (cc)
  line_behind (t ∷ before) others text [] all h r = absurd (cc)
  line_behind (t ∷ before) others text (l ∷ lines) [] h r = absurd (cc)
  line_behind (t ∷ before) others text (l ∷ lines) (a ∷ all) h r =
      let here : line_read reading t ≡ Ok a = cc in
      let there : line_read reading t ≡ Ok l = cc in
      let same : a ≡ l = cc in
      let later : map (line_read reading) ((before ++ text ∷ []) ++ others) ≡ map (λ line. Ok line) all = cc in
      let front : map (line_read reading) before ≡ map (λ line. Ok line) lines = cc in
      let deep = line_behind before others text lines all later front in
      record { line = deep.line; is_read = deep.is_read; more = deep.more; are = ap (λ x. x ∷ all) same ∙ ap (λ xs. l ∷ xs) deep.are }

  -- no line is bad
  no_bad_text : (before others : List (List ℕ)) (bad : List ℕ) (lines all : List (PlainLine K)) → AreRead reading ((before ++ bad ∷ []) ++ others) all → AreRead reading before lines → is_driven all ≡ true
      → is_bad_behind reading lines bad ≡ true → ⊥
  no_bad_text before others bad lines all h r driven is_bad =
      let behind = line_behind before others bad lines all h r in
      let front : is_driven (lines ++ behind.line ∷ []) ≡ true = driven_front (lines ++ behind.line ∷ []) behind.more (sym (ap is_driven behind.are) ∙ driven) in
      let good : is_bad_behind reading lines bad ≡ false =
      ap (λ (r : Result (PlainLine K) _). let b : Bool = elim r [ Ok l ↦ not (is_driven (lines ++ l ∷ [])) | Err error ↦ true ] in b) behind.is_read ∙ ap not front
      in
      let no : true ≡ false = sym is_bad ∙ good in
      cc

  module _ (cmp : K → K → Ordering) (matching : K → K → Bool) (printed : K → List ℕ) (workers : ℕ) where
    driven_out : (old new : Streams) (text : List ℕ) (result : Result Report RunError) → Answers cmp matching reading printed workers old new result
        → old.left ≡ Some text → IsDriven reading text → HasNoFault old new → IsOkUnless result errors.Alloc
    driven_out old new text (Ok report) p h script calm = tt
    driven_out old new text (Err (errors.BadLine n)) p h script calm =
        let found = p.0 in
        let bad = found.bad in
        let first = first_lines text found.read new.left found.texts (front_of old.left new.left text found.read h found.taken) found.first in
        let read : AreRead reading (((bad.before ++ bad.bad ∷ []) ++ bad.others) ++ first.0) script.lines = ap (λ ls. map (line_read reading) (ls ++ first.0)) (sym bad.are) ∙ ap (map (line_read reading)) (sym first.1) ∙ script.are_read in
        let same : AreRead reading ((bad.before ++ bad.bad ∷ []) ++ (bad.others ++ first.0)) script.lines = ap (map (line_read reading)) (sym (append_assoc (bad.before ++ bad.bad ∷ []) bad.others first.0)) ∙ read in
        absurd (no_bad_text bad.before (bad.others ++ first.0) bad.bad bad.lines script.lines same bad.are_read script.driven bad.is_bad)
    driven_out old new text (Err errors.TooLong) p h script calm =
        let found = p.0 in
        let front = front_of old.left new.left text found.read h found.taken in
        absurd (omega (arith, found.longer, script.fits, ap length front.is, length-append found.read front.rest))
    driven_out old new text (Err errors.ReadFault) p h script calm = absurd (calm.0 p.0)
    driven_out old new text (Err errors.WriteFault) p h script calm = absurd (calm.1 p.risen)
    driven_out old new text (Err errors.Alloc) p h script calm = refl

    -- a script that may be driven is carried out to its end unless memory runs out
    pub complete : (old new : Streams) (result : Result Report RunError) → Answers cmp matching reading printed workers old new result → GivesDriven reading old new → IsOkUnless result errors.Alloc
    complete old new result p h = driven_out old new h.0 result p h.1 h.2 h.3

pub complete_status : (result : Result Report RunError) (status : ℕ) → status ≡ status_of result → IsOkUnless result errors.Alloc → (status ≡ 0) ⊎ (status ≡ 5)
complete_status (Ok report) status is alloc = inl is
complete_status (Err error) status is alloc = inr (is ∙ ap (λ (e : RunError). let r : Result Report RunError = Err e in status_of r) alloc)
