-- Lines dealt to workers, and put together again in the order in which they came to pass.
use Rattle.std.proofs.Common.{◌≡◌, ◌≢◌, ℕ, zero, suc, ◌+◌, ◌%◌, ◌≤◌, ◌<◌, Bool, true, false, cond, not, ◌==◌, ◌&&◌, ◌||◌, List, [], ◌∷◌, ◌++◌, length, map, filter, unwrap_or, Option, Some, None, refl, sym, ap, ◌∙◌, subst, arith, eqb-true, eq-eqb, ne_eqb, length-append}
use Rattle.std.proofs.lemmas.Bool.{eqb-false}
use Rattle.std.proofs.lemmas.List.{length-map}
use Rattle.std.specs.List.{list_all}
use Rattle.std.specs.declared.cmp.Ordering.{Ordering}
use Rattle.zt_protocol.specs.Plain.{PlainCall, PlainLine, Speak}
use Rattle.zt_model.specs.Fabric.{call_face}
use Rattle.zt_model.specs.Journal.{IsReordered, Journalled, are_makings_first, is_driven, is_making, is_speaking, speaks_for, starts_none}
use Rattle.zt_model.specs.Lists.{is_some_and}
use Rattle.zt_model.specs.Transcript.{Each}
use Rattle.zt_laws.proofs.Lists.{by_test, each_filter, each_passes, each_weaker, never}
use Rattle.zt_theorem_journal.specs.Alone.{Speaks}
use Rattle.zt_theorem_journal.specs.Dealt.{IsDealt, numbered_from, order_of, script_of, worker_of}

-- ---- sums over the numbers of workers

abbrev below : (ℕ → ℕ) → ℕ → ℕ
below f zero = 0
below f (suc n) = below f n + f n

one_if : Bool → ℕ
one_if true = 1
one_if false = 0

below_alike : (f g : ℕ → ℕ) (n : ℕ) → ((k : ℕ) → k < n → f k ≡ g k) → below f n ≡ below g n
below_alike f g zero same = refl
below_alike f g (suc n) same = let rest = below_alike f g n (λ k less. same k (omega arith)) in let here = same n (omega arith) in omega arith

below_both : (f g : ℕ → ℕ) (n : ℕ) → below (λ k. f k + g k) n ≡ below f n + below g n
below_both f g zero = refl
below_both f g (suc n) = let rest = below_both f g n in omega arith

below_past : (k n : ℕ) → n ≤ k → below (λ j. one_if (k == j)) n ≡ 0
unfolding one_if
below_past k zero past = refl
below_past k (suc n) past =
    let rest = below_past k n (omega arith) in
    let apart : (k == n) ≡ false = ne_eqb k n (omega arith) in
    let here : one_if (k == n) ≡ 0 = ap one_if apart in
    omega arith

below_one : (k n : ℕ) → k < n → below (λ j. one_if (k == j)) n ≡ 1
unfolding one_if
below_one k zero less = absurd (omega arith)
below_one k (suc n) less =
    by_test (k == n)
    (λ own.
    let is : k ≡ n = eqb-true k n own in
    let past = below_past k n (omega arith) in
    let here : one_if (k == n) ≡ 1 = ap one_if own in
    omega arith)
    (λ other.
    let apart : k ≢ n = eqb-false k n other in
    let rest = below_one k n (omega arith) in
    let here : one_if (k == n) ≡ 0 = ap one_if other in
    omega arith)

-- a list is as long as its parts together
counted : {A : Type 0} (key : A → ℕ) (n : ℕ) (xs : List A) → Each (λ x. key x < n) xs → length xs ≡ below (λ p. length (filter (λ x. key x == p) xs)) n
unfolding one_if
counted key n [] all = nothing n
  where
    nothing : (m : ℕ) → 0 ≡ below (λ p. 0) m
    nothing zero = refl
    nothing (suc m) = let rest = nothing m in omega arith
counted key n (x ∷ xs) all =
    let rest = counted key n xs all.1 in
    let one = below_one (key x) n all.0 in
    let split = below_both (λ p. one_if (key x == p)) (λ p. length (filter (λ x. key x == p) xs)) n in
    let same = below_alike (λ p. one_if (key x == p) + length (filter (λ x. key x == p) xs)) (λ p. length (filter (λ x. key x == p) (x ∷ xs))) n (λ p less. here p (key x == p)) in
    omega arith
  where
    here : (p : ℕ) (b : Bool) → one_if b + length (filter (λ x. key x == p) xs) ≡ length (cond b (x ∷ filter (λ x. key x == p) xs) (filter (λ x. key x == p) xs))
    here p true = omega arith
    here p false = omega arith

-- ---- filters

filter_map : {A B : Type 0} (p : B → Bool) (f : A → B) (xs : List A) → filter p (map f xs) ≡ map f (filter (λ x. p (f x)) xs)
filter_map p f [] = refl
filter_map p f (x ∷ xs) = by_test (p (f x)) (λ here. rw here (ap (λ ys. f x ∷ ys) (filter_map p f xs))) (λ here. rw here (filter_map p f xs))

-- what passes one test passes another
filter_within : {A : Type 0} (p q : A → Bool) (xs : List A) → Each (λ x. p x ≡ true → q x ≡ true) xs → filter p (filter q xs) ≡ filter p xs
filter_within p q [] all = refl
filter_within p q (x ∷ xs) all =
    by_test (q x)
    (λ here. rw here (by_test (p x) (λ own. rw own (ap (λ ys. x ∷ ys) (filter_within p q xs all.1))) (λ own. rw own (filter_within p q xs all.1))))
    (λ here. let own : p x ≡ false = by_test (p x) (λ own. never (all.0 own) here) (λ own. own) in rw here (rw own (filter_within p q xs all.1)))

pub each_part : {A : Type 0} (P : ℕ → A → Type 0) (key : A → ℕ) (n : ℕ) (xs : List A) → Each (λ x. key x < n) xs → ((p : ℕ) → p < n → Each (P p) (filter (λ x. key x == p) xs)) → Each (λ x. P (key x) x) xs
each_part P key n [] less parts = tt
each_part P key n (x ∷ xs) less parts = (
  first (key x == key x) (eq-eqb (key x) (key x) refl) (parts (key x) less.0),
  each_part P key n xs less.1 (λ p less_. rest p (key x == p) (parts p less_)),
)
  where
    first : (b : Bool) → b ≡ true → Each (P (key x)) (cond b (x ∷ filter (λ y. key y == key x) xs) (filter (λ y. key y == key x) xs)) → P (key x) x
    first true is all = all.0
    first false is all = cc

    rest : (p : ℕ) (b : Bool) → Each (P p) (cond b (x ∷ filter (λ y. key y == p) xs) (filter (λ y. key y == p) xs)) → Each (P p) (filter (λ y. key y == p) xs)
    rest p true all = all.1
    rest p false all = all

filter_append : {A : Type 0} (p : A → Bool) (xs ys : List A) → filter p (xs ++ ys) ≡ filter p xs ++ filter p ys
filter_append p [] ys = refl
filter_append p (x ∷ xs) ys = by_test (p x) (λ here. rw here (ap (λ zs. x ∷ zs) (filter_append p xs ys))) (λ here. rw here (filter_append p xs ys))

filter_none : {A : Type 0} (p : A → Bool) (xs : List A) → Each (λ x. p x ≡ false) xs → filter p xs ≡ []
filter_none p [] all = refl
filter_none p (x ∷ xs) all = rw all.0 (filter_none p xs all.1)

pub each_of_map : {A B : Type 0} (P : B → Type 0) (f : A → B) (xs : List A) → Each P (map f xs) → Each (λ x. P (f x)) xs
each_of_map P f [] all = tt
each_of_map P f (x ∷ xs) all = (all.0, each_of_map P f xs all.1)

pub each_numbered : {A : Type 0} (P : A → Type 0) (n : ℕ) (xs : List A) → Each P xs → Each (λ x. P x.1) (numbered_from n xs)
each_numbered P n [] all = tt
each_numbered P n (x ∷ xs) all = (all.0, each_numbered P (n + 1) xs all.1)

numbered_length : {A : Type 0} (n : ℕ) (xs : List A) → length (numbered_from n xs) ≡ length xs
numbered_length n [] = refl
numbered_length n (x ∷ xs) = ap (λ k. suc k) (numbered_length (n + 1) xs)

pub numbered_map : {A B : Type 0} (f : A → B) (n : ℕ) (xs : List A) → numbered_from n (map f xs) ≡ map (λ x. (x.0, f x.1)) (numbered_from n xs)
numbered_map f n [] = refl
numbered_map f n (x ∷ xs) = ap (λ ys. (n, f x) ∷ ys) (numbered_map f (n + 1) xs)

pub numbered_append : {A : Type 0} (n : ℕ) (xs ys : List A) → numbered_from n (xs ++ ys) ≡ numbered_from n xs ++ numbered_from (n + length xs) ys
numbered_append n [] ys = ap (λ k. numbered_from k ys) (omega arith)
numbered_append n (x ∷ xs) ys = ap (λ zs. (n, x) ∷ zs) (numbered_append (n + 1) xs ys ∙ ap (λ k. numbered_from (n + 1) xs ++ numbered_from k ys) (omega arith))

pub map_second : {A : Type 0} (n : ℕ) (xs : List A) → map (λ x. x.1) (numbered_from n xs) ≡ xs
map_second n [] = refl
map_second n (x ∷ xs) = ap (λ ys. x ∷ ys) (map_second (n + 1) xs)

map_append : {A B : Type 0} (f : A → B) (xs ys : List A) → map f (xs ++ ys) ≡ map f xs ++ map f ys
map_append f [] ys = refl
map_append f (x ∷ xs) ys = ap (λ zs. f x ∷ zs) (map_append f xs ys)

map_map : {A B D : Type 0} (g : B → D) (f : A → B) (xs : List A) → map g (map f xs) ≡ map (λ x. g (f x)) xs
map_map g f [] = refl
map_map g f (x ∷ xs) = ap (λ ys. g (f x) ∷ ys) (map_map g f xs)

-- ---- what is dealt

module _ {K : Type 0} (workers first : ℕ) (calls : List (PlainCall K)) (journal : List (ℕ × Journalled K)) (dealt : IsDealt workers first calls journal) where
  below_workers : (n : ℕ) → n % workers < workers
  below_workers n = let some = dealt.some in omega arith

  -- an entry was made by the worker of its call, and speaks
  pub entries_own : Each (λ x. worker_of workers x.1.call ≡ x.1.pass) journal
  entries_own =
      each_part (λ p x. worker_of workers x.1.call ≡ p) (λ x. x.1.pass) workers journal dealt.passes
      (λ p less.
      each_of_map (λ (x : ℕ × PlainCall K). worker_of workers x.1 ≡ p) (λ (x : ℕ × Journalled K). (x.0, x.1.call)) (filter (λ x. x.1.pass == p) journal)
      (subst (Each (λ (x : ℕ × PlainCall K). worker_of workers x.1 ≡ p)) (sym (dealt.parts p less))
      (each_weaker (λ x. (worker_of workers x.1 == p) ≡ true) (λ x. worker_of workers x.1 ≡ p) (λ x h. eqb-true (worker_of workers x.1) p h) (filter (λ x. worker_of workers x.1 == p) (numbered_from first calls))
      (each_passes (λ x. worker_of workers x.1 == p) (numbered_from first calls)))))

  pub entries_speak : Each (λ x. Speaks x.1.call) journal
  entries_speak =
      each_part (λ p x. Speaks x.1.call) (λ x. x.1.pass) workers journal dealt.passes
      (λ p less.
      each_of_map (λ (x : ℕ × PlainCall K). Speaks x.1) (λ (x : ℕ × Journalled K). (x.0, x.1.call)) (filter (λ x. x.1.pass == p) journal)
      (subst (Each (λ (x : ℕ × PlainCall K). Speaks x.1)) (sym (dealt.parts p less))
      (each_filter (λ (x : ℕ × PlainCall K). Speaks x.1) (λ x. worker_of workers x.1 == p) (numbered_from first calls) (each_numbered Speaks first calls dealt.speak))))

  -- there are as many entries as lines
  pub as_many : length journal ≡ length calls
  as_many =
      counted (λ x. x.1.pass) workers journal dealt.passes
      ∙ below_alike (λ p. length (filter (λ x. x.1.pass == p) journal)) (λ p. length (filter (λ x. worker_of workers x.1 == p) (numbered_from first calls))) workers
      (λ p less. sym (length-map (filter (λ x. x.1.pass == p) journal) (λ (x : ℕ × Journalled K). (x.0, x.1.call))) ∙ ap length (dealt.parts p less))
      ∙ sym (counted (λ x. worker_of workers x.1) workers (numbered_from first calls) (each_numbered (λ c. worker_of workers c < workers) first calls (all_below calls)))
      ∙ numbered_length first calls
    where
      all_below : (cs : List (PlainCall K)) → Each (λ c. worker_of workers c < workers) cs
      all_below [] = tt
      all_below (c ∷ cs) = (below_workers (unwrap_or (call_face c) 0), all_below cs)

  abbrev names : ℕ → PlainCall K → Bool
  names face c = is_some_and (call_face c) (λ n. n == face)

  names_worker : (face : ℕ) (c : PlainCall K) → names face c ≡ true → worker_of workers c ≡ face % workers
  names_worker face c h = by_face (call_face c) h
    where
      by_face : (o : Option ℕ) → is_some_and o (λ n. n == face) ≡ true → unwrap_or o 0 % workers ≡ face % workers
      by_face None h = cc
      by_face (Some n) h = ap (λ k. k % workers) (eqb-true n face h)

  abbrev as_line : ℕ × PlainCall K → ℕ × PlainLine K
  as_line x = (x.0, Speak x.1)

  abbrev with_call : ℕ × Journalled K → ℕ × PlainCall K
  with_call x = (x.0, x.1.call)

  -- the lines of one face stand as they stood
  each_face_stands : (face : ℕ) → filter (speaks_for face) (map (λ x. (x.0, Speak x.1.call)) journal) ≡ filter (speaks_for face) (map as_line (numbered_from first calls))
  each_face_stands face =
      let p = face % workers in
      filter_map (speaks_for face) (λ x. (x.0, Speak x.1.call)) journal
      ∙ ap (map (λ x. (x.0, Speak x.1.call))) (sym (filter_within (λ x. names face x.1.call) (λ x. x.1.pass == p) journal own))
      ∙ sym (map_map as_line with_call (filter (λ x. names face x.1.call) (filter (λ x. x.1.pass == p) journal)))
      ∙ ap (map as_line) (sym (filter_map (λ (x : ℕ × PlainCall K). names face x.1) with_call (filter (λ x. x.1.pass == p) journal)) ∙ ap (filter (λ x. names face x.1)) (dealt.parts p (below_workers face))
      ∙ filter_within (λ x. names face x.1) (λ x. worker_of workers x.1 == p) (numbered_from first calls) (theirs (numbered_from first calls)))
      ∙ sym (filter_map (speaks_for face) as_line (numbered_from first calls))
    where
      own : Each (λ x. names face x.1.call ≡ true → (x.1.pass == face % workers) ≡ true) journal
      own =
          each_weaker (λ x. worker_of workers x.1.call ≡ x.1.pass) (λ x. names face x.1.call ≡ true → (x.1.pass == face % workers) ≡ true)
          (λ x is h. eq-eqb x.1.pass (face % workers) (sym is ∙ names_worker face x.1.call h)) journal entries_own

      theirs : (xs : List (ℕ × PlainCall K)) → Each (λ x. names face x.1 ≡ true → (worker_of workers x.1 == face % workers) ≡ true) xs
      theirs [] = tt
      theirs (x ∷ xs) = ((λ h. eq-eqb (worker_of workers x.1) (face % workers) (names_worker face x.1 h)), theirs xs)

  -- ---- the whole script

  module _ (cmp : K → K → Ordering) (matching : K → K → Bool) (line : PlainLine K) (makings : List (PlainLine K)) where
    abbrev script : List (ℕ × PlainLine K)
    script = numbered_from 1 (script_of line makings calls)

    abbrev order : List (ℕ × PlainLine K)
    order = order_of line makings journal

    abbrev front : List (ℕ × PlainLine K)
    front = (1, line) ∷ numbered_from 2 makings

    script_is : first ≡ 2 + length makings → script ≡ front ++ map as_line (numbered_from first calls)
    script_is at_ =
        ap (λ (xs : List (ℕ × PlainLine K)). (1, line) ∷ xs)
        (numbered_append 2 makings (map (λ c. Speak c) calls) ∙ ap (λ xs. numbered_from 2 makings ++ xs) (ap (λ k. numbered_from k (map (λ c. Speak c) calls)) (sym at_) ∙ numbered_map (λ (c : PlainCall K). Speak c) first calls))

    abbrev spoken : List (ℕ × PlainLine K)
    spoken = map (λ x. (x.0, Speak x.1.call)) journal

    spoken_speak : Each (λ x. is_speaking x.1 ≡ true) spoken
    spoken_speak = all journal
      where
        all : (xs : List (ℕ × Journalled K)) → Each (λ (x : ℕ × PlainLine K). is_speaking x.1 ≡ true) (map (λ x. (x.0, Speak x.1.call)) xs)
        all [] = tt
        all (x ∷ xs) = (refl, all xs)

    lines_speak : (xs : List (ℕ × PlainCall K)) → Each (λ x. is_speaking x.1 ≡ true) (map as_line xs)
    lines_speak [] = tt
    lines_speak (x ∷ xs) = (refl, lines_speak xs)

    abbrev is_silent : ℕ × PlainLine K → Bool
    is_silent x = not (is_speaking x.1)

    none_silent : (xs : List (ℕ × PlainLine K)) → Each (λ x. is_speaking x.1 ≡ true) xs → filter is_silent xs ≡ []
    none_silent xs all = filter_none is_silent xs (each_weaker (λ x. is_speaking x.1 ≡ true) (λ x. is_silent x ≡ false) (λ x h. ap not h) xs all)

    makings_stand : first ≡ 2 + length makings → filter is_silent order ≡ filter is_silent script
    makings_stand at_ =
        filter_append is_silent front spoken
        ∙ ap (λ xs. filter is_silent front ++ xs) (none_silent spoken spoken_speak ∙ sym (none_silent (map as_line (numbered_from first calls)) (lines_speak (numbered_from first calls))))
        ∙ sym (filter_append is_silent front (map as_line (numbered_from first calls)))
        ∙ ap (filter is_silent) (sym (script_is at_))

    faces_stand : first ≡ 2 + length makings → (face : ℕ) → filter (speaks_for face) order ≡ filter (speaks_for face) script
    faces_stand at_ face =
        filter_append (speaks_for face) front spoken
        ∙ ap (λ xs. filter (speaks_for face) front ++ xs) (each_face_stands face)
        ∙ sym (filter_append (speaks_for face) front (map as_line (numbered_from first calls)))
        ∙ ap (filter (speaks_for face)) (sym (script_is at_))

    lengths : first ≡ 2 + length makings → length order ≡ length script
    lengths at_ =
        length-append front spoken
        ∙ ap (λ k. length front + k) (length-map journal (λ (x : ℕ × Journalled K). let y : ℕ × PlainLine K = (x.0, Speak x.1.call) in y) ∙ as_many ∙ sym (numbered_length first calls) ∙ sym (length-map (numbered_from first calls) as_line))
        ∙ sym (length-append front (map as_line (numbered_from first calls)))
        ∙ ap length (sym (script_is at_))

    -- the lines in that order, and what they call
    pub order_lines : map (λ x. x.1) order ≡ line ∷ (makings ++ map (λ (e : Journalled K). Speak e.call) (map (λ x. x.1) journal))
    order_lines =
        ap (λ xs. line ∷ xs)
        (map_append (λ (x : ℕ × PlainLine K). x.1) (numbered_from 2 makings) spoken
        ∙ ap (λ xs. xs ++ map (λ (x : ℕ × PlainLine K). x.1) spoken) (map_second 2 makings)
        ∙ ap (λ xs. makings ++ xs) (map_map (λ (x : ℕ × PlainLine K). x.1) (λ (x : ℕ × Journalled K). (x.0, Speak x.1.call)) journal ∙ sym (map_map (λ (e : Journalled K). Speak e.call) (λ (x : ℕ × Journalled K). x.1) journal)))

    -- lines that speak behind those that open faces
    pub makings_before : (ms more : List (PlainLine K)) → Each (λ m. is_making m ≡ true) ms → list_all is_speaking more ≡ true → are_makings_first (ms ++ more) ≡ true
    makings_before [] [] making speaking = refl
    makings_before [] (m ∷ more) making speaking = or_right_true (is_making m && are_makings_first more) speaking
      where
        or_right_true : (a : Bool) {b : Bool} → b ≡ true → (a || b) ≡ true
        or_right_true true h = refl
        or_right_true false h = h
    makings_before (m ∷ ms) more making speaking =
        let rest = makings_before ms more making.1 speaking in
        ap (λ b. (b && are_makings_first (ms ++ more)) || list_all is_speaking (m ∷ (ms ++ more))) making.0
        ∙ ap (λ b. b || list_all is_speaking (m ∷ (ms ++ more))) rest

    pub all_speaking : (cs : List (PlainCall K)) → list_all is_speaking (map (λ c. Speak c) cs) ≡ true
    all_speaking [] = refl
    all_speaking (c ∷ cs) = all_speaking cs

    -- The order is one of the script, where the gateway is made.
    pub is_reordered : first ≡ 2 + length makings → ((more : List (PlainLine K)) → is_driven (line ∷ more) ≡ are_makings_first more) → Each (λ m. is_making m ≡ true) makings → starts_none cmp matching script ≡ false → IsReordered cmp matching script order
    is_reordered at_ begins making starts = record {
      same_length = lengths at_;
      makings = makings_stand at_;
      makings_first =
          ap is_driven order_lines ∙ begins _
          ∙ makings_before makings (map (λ (e : Journalled K). Speak e.call) (map (λ x. x.1) journal)) making (ap (list_all is_speaking) (sym (map_map (λ (c : PlainCall K). Speak c) (λ (e : Journalled K). e.call) (map (λ x. x.1) journal))) ∙ all_speaking (map (λ e. e.call) (map (λ x. x.1) journal)));
      each_face = faces_stand at_;
      unstarted = λ none. never none starts;
    }
