-- The entries of a journal with their lines.
use Rattle.std.proofs.Common.{◌≡◌, ℕ, zero, suc, ◌+◌, ◌<◌, ◌≤◌, Bool, ◌==◌, List, [], ◌∷◌, ◌++◌, length, map, filter, take, get_or, refl, sym, ap, ◌∙◌, subst, arith}
use Rattle.std.proofs.lemmas.List.{length-map, take_all}
use Rattle.std.specs.List.{AllByRecursion, fold, sum_by}
use Rattle.std.specs.declared.cmp.Ordering.{Ordering}
use Rattle.atomic_table.specs.Seated.{TableId}
use Rattle.zt_protocol.specs.Plain.{PlainCall}
use Rattle.zt_model.specs.Journal.{IsReplay, Journalled}
use Rattle.zt_model.specs.Transcript.{Each}
use Rattle.zt_laws.specs.Sound.{EachFrom}
use Rattle.zt_laws.proofs.Lists.{by_test, map-map}
use Rattle.zt_shared_value.specs.Account.{Accounts}
use Rattle.zt_shared_value.specs.Owned.{below, owned, owned_from}
use Rattle.zt_shared_value.specs.Passes.{Standing}
use Rattle.zt_shared.specs.Recorded.{Recorded}
use Rattle.zt_shared.specs.Sharing.{IsWholeJournal, entries_of, opening_of, pass_of}
use Rattle.zt_dealing.specs.Dealing.{HasDone, HaveLines, IsMadeByPasses, of_pass, with_lines}
use Rattle.zt_dealing.specs.declared.working.Done.{Done}

-- ---- members with lines

module _ {A : Type 0} where
  pub lines_map : {B : Type 0} (f : A → B) (ls : List ℕ) (xs : List A) → with_lines ls (map f xs) ≡ map (λ x. (x.0, f x.1)) (with_lines ls xs)
  lines_map f [] xs = refl
  lines_map f (l ∷ ls) [] = refl
  lines_map f (l ∷ ls) (x ∷ xs) = ap (λ ys. (l, f x) ∷ ys) (lines_map f ls xs)

  pub lines_more : (ls : List ℕ) (xs : List A) (l : ℕ) (x : A) → length ls ≡ length xs → with_lines (ls ++ l ∷ []) (xs ++ x ∷ []) ≡ with_lines ls xs ++ (l, x) ∷ []
  lines_more [] [] l x same = refl
  lines_more [] (y ∷ xs) l x same = absurd (omega arith)
  lines_more (k ∷ ls) [] l x same = absurd (omega arith)
  lines_more (k ∷ ls) (y ∷ xs) l x same = ap (λ ys. (k, y) ∷ ys) (lines_more ls xs l x (omega arith))

  seconds : (p : A → Bool) (ls : List ℕ) (xs : List A) → length ls ≡ length xs → map (λ x. x.1) (filter (λ x. p x.1) (with_lines ls xs)) ≡ filter p xs
  seconds p [] [] same = refl
  seconds p [] (x ∷ xs) same = absurd (omega arith)
  seconds p (l ∷ ls) [] same = absurd (omega arith)
  seconds p (l ∷ ls) (x ∷ xs) same =
      let rest = seconds p ls xs (omega arith) in
      by_test (p x) (λ here. rw here (ap (λ ys. x ∷ ys) rest)) (λ here. rw here rest)

  pub all_seconds : (ls : List ℕ) (xs : List A) → length ls ≡ length xs → map (λ x. x.1) (with_lines ls xs) ≡ xs
  all_seconds [] [] same = refl
  all_seconds [] (x ∷ xs) same = absurd (omega arith)
  all_seconds (l ∷ ls) [] same = absurd (omega arith)
  all_seconds (l ∷ ls) (x ∷ xs) same = ap (λ ys. x ∷ ys) (all_seconds ls xs (omega arith))

  each_with_lines : (P : A → Type 0) (ls : List ℕ) (xs : List A) → AllByRecursion P xs → Each (λ x. P x.1) (with_lines ls xs)
  each_with_lines P [] xs all = tt
  each_with_lines P (l ∷ ls) [] all = tt
  each_with_lines P (l ∷ ls) (x ∷ xs) all = (all.0, each_with_lines P ls xs all.1)

  -- two lists of pairs whose parts are alike
  paired : {B : Type 0} (f : A → B) (xs : List (ℕ × A)) (ys : List (ℕ × B)) → map (λ x. x.0) xs ≡ map (λ y. y.0) ys → map (λ x. f x.1) xs ≡ map (λ y. y.1) ys → map (λ x. (x.0, f x.1)) xs ≡ ys
  paired f [] [] one two = refl
  paired f [] (y ∷ ys) one two = absurd (cc)
  paired f (x ∷ xs) [] one two = absurd (cc)
  paired {B} f (x ∷ xs) (y ∷ ys) one two =
      let first : x.0 ≡ y.0 = cc in
      let second : f x.1 ≡ y.1 = cc in
      let firsts : map (λ (z : ℕ × A). z.0) xs ≡ map (λ (z : ℕ × B). z.0) ys = cc in
      let others : map (λ (z : ℕ × A). f z.1) xs ≡ map (λ (z : ℕ × B). z.1) ys = cc in
      let rest = paired f xs ys firsts others in
      ap (λ (n : ℕ). (n, f x.1) ∷ map (λ (z : ℕ × A). (z.0, f z.1)) xs) first ∙ ap (λ (b : B). (y.0, b) ∷ map (λ (z : ℕ × A). (z.0, f z.1)) xs) second ∙ ap (λ zs. y ∷ zs) rest

  -- what a pass has entered
  owned_part : (author : A → ℕ) (k n : ℕ) (xs : List A) → map (λ x. x.1) (owned_from author k n xs) ≡ filter (λ x. author x == n) xs
  owned_part author k n [] = refl
  owned_part author k n (x ∷ xs) =
      let rest = owned_part author (k + 1) n xs in
      by_test (author x == n) (λ here. rw here (ap (λ ys. x ∷ ys) rest)) (λ here. rw here rest)

-- ---- numbers of which there are as many as below their count

abbrev run : ℕ → ℕ → ℕ
run k zero = 0
run k (suc n) = k + run (k + 1) n

run_last : (k n : ℕ) → run k (suc n) ≡ run k n + (k + n)
run_last k zero = omega arith
run_last k (suc n) = let later = run_last (k + 1) n in omega arith

below_run : (n : ℕ) → below (λ i. i) n ≡ run 0 n
below_run zero = refl
below_run (suc n) = let before = below_run n in let last = run_last 0 n in omega arith

module _ {A : Type 0} (key : A → ℕ) where
  abbrev whole : List A → ℕ
  whole [] = 0
  whole (x ∷ xs) = key x + whole xs

  folded : (a : ℕ) (xs : List A) → fold (λ b x. b + key x) a xs ≡ a + whole xs
  folded a [] = omega arith
  folded a (x ∷ xs) = let rest = folded (a + key x) xs in omega arith

  whole_least : (k : ℕ) (xs : List A) → EachFrom (λ p x. p ≤ key x) k xs → run k (length xs) ≤ whole xs
  whole_least k [] all = omega arith
  whole_least k (x ∷ xs) all = let rest = whole_least (k + 1) xs all.1 in let here = all.0 in omega arith

  exact_from : (k : ℕ) (xs : List A) → EachFrom (λ p x. p ≤ key x) k xs → whole xs ≡ run k (length xs) → EachFrom (λ p x. key x ≡ p) k xs
  exact_from k [] all same = tt
  exact_from k (x ∷ xs) all same =
      let least = whole_least (k + 1) xs all.1 in
      let here = all.0 in
      (omega arith, exact_from (k + 1) xs all.1 (omega arith))

  exact : (xs : List A) → EachFrom (λ p x. p ≤ key x) 0 xs → sum_by key xs ≡ below (λ i. i) (length xs) → EachFrom (λ p x. key x ≡ p) 0 xs
  exact xs all same = exact_from 0 xs all (let one = folded 0 xs in let two = below_run (length xs) in omega arith)

each_from_weaker : {A : Type 0} (P Q : ℕ → A → Type 0) (k : ℕ) (xs : List A) → ((p : ℕ) (x : A) → P p x → Q p x) → EachFrom P k xs → EachFrom Q k xs
each_from_weaker P Q k [] h all = tt
each_from_weaker P Q k (x ∷ xs) h all = (h k x all.0, each_from_weaker P Q (k + 1) xs h all.1)

each_from_map : {A B : Type 0} (P : ℕ → B → Type 0) (f : A → B) (k : ℕ) (xs : List A) → EachFrom (λ p x. P p (f x)) k xs → EachFrom P k (map f xs)
each_from_map P f k [] all = tt
each_from_map P f k (x ∷ xs) all = (all.0, each_from_map P f (k + 1) xs all.1)

-- ---- what a worker has done

module _ {K : Type 0} (P : ℕ → Done K → Type 0) (R : ℕ → Standing (Recorded K) → Type 0) (Q : Standing (Recorded K) → Type 0) where
  pub record DoneAt (p i : ℕ) (all : List (Done K)) : Type 0 where
    pub done : Done K
    pub is : P p done
    pub numbered : R p done.pass
    pub accounted : Q done.pass
    pub queue : get_or (map (λ (d : Done K). d.lines.items) all) i [] ≡ done.lines.items

  done_at : (k p i : ℕ) (all : List (Done K)) → EachFrom P k all → EachFrom R k (map (λ d. d.pass) all) → AllByRecursion Q (map (λ d. d.pass) all) → p ≡ k + i → i < length all → DoneAt p i all
  done_at k p i [] are numbers accounts at_ less = absurd (omega arith)
  done_at k p zero (done ∷ all) are numbers accounts at_ less =
      let same : k ≡ p = omega arith in
      record { done = done; is = subst (λ n. P n done) same are.0; numbered = subst (λ n. R n done.pass) same numbers.0; accounted = accounts.0; queue = refl }
  done_at k p (suc i) (done ∷ all) are numbers accounts at_ less =
      let later = done_at (k + 1) p i all are.1 numbers.1 accounts.1 (omega arith) (omega arith) in
      record { done = later.done; is = later.is; numbered = later.numbered; accounted = later.accounted; queue = later.queue }

-- ---- the whole

module _ {K : Type 0} (cmp : K → K → Ordering) (matching : K → K → Bool) (table : TableId) (opening : Recorded K) (count : ℕ) (dealt : ℕ → List (ℕ × PlainCall K)) where
  -- the passes have the numbers from 0 on
  pub own_numbers : (all : List (Done K)) (journal : List (Journalled K)) → EachFrom (HasDone table opening dealt) 0 all → IsWholeJournal cmp matching journal (map (λ d. d.pass) all)
      → EachFrom (λ p pass. pass.number ≡ p) 0 (map (λ d. d.pass) all)
  own_numbers all journal are whole =
      exact (λ pass. pass.number) (map (λ (d : Done K). d.pass) all)
      (each_from_map (λ p pass. p ≤ pass.number) (λ (d : Done K). d.pass) 0 all (each_from_weaker (HasDone table opening dealt) (λ p d. p ≤ d.pass.number) 0 all (λ p d is. is.made.least) are))
      (whole.accounts.numbers (λ i. i))

  pub made_by_passes : (all : List (Done K)) (journal : List (Journalled K)) (lines : List ℕ) → 0 < count → length all ≡ count → EachFrom (HasDone table opening dealt) 0 all
      → IsWholeJournal cmp matching journal (map (λ d. d.pass) all) → HaveLines (map (λ d. d.lines.items) all) journal lines
      → IsMadeByPasses cmp matching count dealt opening.opening.rows journal lines
  made_by_passes all journal lines some many are whole have = record {
    long = have.long;
    replay = subst (λ g. IsReplay cmp matching journal g) opened whole.replay;
    passes = each_with_lines (λ e. e.pass < count) lines journal
        (subst (AllByRecursion (λ e. e.pass < count)) (sym whole.entries) (subst (λ n. AllByRecursion (λ e. e.pass < n) whole.last.entries) as_many whole.accounts.authors));
    parts = λ p less. parts p less;
  }
    where
      passes : List (Standing (Recorded K))
      passes = map (λ d. d.pass) all

      as_many : length passes ≡ count
      as_many = length-map all (λ (d : Done K). d.pass) ∙ many

      numbers : EachFrom (λ p pass. pass.number ≡ p) 0 passes
      numbers = own_numbers all journal are whole

      at_place : (p : ℕ) → p < count → DoneAt (HasDone table opening dealt) (λ p pass. pass.number ≡ p) (Accounts entries_of pass_of opening_of whole.last) p p all
      at_place p less = done_at (HasDone table opening dealt) (λ p pass. pass.number ≡ p) (Accounts entries_of pass_of opening_of whole.last) 0 p p all are numbers whole.accounts.each (omega arith) (omega arith)

      opened : whole.last.opening.rows ≡ opening.opening.rows
      opened = let first = at_place 0 some in ap (λ g. g.rows) (first.accounted.opened ∙ ap opening_of first.is.made.opening_is)

      parts : (p : ℕ) → p < count → map (λ x. (x.0, x.1.call)) (filter (λ x. x.1.pass == p) (with_lines lines journal)) ≡ dealt p
      parts p less =
          let found = at_place p less in
          let own = of_pass p journal in
          let theirs = dealt p in
          let made : map (λ (e : Journalled K). e.call) own ≡ map (λ x. x.1) theirs =
          ap (map (λ (e : Journalled K). e.call)) (sym (owned_part pass_of 0 p journal))
          ∙ map-map (λ (e : Journalled K). e.call) (λ (x : ℕ × Journalled K). x.1) (owned pass_of p journal)
          ∙ ap (λ es. map (λ (x : ℕ × Journalled K). x.1.call) (owned pass_of p es)) whole.entries
          ∙ ap (λ n. map (λ (x : ℕ × Journalled K). x.1.call) (owned pass_of n whole.last.entries)) (sym found.numbered)
          ∙ ap (map (λ (x : ℕ × Journalled K). x.1.call)) found.accounted.mine_whole
          ∙ found.is.made.made
          in
          let long : length own ≡ length theirs = sym (length-map own (λ (e : Journalled K). e.call)) ∙ ap length made ∙ length-map theirs (λ (x : ℕ × PlainCall K). x.1) in
          let queue : get_or (map (λ (d : Done K). d.lines.items) all) p [] ≡ map (λ x. x.0) theirs = found.queue ∙ found.is.lines in
          let queue_long : length (map (λ (x : ℕ × PlainCall K). x.0) theirs) ≤ length own = omega (arith, long, length-map theirs (λ (x : ℕ × PlainCall K). x.0)) in
          paired (λ (e : Journalled K). e.call) (filter (λ x. x.1.pass == p) (with_lines lines journal)) theirs
          (have.each p (omega (arith, many, length-map all (λ (d : Done K). d.lines.items))) ∙ ap (take (length own)) queue ∙ take_all (length own) (map (λ x. x.0) theirs) queue_long)
          (sym (map-map (λ (e : Journalled K). e.call) (λ (x : ℕ × Journalled K). x.1) (filter (λ x. x.1.pass == p) (with_lines lines journal)))
          ∙ ap (map (λ (e : Journalled K). e.call)) (seconds (λ e. e.pass == p) lines journal have.long) ∙ made)
