-- Answers with one more.
use Rattle.std.proofs.Common.{◌≡◌, ℕ, zero, suc, ◌+◌, ◌<◌, List, [], ◌∷◌, ◌++◌, length, map, take, get_or, refl, sym, ap, ◌∙◌, arith, append_assoc, length-append}
use Rattle.std.proofs.lemmas.List.{length-map, length-take, take_more}
use Rattle.zt_laws.proofs.Lists.{map-append}
use Rattle.zt_theorem_journal.specs.Dealt.{numbered_from}
use Rattle.zt_theorem_journal.proofs.Order.{numbered_append}
use Rattle.zt_dealing.specs.Dealing.{with_lines}
use Rattle.zt_dealing.proofs.OrderLemmas.{lines_more}

module _ {A B X : Type 0} (shown : A → ℕ × B) (entry_of : X → B) where
  -- numbered entries behind others
  pub number_more : (n line : ℕ) (first : List B) (answers answers' : List A) (xs : List X) (x : X) (a : A) → map shown answers ≡ numbered_from n (first ++ map entry_of xs) → answers' ≡ answers ++ a ∷ []
      → line ≡ n + length (first ++ map entry_of xs) → shown a ≡ (line, entry_of x) → map shown answers' ≡ numbered_from n (first ++ map entry_of (xs ++ x ∷ []))
  number_more n line first answers answers' xs x a is more place a_is =
      ap (map shown) more ∙ map-append shown answers (a ∷ []) ∙ ap (λ ys. ys ++ shown a ∷ []) is ∙ ap (λ y. numbered_from n (first ++ map entry_of xs) ++ y ∷ []) a_is
      ∙ ap (λ k. numbered_from n (first ++ map entry_of xs) ++ (k, entry_of x) ∷ []) place
      ∙ sym (numbered_append n (first ++ map entry_of xs) (entry_of x ∷ []))
      ∙ ap (numbered_from n) (append_assoc first (map entry_of xs) (entry_of x ∷ []) ∙ ap (λ ys. first ++ ys) (sym (map-append entry_of xs (x ∷ []))))

  -- entries with lines behind others
  pub line_more : (lines : List ℕ) (place : ℕ) (before answers answers' : List A) (xs : List X) (x : X) (a : A) (line d : ℕ) → map shown answers ≡ map shown before ++ with_lines (take place lines) (map entry_of xs)
      → answers' ≡ answers ++ a ∷ [] → place ≡ length xs → place < length lines → line ≡ get_or lines place d → shown a ≡ (line, entry_of x)
      → map shown answers' ≡ map shown before ++ with_lines (take (place + 1) lines) (map entry_of (xs ++ x ∷ []))
  line_more lines place before answers answers' xs x a line d is more long less line_is a_is =
      let taken : take (place + 1) lines ≡ take place lines ++ line ∷ [] = take_more lines place d less ∙ ap (λ l. take place lines ++ l ∷ []) (sym line_is) in
      let same : length (take place lines) ≡ length (map entry_of xs) = omega (arith, length-take place lines, length-map xs entry_of) in
      ap (map shown) more ∙ map-append shown answers (a ∷ []) ∙ ap (λ ys. ys ++ shown a ∷ []) is ∙ ap (λ y. (map shown before ++ with_lines (take place lines) (map entry_of xs)) ++ y ∷ []) a_is
      ∙ append_assoc (map shown before) (with_lines (take place lines) (map entry_of xs)) ((line, entry_of x) ∷ [])
      ∙ ap (λ ys. map shown before ++ ys) (sym (lines_more (take place lines) (map entry_of xs) line (entry_of x) same))
      ∙ ap (λ ls. map shown before ++ with_lines ls (map entry_of xs ++ entry_of x ∷ [])) (sym taken)
      ∙ ap (λ ys. map shown before ++ with_lines (take (place + 1) lines) ys) (sym (map-append entry_of xs (x ∷ [])))

same_at : {X B : Type 0} (b : B) (xs : List X) (i : ℕ) → get_or (map (λ _. b) xs) i b ≡ b
same_at b [] i = refl
same_at b (x ∷ xs) zero = refl
same_at b (x ∷ xs) (suc i) = same_at b xs i

module _ {A B X : Type 0} (shown : A → ℕ × B) where
  -- one more of alike entries behind others
  pub alike_more : (n i line : ℕ) (b : B) (xs : List X) (before answers answers' : List A) (a : A) → map shown answers ≡ map shown before ++ numbered_from n (take i (map (λ _. b) xs)) → answers' ≡ answers ++ a ∷ []
      → i < length xs → line ≡ n + i → shown a ≡ (line, b) → map shown answers' ≡ map shown before ++ numbered_from n (take (i + 1) (map (λ _. b) xs))
  alike_more n i line b xs before answers answers' a is more less place a_is =
      let all : List B = map (λ _. b) xs in
      let within : i < length all = omega (arith, length-map xs (λ (_ : X). b)) in
      let taken : take (i + 1) all ≡ take i all ++ b ∷ [] = take_more all i b within ∙ ap (λ y. take i all ++ y ∷ []) (same_at b xs i) in
      let at_ : line ≡ n + length (take i all) = omega (arith, length-take i all) in
      ap (map shown) more ∙ map-append shown answers (a ∷ []) ∙ ap (λ ys. ys ++ shown a ∷ []) is ∙ ap (λ y. (map shown before ++ numbered_from n (take i all)) ++ y ∷ []) a_is
      ∙ append_assoc (map shown before) (numbered_from n (take i all)) ((line, b) ∷ [])
      ∙ ap (λ ys. map shown before ++ ys) (ap (λ k. numbered_from n (take i all) ++ (k, b) ∷ []) at_ ∙ sym (numbered_append n (take i all) (b ∷ [])) ∙ ap (numbered_from n) (sym taken))

numbered_long : {A : Type 0} (n : ℕ) (xs : List A) → length (numbered_from n xs) ≡ length xs
numbered_long n [] = refl
numbered_long n (x ∷ xs) = ap suc (numbered_long (n + 1) xs)

module _ {A B : Type 0} (shown : A → ℕ × B) where
  -- how many there are with numbered ones behind them
  pub more_long : (n : ℕ) (bs : List B) (before answers : List A) → map shown answers ≡ map shown before ++ numbered_from n bs → length answers ≡ length before + length bs
  more_long n bs before answers is =
      omega (arith, ap length is, length-append (map shown before) (numbered_from n bs), length-map answers shown, length-map before shown, numbered_long n bs)

  -- one refused line, and more behind it
  pub refused_long : {X : Type 0} (one two three : List A) (b d : B) (xs : List X) → one ≡ [] → map shown two ≡ map shown one ++ numbered_from (length one + 1) (b ∷ [])
      → map shown three ≡ map shown two ++ numbered_from (length two + 1) (map (λ _. d) xs) → length three ≡ 1 + length xs
  refused_long {X} one two three b d xs none first second =
      omega (arith, more_long (length one + 1) (b ∷ []) one two first, ap length none, more_long (length two + 1) (map (λ _. d) xs) two three second, length-map xs (λ (_ : X). d))

  -- three times numbered ones behind each other
  pub three_more : (one two three four : List A) (b : B) (bs cs : List B) → one ≡ [] → map shown two ≡ map shown one ++ numbered_from (length one + 1) (b ∷ []) → map shown three ≡ map shown two ++ numbered_from (length two + 1) bs
      → map shown four ≡ map shown three ++ numbered_from (length three + 1) cs → map shown four ≡ numbered_from 1 (b ∷ (bs ++ cs))
  three_more one two three four b bs cs none first second third =
      let two_long : length two + 1 ≡ 2 = omega (arith, more_long (length one + 1) (b ∷ []) one two first, ap length none) in
      let three_long : length three + 1 ≡ 2 + length bs = omega (arith, more_long (length two + 1) bs two three second) in
      third
      ∙ ap (λ zs. zs ++ numbered_from (length three + 1) cs) (second ∙ ap (λ zs. zs ++ numbered_from (length two + 1) bs) (first ∙ ap (λ (zs : List A). map shown zs ++ numbered_from (length zs + 1) (b ∷ [])) none))
      ∙ ap (λ k. ((1, b) ∷ numbered_from k bs) ++ numbered_from (length three + 1) cs) two_long
      ∙ ap (λ k. (1, b) ∷ (numbered_from 2 bs ++ numbered_from k cs)) three_long
      ∙ ap (λ zs. (1, b) ∷ zs) (sym (numbered_append 2 bs cs))
