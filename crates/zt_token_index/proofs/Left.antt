-- Pairs of which the first ones are gone: what stands among those left, and what an edit there does.
use Rattle.std.proofs.Common.{◌≡◌, ℕ, ◌+◌, ◌≤◌, zero, suc, List, [], ◌∷◌, length, drop, get_or, set, Some, Ok, Err, ap, sym, ◌∙◌, arith, suc-add, zero-add}
use Rattle.std.proofs.lemmas.List.{drop-drop, drop-set-add, get_or-drop}
use Rattle.std.specs.Cmp.{nat_cmp_total}
use Rattle.std.specs.List.{insert, remove}
use Rattle.std.specs.Ordering.{nat_cmp}
use Rattle.zt_ordered.specs.Placing.{find-place, put-gap, set-place}
use Rattle.zt_ordered.specs.Rows.{place}
use Rattle.zt_token_index.specs.Told.{id_of, with_face}
use Rattle.zt_token_index.proofs.Pairs.{find-id}

drop-insert : {X : Type 0} (n i : ℕ) (x : X) (xs : List X) → n ≤ length xs → drop n (insert xs (n + i) x) ≡ insert (drop n xs) i x
drop-insert zero i x xs h = ap (λ k. insert xs k x) (zero-add i)
drop-insert (suc n) i x [] h = absurd (omega arith)
drop-insert (suc n) i x (y ∷ xs) h = ap (λ k. drop (suc n) (insert (y ∷ xs) k x)) (suc-add n i) ∙ drop-insert n i x xs (omega arith)

drop-remove : {X : Type 0} (n i : ℕ) (xs : List X) → n ≤ length xs → drop n (remove xs (n + i)) ≡ remove (drop n xs) i
drop-remove zero i xs h = ap (remove xs) (zero-add i)
drop-remove (suc n) i [] h = absurd (omega arith)
drop-remove (suc n) i (y ∷ xs) h = ap (λ k. drop (suc n) (remove (y ∷ xs) k)) (suc-add n i) ∙ drop-remove n i xs (omega arith)

module _ (gone : ℕ) (pairs left : List (ℕ × ℕ)) (is : drop gone pairs ≡ left) where
  read-there : (at : ℕ) (pair : ℕ × ℕ) → pair ≡ get_or pairs (gone + at) pair → pair ≡ get_or left at pair
  read-there at pair read = read ∙ sym (get_or-drop gone pairs at pair) ∙ ap (λ l. get_or l at pair) is

  -- the face has a place
  pub put-there : (face id at : ℕ) (pair : ℕ × ℕ) → place nat_cmp face left ≡ Ok at → pair ≡ get_or pairs (gone + at) pair → drop gone (set pairs (gone + at) (pair.0, id)) ≡ with_face face id left
  put-there face id at pair there read =
      drop-set-add gone pairs at (pair.0, id)
      ∙ ap (λ l. set l at (pair.0, id)) is
      ∙ set-place nat_cmp nat_cmp_total face id left at pair there (read-there at pair read)

  pub known-there : (face at : ℕ) (pair : ℕ × ℕ) → place nat_cmp face left ≡ Ok at → pair ≡ get_or pairs (gone + at) pair → Some pair.1 ≡ id_of face left
  known-there face at pair there read =
      ap (λ (p : ℕ × ℕ). Some p.1) (read-there at pair read)
      ∙ sym (find-place nat_cmp nat_cmp_total face left at pair there)
      ∙ find-id face left

  -- it gets one
  pub put-between : (face id at : ℕ) → gone ≤ length pairs → place nat_cmp face left ≡ Err at → drop gone (insert pairs (gone + at) (face, id)) ≡ with_face face id left
  put-between face id at within gap =
      drop-insert gone at (face, id) pairs within
      ∙ ap (λ l. insert l at (face, id)) is
      ∙ sym (put-gap nat_cmp nat_cmp_total face id left at gap)

  -- one goes
  pub less-first : drop (gone + 1) pairs ≡ remove left 0
  less-first = sym (drop-drop 1 gone pairs) ∙ ap (drop 1) is

  pub less-later : (at : ℕ) → gone ≤ length pairs → drop gone (remove pairs (gone + at)) ≡ remove left at
  less-later at within = drop-remove gone at pairs within ∙ ap (λ l. remove l at) is
