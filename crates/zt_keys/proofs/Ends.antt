-- The chunks at the ends of two texts.
use Rattle.std.proofs.Common.{◌≡◌, ◌⊎◌, inl, inr, ℕ, zero, suc, ◌+◌, ◌-◌, ◌≤◌, ◌<◌, Bool, true, false, List, [], ◌∷◌, ◌++◌, length, take, drop, get_or, map, refl, sym, ap, ◌∙◌, eqb, arith, take_all, length-drop}
use Rattle.std.specs.List.{list_any, onto_first}
use Rattle.std.proofs.lemmas.Bool.{false≢true}
use Rattle.zt_keys.specs.Test.{by_test}
use Rattle.zt_keys.specs.Chunks.{is_double}
use Rattle.zt_keys.proofs.Pieces.{is_many-part}
use Rattle.zt_keys.specs.Parts.{Part, many, part_of, is_many, meets, parts_match}
use Rattle.zt_keys.specs.Meet.{Meet, ends, left_none, left_takes, right_none, right_takes, both, flip, match-to, match-from, no_match}
use Rattle.zt_keys.specs.Walking.{pieces, walked, is_slash}

-- a chunk by itself
piece-alone : (bytes : List ℕ) → 0 < length bytes → list_any is_slash bytes ≡ false → pieces bytes ≡ bytes ∷ []
piece-alone [] h n = absurd (omega arith)
piece-alone (b ∷ []) h n = by_test (is_slash b) (λ e. absurd (false≢true (sym (rw e at n)))) (λ e. rw e refl)
piece-alone (b ∷ c ∷ bytes) h n =
    by_test (is_slash b)
    (λ e. absurd (false≢true (sym (rw e at n))))
    (λ e. rw e (ap (onto_first b) (piece-alone (c ∷ bytes) (omega arith) (rw e at n))))

pieces-some : (b : ℕ) (bytes : List ℕ) → (x : List ℕ) × (xs : List (List ℕ)) × (pieces (b ∷ bytes) ≡ x ∷ xs)
pieces-some b bytes = by_test (is_slash b) (λ e. ([], pieces bytes, rw e refl)) (λ e. let w = onto (pieces bytes) in (w.0, w.1, rw e w.2))
  where
    onto : (ps : List (List ℕ)) → (x : List ℕ) × (xs : List (List ℕ)) × (onto_first b ps ≡ x ∷ xs)
    onto [] = (b ∷ [], [], refl)
    onto (p ∷ ps) = (b ∷ p, ps, refl)

onto-append : (b : ℕ) (ps qs : List (List ℕ)) (x : List ℕ) (xs : List (List ℕ)) → ps ≡ x ∷ xs → onto_first b (ps ++ qs) ≡ onto_first b ps ++ qs
onto-append b [] qs x xs e = cc
onto-append b (p ∷ ps) qs x xs e = refl

-- what stands before the last `/`, and what behind it
pieces-end : (m : ℕ) (text : List ℕ) → suc (suc m) < length text → is_slash (get_or text m 0) ≡ false → is_slash (get_or text (suc m) 0) ≡ true
    → list_any is_slash (drop (suc (suc m)) text) ≡ false → pieces text ≡ pieces (take (suc m) text) ++ drop (suc (suc m)) text ∷ []
pieces-end zero [] l h g n = absurd (omega arith)
pieces-end zero (b ∷ []) l h g n = absurd (omega arith)
pieces-end zero (b ∷ c ∷ text) l h g n = rw (h, g, piece-alone text (omega arith) n) refl
pieces-end (suc m) [] l h g n = absurd (omega arith)
pieces-end (suc m) (b ∷ []) l h g n = absurd (omega arith)
pieces-end (suc m) (b ∷ c ∷ text) l h g n =
    let rest = pieces-end m (c ∷ text) (omega arith) h g n in
    let some = pieces-some c (take m text) in
    by_test (is_slash b)
    (λ e. rw e (ap (λ ps. [] ∷ ps) rest))
    (λ e. rw e (ap (onto_first b) rest ∙ onto-append b (pieces (c ∷ take m text)) (drop (suc m) text ∷ []) some.0 some.1 some.2))

map-append-one : (ps : List (List ℕ)) (p : List ℕ) → map part_of (ps ++ p ∷ []) ≡ map part_of ps ++ part_of p ∷ []
map-append-one [] p = refl
map-append-one (q ∷ ps) p = ap (λ rest. part_of q ∷ rest) (map-append-one ps p)

pub walked-end : (text : List ℕ) (start : ℕ) → 2 ≤ start → start < length text → is_slash (get_or text (start - 2) 0) ≡ false → get_or text (start - 1) 0 ≡ 47
    → list_any is_slash (drop start text) ≡ false
    → walked text ≡ walked (take (start - 1) text) ++ part_of (take (length text - start) (drop start text)) ∷ []
walked-end text zero l k h g n = absurd (omega arith)
walked-end text (suc zero) l k h g n = absurd (omega arith)
walked-end text (suc (suc m)) l k h g n =
    let two : suc (suc m) - 2 ≡ m = omega arith in
    let one : suc (suc m) - 1 ≡ suc m = omega arith in
    let long : length (drop (suc (suc m)) text) ≤ length text - suc (suc m) = omega (arith, length-drop (suc (suc m)) text) in
    rw (take_all (length text - suc (suc m)) (drop (suc (suc m)) text) long, one)
    (ap (map part_of) (pieces-end m text k (rw two at h) (ap is_slash (rw one at g)) n) ∙ map-append-one (pieces (take (suc m) text)) (drop (suc (suc m)) text))

-- chunks at the ends, neither of which is `**`

-- the first part of a list that ends in `x`
abbrev Split : List Part → Part → Part → List Part → Type 0
Split xs x u us = ((u ≡ x) × (us ≡ []) × (xs ≡ [])) ⊎ ((rest : List Part) × (xs ≡ u ∷ rest) × (us ≡ rest ++ x ∷ []))

split : (xs : List Part) (x u : Part) (us : List Part) → u ∷ us ≡ xs ++ x ∷ [] → Split xs x u us
split [] x u us e = inl (cc, cc, refl)
split (v ∷ xs) x u us e = inr (xs, cc, cc)

not_empty : (xs : List Part) (x : Part) → [] ≡ xs ++ x ∷ [] → ⊥
not_empty [] x e = cc
not_empty (v ∷ xs) x e = cc

not_many : {x : Part} → is_many x ≡ false → many ≡ x → ⊥
not_many h e = false≢true (sym h ∙ ap is_many (sym e))

by_split : {T : Type 0} (xs : List Part) (x u : Part) (us : List Part) → u ∷ us ≡ xs ++ x ∷ [] → (u ≡ x → us ≡ [] → xs ≡ [] → T) → ((rest : List Part) → xs ≡ u ∷ rest → us ≡ rest ++ x ∷ [] → T) → T
by_split {T} xs x u us e only more = go (split xs x u us e)
  where
    go : Split xs x u us → T
    go (inl w) = only w.0 w.1 w.2
    go (inr w) = more w.0 w.1 w.2

only_many : {us vs : List Part} → Meet us vs → (xs : List Part) (x : Part) → is_many x ≡ false → us ≡ xs ++ x ∷ [] → vs ≡ [] → ⊥
only_many ends xs x h e f = not_empty xs x e
only_many (left_none {xs = us} m) xs x h e f = by_split xs x many us e (λ a b c. not_many h a) (λ rest a b. only_many m rest x h b f)
only_many (left_takes t m) xs x h e f = cc
only_many (right_none m) xs x h e f = cc
only_many (right_takes t m) xs x h e f = cc
only_many (both t m) xs x h e f = cc

abbrev Ends : List Part → List Part → Part → Part → Type 0
Ends xs ys x y = (meets x y ≡ true) × Meet xs ys

last_meet : {us vs : List Part} → Meet us vs → (xs ys : List Part) (x y : Part) → is_many x ≡ false → is_many y ≡ false → us ≡ xs ++ x ∷ [] → vs ≡ ys ++ y ∷ [] → Ends xs ys x y
last_meet ends xs ys x y h g e f = absurd (not_empty xs x e)
last_meet (left_none {xs = us} m) xs ys x y h g e f =
    by_split xs x many us e (λ a b c. absurd (not_many h a))
    (λ rest a b. let r = last_meet m rest ys x y h g b f in (r.0, rw a (left_none r.1)))
last_meet (right_none {ys = vs} m) xs ys x y h g e f =
    by_split ys y many vs f (λ a b c. absurd (not_many g a))
    (λ rest a b. let r = last_meet m xs rest x y h g e b in (r.0, rw a (right_none r.1)))
last_meet (left_takes {xs = us} {ys = vs} {y = v} t m) xs ys x y h g e f =
    by_split xs x many us e (λ a b c. absurd (not_many h a))
    (λ left a b. by_split ys y v vs f (λ a' b' c'. absurd (only_many m xs x h e b'))
    (λ right a' b'. let r = last_meet m xs right x y h g e b' in (r.0, rw (a, a') (left_takes t (rw a at r.1)))))
last_meet (right_takes {xs = us} {ys = vs} {x = u} t m) xs ys x y h g e f =
    by_split ys y many vs f (λ a b c. absurd (not_many g a))
    (λ right a b. by_split xs x u us e (λ a' b' c'. absurd (only_many (flip m) ys y g f b'))
    (λ left a' b'. let r = last_meet m left ys x y h g b' f in (r.0, rw (a', a) (right_takes t (rw a at r.1)))))
last_meet (both {xs = us} {ys = vs} {x = u} {y = v} t m) xs ys x y h g e f =
    by_split xs x u us e
    (λ a b c. by_split ys y v vs f (λ a' b' c'. (rw (a, a') at t, rw (c, c') ends)) (λ right a' b'. absurd (only_many (flip m) right y g b' b)))
    (λ left a b. by_split ys y v vs f (λ a' b' c'. absurd (only_many m left x h b b'))
    (λ right a' b'. let r = last_meet m left right x y h g b b' in (r.0, rw (a, a') (both t r.1))))

-- where the chunks at the ends don't meet, no more do the texts

abbrev pub NoMeet : List ℕ → List ℕ → Type 0
NoMeet a b = Meet (walked a) (walked b) → ⊥

-- what stands before the last chunks meets as well
pub meet-before : (a b before_a before_b x y : List ℕ) → walked a ≡ walked before_a ++ part_of x ∷ [] → walked b ≡ walked before_b ++ part_of y ∷ []
    → is_double x ≡ false → is_double y ≡ false → Meet (walked a) (walked b) → (meets (part_of x) (part_of y) ≡ true) × Meet (walked before_a) (walked before_b)
meet-before a b before_a before_b x y e f h g m =
    last_meet m (walked before_a) (walked before_b) (part_of x) (part_of y) (is_many-part x ∙ h) (is_many-part y ∙ g) e f

pub ends-apart : (first second : List ℕ) → NoMeet first second → parts_match (walked first) (walked second) ≡ false
ends-apart first second h = no_match h
