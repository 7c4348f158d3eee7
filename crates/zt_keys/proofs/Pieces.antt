-- The chunks of a text as the walk takes them.
use Rattle.std.proofs.Common.{◌≡◌, ℕ, zero, suc, ◌+◌, ◌-◌, ◌≤◌, ◌<◌, Bool, true, false, cond, not, ◌&&◌, ◌⊎◌, inl, inr, map, List, [], ◌∷◌, length, take, drop, Option, Some, None, refl, sym, ap, ◌∙◌, arith, eqb, ltb, nat_eq, length-drop, take_all, add-one}
use Rattle.std.specs.List.{position, position_or_len, onto_first}
use Rattle.std.specs.Cmp.Lexicographic.{pointwise, same_text}
use Rattle.std.proofs.lemmas.Bool.{false≢true, ltb-true, ltb-false, eqb-true}
use Rattle.zt_keys.specs.Chunks.{is_double, is_single}
use Rattle.zt_keys.specs.Parts.{Part, many, part_of, is_marked, is_many, is_free, meets}
use Rattle.zt_keys.specs.Meet.{is_many-true}
use Rattle.std.specs.Option.{option_or, option_map, is_some}
use Rattle.std.specs.Borrow.{Bor}
use Rattle.zt_keys.specs.Walking.{pieces, walked, walked_one, walked_two, after_many, find_place, stops, last_many, width, strip}
use Rattle.zt_keys.specs.Test.{by_test}

abbrev is_slash : ℕ → Bool
is_slash b = eqb b 47

pieces-cut : (bytes : List ℕ) → position_or_len is_slash bytes < length bytes → pieces bytes ≡ take (position_or_len is_slash bytes) bytes ∷ pieces (drop (suc (position_or_len is_slash bytes)) bytes)
pieces-cut [] h = absurd (omega arith)
pieces-cut (b ∷ bytes) h =
    by_test (eqb b 47)
    (λ e. rw e refl)
    (λ e.
    let less : 1 + position_or_len is_slash bytes < suc (length bytes) = rw e at h in
    let one_more : 1 + position_or_len is_slash bytes ≡ suc (position_or_len is_slash bytes) = omega arith in
    rw e (rw (pieces-cut bytes (omega arith), one_more) refl))

pieces-whole : (bytes : List ℕ) → length bytes ≤ position_or_len is_slash bytes → 0 < length bytes → pieces bytes ≡ bytes ∷ []
pieces-whole [] h g = absurd (omega arith)
pieces-whole (b ∷ []) h g = by_test (eqb b 47) (λ e. absurd (let l : 1 ≤ 0 = rw e at h in omega arith)) (λ e. rw e refl)
pieces-whole (b ∷ c ∷ bytes) h g =
    by_test (eqb b 47)
    (λ e. absurd (let l : suc (suc (length bytes)) ≤ 0 = rw e at h in omega arith))
    (λ e.
    let l : suc (suc (length bytes)) ≤ 1 + position_or_len is_slash (c ∷ bytes) = rw e at h in
    let more : suc (length bytes) ≤ position_or_len is_slash (c ∷ bytes) = omega arith in
    rw e (ap (onto_first b) (pieces-whole (c ∷ bytes) more (omega arith))))

pub pieces-at : (bytes : List ℕ) (n : ℕ) → Some n ≡ position is_slash bytes → pieces bytes ≡ take n bytes ∷ pieces (take (length bytes - (n + 1)) (drop (n + 1) bytes))
pieces-at bytes n h =
    by_test (ltb (position_or_len is_slash bytes) (length bytes))
    (λ e.
    let same : Some n ≡ Some (position_or_len is_slash bytes) = rw e at h in
    let n_is : n ≡ position_or_len is_slash bytes = cc in
    let next_is : n + 1 ≡ suc n = omega arith in
    let long : length (drop (suc n) bytes) ≤ length bytes - suc n = omega (arith, length-drop (suc n) bytes) in
    rw next_is (rw (take_all (length bytes - suc n) (drop (suc n) bytes) long) (rw n_is (pieces-cut bytes (ltb-true _ _ e)))))
    (λ e. let none : Some n ≡ None = rw e at h in cc)

pub pieces-last : (bytes : List ℕ) → None ≡ position is_slash bytes → 0 < length bytes → pieces bytes ≡ bytes ∷ []
pieces-last bytes h g =
    by_test (ltb (position_or_len is_slash bytes) (length bytes))
    (λ e. let some : None ≡ Some (position_or_len is_slash bytes) = rw e at h in cc)
    (λ e. pieces-whole bytes (ltb-false _ _ e) g)

-- what chunks stand for

single-unmarked : (c : List ℕ) → is_single c ≡ true → is_marked c ≡ false
single-unmarked [] h = refl
single-unmarked (b ∷ []) h = rw (eqb-true b 42 h) refl
single-unmarked (b ∷ d ∷ c) h = absurd (false≢true h)

double-unmarked : (c : List ℕ) → is_double c ≡ true → is_marked c ≡ false
double-unmarked [] h = refl
double-unmarked (b ∷ []) h = absurd (false≢true h)
double-unmarked (b ∷ d ∷ []) h = by_test (eqb b 42) (λ e. rw (eqb-true b 42 e) refl) (λ e. absurd (false≢true (rw e at h)))
double-unmarked (b ∷ d ∷ e ∷ c) h = absurd (false≢true h)

pub is_many-part : (c : List ℕ) → is_many (part_of c) ≡ is_double c
unfolding part_of
is_many-part c = by_test (is_double c) (λ d. rw d refl) (λ d. by_test (is_single c) (λ s. rw (d, s) refl) (λ s. by_test (is_marked c) (λ m. rw (d, s, m) refl) (λ m. rw (d, s, m) refl)))

pub is_free-part : (c : List ℕ) → is_free (part_of c) ≡ not (is_marked c)
unfolding part_of
is_free-part c =
    by_test (is_double c)
    (λ d. rw (d, double-unmarked c d) refl)
    (λ d. by_test (is_single c) (λ s. rw (d, s, single-unmarked c s) refl) (λ s. by_test (is_marked c) (λ m. rw (d, s, m) refl) (λ m. rw (d, s, m) refl)))

pub meets-single : (a b : List ℕ) → is_double b ≡ false → is_double a ≡ false → is_single a ≡ true → not (is_marked b) ≡ meets (part_of a) (part_of b)
unfolding part_of
meets-single a b db da s =
    rw (da, s)
    (by_test (is_single b) (λ t. rw (db, t, single-unmarked b t) refl) (λ t. by_test (is_marked b) (λ m. rw (db, t, m) refl) (λ m. rw (db, t, m) refl)))

apart : (a b : List ℕ) → (is_marked a ≡ is_marked b → ⊥) → pointwise nat_eq a b ≡ false
apart a b h = by_test (pointwise nat_eq a b) (λ e. absurd (h (ap is_marked (same_text a b (sym e))))) (λ e. e)

pub meets-named : (a b : List ℕ) → is_double a ≡ false → is_double b ≡ false → is_single a ≡ false → is_single b ≡ false → pointwise nat_eq a b ≡ meets (part_of a) (part_of b)
unfolding part_of
meets-named a b da db sa sb =
    rw (da, db, sa, sb)
    (by_test (is_marked a)
    (λ m. by_test (is_marked b) (λ n. rw (m, n) refl) (λ n. rw (m, n) (apart a b (λ e. false≢true (sym n ∙ sym e ∙ m)))))
    (λ m. by_test (is_marked b) (λ n. rw (m, n) (apart a b (λ e. false≢true (sym m ∙ e ∙ n)))) (λ n. rw (m, n) refl)))

-- a step of each walk, where the chunk `c` comes next

pub after-double : (rest : List Part) (c : List ℕ) (xs : List Part) → rest ≡ part_of c ∷ xs → is_double c ≡ true → Some xs ≡ after_many rest
after-double rest c xs h d = rw h (rw (is_many-part c, d) refl)

pub after-other : (rest : List Part) (c : List ℕ) (xs : List Part) → rest ≡ part_of c ∷ xs → is_double c ≡ false → None ≡ after_many rest
after-other rest c xs h d = rw h (rw (is_many-part c, d) refl)

pub walked-some : (bytes : List ℕ) → 0 < length bytes → (x : Part) × (xs : List Part) × (walked bytes ≡ x ∷ xs)
walked-some [] h = absurd (omega arith)
walked-some (b ∷ bytes) h =
    by_test (eqb b 47) (λ e. (part_of [], map part_of (pieces bytes), ap (λ t. map part_of (cond t ([] ∷ pieces bytes) (onto_first b (pieces bytes)))) e))
    (λ e. let w = onto (pieces bytes) in (w.0, w.1, ap (λ t. map part_of (cond t ([] ∷ pieces bytes) (onto_first b (pieces bytes)))) e ∙ w.2))
  where
    onto : (parts : List (List ℕ)) → (x : Part) × (xs : List Part) × (map part_of (onto_first b parts) ≡ x ∷ xs)
    onto [] = (part_of (b ∷ []), [], refl)
    onto (part ∷ parts) = (part_of (b ∷ part), map part_of parts, refl)

is_some-map : {A B : Type 0} (f : A → B) (o : Option A) → is_some (option_map f o) ≡ is_some o
is_some-map f None = refl
is_some-map f (Some x) = refl

pub stops-after : (bytes : List ℕ) (after : Option (Bor (List ℕ))) → 0 < length bytes → option_map walked_one after ≡ after_many (walked bytes) → is_some after ≡ stops (walked bytes)
stops-after bytes after h e =
    let w = walked-some bytes h in
    sym (is_some-map walked_one after) ∙ ap is_some e ∙ rw w.2 (by_test (is_many w.0) (λ m. rw m refl) (λ m. rw m refl))

pub after_many-is : (xs t : List Part) → Some t ≡ after_many xs → xs ≡ many ∷ t
after_many-is [] t h = cc
after_many-is (x ∷ xs) t h = by_test (is_many x) (λ e. let w : Some t ≡ Some xs = rw e at h in let same : t ≡ xs = cc in rw (is_many-true x e, same) refl) (λ e. let w : Some t ≡ None = rw e at h in cc)

pub last-marked : (rest : List Part) (c : List ℕ) (xs : List Part) → rest ≡ part_of c ∷ xs → is_marked c ≡ true → last_many rest ≡ None
last-marked rest c xs h m = rw h (rw (is_free-part c, m) refl)

pub last-double : (rest : List Part) (c : List ℕ) (xs : List Part) (last : Option (List Part)) → rest ≡ part_of c ∷ xs → is_marked c ≡ false → is_double c ≡ true → option_or (last_many xs) (Some xs) ≡ option_or (last_many rest) last
last-double rest c xs last h m d = rw h (rw (is_free-part c, m, is_many-part c, d) (kept (last_many xs)))
  where
    kept : (o : Option (List Part)) → option_or o (Some xs) ≡ option_or (option_or o (Some xs)) last
    kept None = refl
    kept (Some t) = refl

pub last-other : (rest : List Part) (c : List ℕ) (xs : List Part) (last : Option (List Part)) → rest ≡ part_of c ∷ xs → is_marked c ≡ false → is_double c ≡ false → option_or (last_many xs) last ≡ option_or (last_many rest) last
last-other rest c xs last h m d = rw h (rw (is_free-part c, m, is_many-part c, d) (kept (last_many xs)))
  where
    kept : (o : Option (List Part)) → option_or o last ≡ option_or (option_or o None) last
    kept None = refl
    kept (Some t) = refl

pub width-marked : (rest : List Part) (c : List ℕ) (xs : List Part) → rest ≡ part_of c ∷ xs → is_marked c ≡ true → width rest ≡ 0
width-marked rest c xs h m = rw h (rw (is_free-part c, m) refl)

pub width-next : (rest : List Part) (c : List ℕ) (xs : List Part) → rest ≡ part_of c ∷ xs → is_marked c ≡ false → width rest ≡ suc (width xs)
width-next rest c xs h m = rw h (rw (is_free-part c, m) refl)

pub segment-marked : (rest : List Part) (c : List ℕ) (xs : List Part) → rest ≡ part_of c ∷ xs → is_marked c ≡ true → rest ≡ drop (width rest) rest
segment-marked rest c xs h m = ap (λ n. drop n rest) (sym (width-marked rest c xs h m))

pub segment-next : (rest : List Part) (c : List ℕ) (xs : List Part) → rest ≡ part_of c ∷ xs → is_marked c ≡ false → drop (width xs) xs ≡ drop (width rest) rest
segment-next rest c xs h m = rw (width-next rest c xs h m) (rw h refl)

pub segment-ended : (rest : List Part) → rest ≡ [] → rest ≡ drop (width rest) rest
segment-ended [] h = refl
segment-ended (x ∷ xs) h = cc

pub strip-first : (a b : List Part) (x y : List ℕ) (xs ys : List Part) → a ≡ part_of x ∷ xs → b ≡ part_of y ∷ ys → is_double x ≡ true → Some (a, b) ≡ strip a b
strip-first a b x y xs ys h g d = rw (h, g) (rw (is_many-part x, d) refl)

pub strip-second : (a b : List Part) (x y : List ℕ) (xs ys : List Part) → a ≡ part_of x ∷ xs → b ≡ part_of y ∷ ys → is_double y ≡ true → Some (a, b) ≡ strip a b
strip-second a b x y xs ys h g d = rw (h, g) (rw (is_many-part x, is_many-part y, d) (by_test (is_double x) (λ e. rw e refl) (λ e. rw e refl)))

pub strip-fail : (a b : List Part) (x y : List ℕ) (xs ys : List Part) → a ≡ part_of x ∷ xs → b ≡ part_of y ∷ ys → is_double x ≡ false → is_double y ≡ false → meets (part_of x) (part_of y) ≡ false → None ≡ strip a b
strip-fail a b x y xs ys h g d e m = rw (h, g) (rw (is_many-part x, is_many-part y, d, e, m) refl)

pub strip-ended : (a b : List Part) → (a ≡ []) ⊎ (b ≡ []) → strip a b ≡ cond (stops a && stops b) (Some (a, b)) None
strip-ended [] [] h = refl
strip-ended [] (y ∷ ys) h = by_test (is_many y) (λ e. rw e refl) (λ e. rw e refl)
strip-ended (x ∷ xs) [] h = by_test (is_many x) (λ e. rw e refl) (λ e. rw e refl)
strip-ended (x ∷ xs) (y ∷ ys) (inl e) = cc
strip-ended (x ∷ xs) (y ∷ ys) (inr e) = cc

drop-empty : (n : ℕ) → drop {A = Part} n [] ≡ []
drop-empty zero = refl
drop-empty (suc n) = refl

pub drop-nothing : (xs : List Part) (n m : ℕ) → [] ≡ drop n xs → n ≤ m → [] ≡ drop m xs
drop-nothing [] n m h l = sym (drop-empty m)
drop-nothing (x ∷ xs) zero m h l = cc
drop-nothing (x ∷ xs) (suc n) zero h l = absurd (omega arith)
drop-nothing (x ∷ xs) (suc n) (suc m) h l = drop-nothing xs n m h (omega arith)

drop-suc : (xs : List Part) (n : ℕ) (y : Part) (ys : List Part) → drop n xs ≡ y ∷ ys → drop (suc n) xs ≡ ys
drop-suc [] zero y ys h = cc
drop-suc [] (suc n) y ys h = cc
drop-suc (x ∷ xs) zero y ys h = cc
drop-suc (x ∷ xs) (suc n) y ys h = drop-suc xs n y ys h

pub drop-next : (xs rest : List Part) (n : ℕ) (y : Part) (ys : List Part) → rest ≡ drop n xs → rest ≡ y ∷ ys → ys ≡ drop (n + 1) xs
drop-next xs rest n y ys h g = rw add-one (sym (drop-suc xs n y ys (sym h ∙ g)))

pub walked-nothing : (bytes : List ℕ) → length bytes ≡ 0 → walked bytes ≡ []
walked-nothing [] h = refl
walked-nothing (b ∷ bytes) h = absurd (omega arith)

-- the first place that fits

pub find-found : (xs ys : List Part) (found : Option (Bor (List ℕ) × Bor (List ℕ))) → option_map walked_two found ≡ strip xs ys → is_some found ≡ true → option_map walked_two found ≡ find_place xs ys
find-found xs ys None e h = cc
find-found xs [] (Some r) e h = e
find-found xs (y ∷ ys) (Some r) e h = rw (← e) refl

is_some-none : (found : Option (Bor (List ℕ) × Bor (List ℕ))) {o : Option (List Part × List Part)} → option_map walked_two found ≡ o → is_some found ≡ false → o ≡ None
is_some-none None e h = sym e
is_some-none (Some r) e h = cc

pub find-marked : (xs rest : List Part) (found : Option (Bor (List ℕ) × Bor (List ℕ))) (c : List ℕ) (ys : List Part) → option_map walked_two found ≡ strip xs rest → is_some found ≡ false → rest ≡ part_of c ∷ ys → is_marked c ≡ true → None ≡ find_place xs rest
find-marked xs rest found c ys e h g m =
    let none : strip xs (part_of c ∷ ys) ≡ None = ap (strip xs) (sym g) ∙ is_some-none found e h in
    rw g (rw (none, is_free-part c, m) refl)

pub find-next : (xs rest : List Part) (found : Option (Bor (List ℕ) × Bor (List ℕ))) (c : List ℕ) (ys : List Part) → option_map walked_two found ≡ strip xs rest → is_some found ≡ false → rest ≡ part_of c ∷ ys → is_marked c ≡ false → find_place xs ys ≡ find_place xs rest
find-next xs rest found c ys e h g m =
    let none : strip xs (part_of c ∷ ys) ≡ None = ap (strip xs) (sym g) ∙ is_some-none found e h in
    rw g (rw (none, is_free-part c, m) refl)

pub find-end : (xs ys : List Part) → ys ≡ [] → strip xs ys ≡ find_place xs ys
find-end xs [] h = refl
find-end xs (y ∷ ys) h = cc
