-- The turns of the walk: each keeps whether the texts match.
use Rattle.std.proofs.Common.{◌≡◌, ℕ, ◌-◌, ◌≤◌, ◌<◌, Bool, true, false, List, [], ◌∷◌, drop, Option, Some, None, refl, sym, ap, ◌∙◌}
use Rattle.std.specs.Prelude.{unwrap_or, MatchOption}
use Rattle.std.specs.Option.{option_map, is_some}
use Rattle.std.specs.Borrow.{Bor}
use Rattle.std.proofs.lemmas.Bool.{false≢true}
use Rattle.zt_keys.specs.Parts.{Part, many, is_many, meets, parts_match}
use Rattle.zt_keys.specs.Meet.{parts_match-sym, parts_match-itself}
use Rattle.zt_keys.specs.Walking.{walked, walked_one, walked_two, width, last_many, after_many, strip, find_place, GoesOn}
use Rattle.zt_keys.specs.Test.{by_test}
use Rattle.zt_keys.proofs.Passing.{MatchesAs, past_front, past_place, past_both, past_last, past_short, past_rest, strip-single}
use Rattle.zt_keys.proofs.Pieces.{after_many-is}

-- where a walk stops: both have ended, or `**` comes next in one

abbrev BothEnded : List Part × List Part → Type 0
BothEnded rest = (rest.0 ≡ []) × (rest.1 ≡ [])

none_ended : {rest : List Part × List Part} → None ≡ Some rest → BothEnded rest
none_ended e = cc

not_after : (x : Part) (xs rest : List Part) → is_many x ≡ true → x ∷ xs ≡ rest → after_many rest ≡ None → ⊥
not_after x xs rest n e h = let f : after_many (x ∷ xs) ≡ None = ap after_many e ∙ h in let g : Some xs ≡ None = rw n at f in cc

left_of : {p rest : List Part × List Part} → Some p ≡ Some rest → p.0 ≡ rest.0
left_of {p} {rest} e = let w : p ≡ rest = cc in ap (λ (r : List Part × List Part). r.0) w

right_of : {p rest : List Part × List Part} → Some p ≡ Some rest → p.1 ≡ rest.1
right_of {p} {rest} e = let w : p ≡ rest = cc in ap (λ (r : List Part × List Part). r.1) w

stopped : (xs ys : List Part) (rest : List Part × List Part) → strip xs ys ≡ Some rest → after_many rest.0 ≡ None → after_many rest.1 ≡ None → BothEnded rest
stopped [] [] rest e h g = (sym (left_of e), sym (right_of e))
stopped [] (y ∷ ys) rest e h g = by_test (is_many y) (λ n. absurd (not_after y ys rest.1 n (right_of (rw n at e)) g)) (λ n. none_ended (rw n at e))
stopped (x ∷ xs) [] rest e h g = by_test (is_many x) (λ n. absurd (not_after x xs rest.0 n (left_of (rw n at e)) h)) (λ n. none_ended (rw n at e))
stopped (x ∷ xs) (y ∷ ys) rest e h g =
    by_test (is_many x)
    (λ n. absurd (not_after x xs rest.0 n (left_of (rw n at e)) h))
    (λ n. by_test (is_many y)
    (λ k. absurd (not_after y ys rest.1 k (right_of (rw (n, k) at e)) g))
    (λ k.
    let e' = sym (strip-single x y xs ys n k) ∙ e in
    by_test (meets x y) (λ m. stopped xs ys rest (rw m at e') h g) (λ m. none_ended (rw m at e'))))

-- the texts match so far as `whole` says, or what is left of them does

abbrev pub Says : Option (Bor (List ℕ) × Bor (List ℕ)) → Bool → Type 0
Says answer whole = MatchOption answer (whole ≡ false) (λ rest. whole ≡ parts_match (walked rest.0.now) (walked rest.1.now))

pub front-some : (xs ys : List Part) (rest : List Part × List Part) → Some rest ≡ strip xs ys → parts_match xs ys ≡ parts_match rest.0 rest.1
front-some xs ys rest e = rw (← e) at (past_front xs ys)

pub front-none : (xs ys : List Part) (whole : Bool) → parts_match xs ys ≡ whole → None ≡ strip xs ys → false ≡ whole
front-none xs ys whole w e = let f : parts_match xs ys ≡ false = rw (← e) at (past_front xs ys) in sym f ∙ w

pub front-ended : (xs ys us vs : List Part) (whole : Bool) → parts_match xs ys ≡ whole → Some (us, vs) ≡ strip xs ys → None ≡ after_many us → None ≡ after_many vs → true ≡ whole
front-ended xs ys us vs whole w e h g =
    let b = stopped xs ys (us, vs) (sym e) (sym h) (sym g) in
    sym (parts_match-itself []) ∙ sym (rw (b.0, b.1) at (front-some xs ys (us, vs) e)) ∙ w

says-from : (answer : Option (Bor (List ℕ) × Bor (List ℕ))) (xs ys : List Part) (whole : Bool) → parts_match xs ys ≡ whole → GoesOn answer xs ys → Says answer whole
says-from None xs ys whole w h = sym w ∙ h
says-from (Some rest) xs ys whole w h = sym w ∙ h

pub turn-first : (answer : Option (Bor (List ℕ) × Bor (List ℕ))) (xs ys us vs t : List Part) (whole : Bool) → parts_match xs ys ≡ whole → Some (us, vs) ≡ strip xs ys → Some t ≡ after_many us → GoesOn answer (many ∷ t) vs → Says answer whole
turn-first answer xs ys us vs t whole w e h g =
    says-from answer (many ∷ t) vs whole (sym (front-some xs ys (us, vs) e ∙ ap (λ p. parts_match p vs) (after_many-is us t h)) ∙ w) g

pub turn-second : (answer : Option (Bor (List ℕ) × Bor (List ℕ))) (xs ys us vs t : List Part) (whole : Bool) → parts_match xs ys ≡ whole → Some (us, vs) ≡ strip xs ys → Some t ≡ after_many vs → GoesOn answer (many ∷ t) us → Says answer whole
turn-second answer xs ys us vs t whole w e h g =
    says-from answer (many ∷ t) us whole (sym (front-some xs ys (us, vs) e ∙ ap (parts_match us) (after_many-is vs t h) ∙ parts_match-sym us (many ∷ t)) ∙ w) g

pub says-none : (answer passed : Option (Bor (List ℕ) × Bor (List ℕ))) (whole : Bool) → passed ≡ answer → passed ≡ None → Says answer whole → false ≡ whole
says-none None passed whole e h s = sym s
says-none (Some rest) passed whole e h s = cc

pub says-some : (answer passed : Option (Bor (List ℕ) × Bor (List ℕ))) (rest : Bor (List ℕ) × Bor (List ℕ)) (whole : Bool) → passed ≡ answer → passed ≡ Some rest → Says answer whole → parts_match (walked rest.0.now) (walked rest.1.now) ≡ whole
says-some None passed rest whole e h s = cc
says-some (Some found) passed rest whole e h s = let w : rest ≡ found = cc in rw w (sym s)

-- behind a `**`

unwrap_or-map : (o : Option (Bor (List ℕ))) (d : Bor (List ℕ)) → walked_one (unwrap_or o d) ≡ unwrap_or (option_map walked_one o) (walked_one d)
unwrap_or-map None d = refl
unwrap_or-map (Some r) d = refl

pub behind-both : (xs ys ty us vs : List Part) (o : Option (Bor (List ℕ))) (d r : Bor (List ℕ)) → xs ≡ walked_one d → option_map walked_one o ≡ last_many xs → r ≡ unwrap_or o d → Some ty ≡ last_many ys
    → us ≡ drop (width (walked_one r) - width ty) (walked_one r) → vs ≡ drop (width ty - width (walked_one r)) ty → parts_match (many ∷ xs) ys ≡ parts_match us vs
behind-both xs ys ty us vs o d r x e u h f g =
    let t : walked_one r ≡ unwrap_or (last_many xs) xs = ap walked_one u ∙ unwrap_or-map o d ∙ ap (λ m. unwrap_or m (walked_one d)) e ∙ ap (unwrap_or (last_many xs)) (sym x) in
    past_both xs ys (walked_one r) ty (sym h) t ∙ ap (λ p. parts_match p (drop (width ty - width (walked_one r)) ty)) (sym f) ∙ ap (parts_match us) (sym g)

last-found : (o : Option (Bor (List ℕ))) (xs : List Part) → option_map walked_one o ≡ last_many xs → is_some o ≡ true → (t : List Part) × (last_many xs ≡ Some t)
last-found None xs e h = absurd (false≢true h)
last-found (Some r) xs e h = (walked_one r, sym e)

last-missing : (o : Option (Bor (List ℕ))) (xs : List Part) → option_map walked_one o ≡ last_many xs → is_some o ≡ false → last_many xs ≡ None
last-missing None xs e h = sym e
last-missing (Some r) xs e h = cc

goes-from : (answer : Option (Bor (List ℕ) × Bor (List ℕ))) (xs ys : List Part) → MatchesAs (option_map walked_two answer) xs ys → GoesOn answer xs ys
goes-from None xs ys h = h
goes-from (Some rest) xs ys h = h

pub behind-place : (xs ys : List Part) (o : Option (Bor (List ℕ))) (answer : Option (Bor (List ℕ) × Bor (List ℕ))) → option_map walked_one o ≡ last_many xs → is_some o ≡ true → None ≡ last_many ys → option_map walked_two answer ≡ find_place xs ys → GoesOn answer (many ∷ xs) ys
behind-place xs ys o answer e h g f =
    let w = last-found o xs e h in
    goes-from answer (many ∷ xs) ys (rw f (past_place xs ys w.0 w.1 (sym g)))

pub behind-short : (xs ys : List Part) (o : Option (Bor (List ℕ))) → option_map walked_one o ≡ last_many xs → is_some o ≡ false → None ≡ last_many ys → width ys < width xs → parts_match (many ∷ xs) ys ≡ false
behind-short xs ys o e h g l = past_short xs ys (last-missing o xs e h) (sym g) l

pub behind-last : (xs ys vs : List Part) (o : Option (Bor (List ℕ))) → option_map walked_one o ≡ last_many xs → is_some o ≡ false → None ≡ last_many ys → width xs ≤ width ys
    → vs ≡ drop (width ys - width xs) ys → parts_match (many ∷ xs) ys ≡ parts_match xs vs
behind-last xs ys vs o e h g l k = past_last xs ys (last-missing o xs e h) (sym g) l ∙ ap (parts_match xs) (sym k)

pub behind-rest : (xs ys vs : List Part) → xs ≡ [] → vs ≡ drop (width ys) ys → parts_match (many ∷ xs) ys ≡ parts_match xs vs
behind-rest xs ys vs e k = rw (e, k) (past_rest ys)
