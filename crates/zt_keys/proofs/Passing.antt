-- The walk over two expressions finds whether they match.
use Rattle.std.proofs.Common.{◌≡◌, ℕ, zero, suc, ◌-◌, ◌≤◌, ◌<◌, true, false, cond, List, [], ◌∷◌, drop, Option, Some, None, refl, sym, ap, ◌∙◌, subst, arith, leb}
use Rattle.std.specs.Prelude.{unwrap_or}
use Rattle.std.specs.Option.{option_or}
use Rattle.std.proofs.lemmas.Bool.{false≢true, leb-true, leb-false}
use Rattle.zt_keys.specs.Parts.{Part, many, one, marked, plain, is_many, is_free, meets, parts_match}
use Rattle.zt_keys.specs.Meet.{Meet, ends, left_none, left_takes, right_none, right_takes, both, flip, meets-free, is_many-true, same_match, no_match}
use Rattle.zt_keys.specs.Walking.{last_many, width, strip, find_place}
use Rattle.zt_keys.specs.Test.{by_test}

-- a free part may become `**`
pub loosen : {x : Part} {xs ys : List Part} → is_free x ≡ true → Meet (x ∷ xs) ys → Meet (many ∷ xs) ys
loosen f (left_none m) = left_none m
loosen f (left_takes g m) = left_takes g m
loosen f (right_none m) = right_none (loosen f m)
loosen f (right_takes g m) = left_none m
loosen f (both {x = x} {y = y} e m) = left_takes (sym (meets-free x y e) ∙ f) (left_none m)

-- and `**` takes it in
pub absorb : {x : Part} {xs ys : List Part} → is_free x ≡ true → Meet (many ∷ x ∷ xs) ys → Meet (many ∷ xs) ys
absorb f (left_none m) = loosen f m
absorb f (left_takes g m) = left_takes g (absorb f m)
absorb f (right_none m) = right_none (absorb f m)
absorb f (right_takes g m) = loosen f m
absorb f (both e m) = absurd (false≢true e)

-- the parts up to the last `**` of a segment give way to it

none_some : {A : Type 0} {x : A} {G : Type 0} → None ≡ Some x → G
none_some e = cc

last_many-cons : (x : Part) (xs t : List Part) {G : Type 0} → last_many (x ∷ xs) ≡ Some t → (is_free x ≡ true → last_many xs ≡ Some t → G) → (last_many xs ≡ None → x ≡ many → xs ≡ t → G) → G
last_many-cons x xs t {G} h later here =
    by_test (is_free x)
    (λ f. go (last_many xs) refl f (rw f at h))
    (λ f. none_some (rw f at h))
  where
    go : (o : Option (List Part)) → last_many xs ≡ o → is_free x ≡ true → option_or o (cond (is_many x) (Some xs) None) ≡ Some t → G
    go (Some s) e f g = later f (e ∙ g)
    go None e f g =
        by_test (is_many x) (λ m. here e (is_many-true x m) (let w : Some xs ≡ Some t = rw m at g in cc)) (λ m. none_some (rw m at g))

to-last_many : {xs : List Part} (ys t : List Part) → last_many ys ≡ Some t → Meet xs (many ∷ ys) → Meet xs (many ∷ t)
to-last_many [] t h m = none_some h
to-last_many {xs} (y ∷ ys) t h m =
    last_many-cons y ys t h
    (λ f g. to-last_many ys t g (flip (absorb f (flip m))))
    (λ e y_is ys_is. rw (← ys_is) (flip (absorb refl (rw y_is at (flip m)))))

from-last_many : {xs : List Part} (ys t : List Part) → last_many ys ≡ Some t → Meet (many ∷ xs) (many ∷ t) → Meet (many ∷ xs) ys
from-last_many [] t h m = none_some h
from-last_many {xs} (y ∷ ys) t h m =
    last_many-cons y ys t h
    (λ f g. left_takes f (from-last_many ys t g m))
    (λ e y_is ys_is. rw (y_is, ys_is) m)

last_many-last : (ys t : List Part) → last_many ys ≡ Some t → last_many t ≡ None
last_many-last [] t h = none_some h
last_many-last (y ∷ ys) t h = last_many-cons y ys t h (λ f g. last_many-last ys t g) (λ e y_is ys_is. rw (← ys_is) e)

-- a part without a `**` in its segment
last_many-none : (x : Part) (xs : List Part) → last_many (x ∷ xs) ≡ None → is_free x ≡ true → (last_many xs ≡ None) × (is_many x ≡ false)
last_many-none x xs h f = go (last_many xs) refl (rw f at h)
  where
    go : (o : Option (List Part)) → last_many xs ≡ o → option_or o (cond (is_many x) (Some xs) None) ≡ None → (last_many xs ≡ None) × (is_many x ≡ false)
    go (Some s) e g = cc
    go None e g = by_test (is_many x) (λ m. let w : Some xs ≡ None = rw m at g in cc) (λ m. (e, m))

last_many-many : (xs : List Part) {G : Type 0} → last_many (many ∷ xs) ≡ None → G
last_many-many xs h = absurd (false≢true (sym (last_many-none many xs h refl).1))

last_many-tail : {G : Type 0} (x : Part) (xs : List Part) → last_many (x ∷ xs) ≡ None → (is_free x ≡ true → last_many xs ≡ None → is_many x ≡ false → G) → (is_free x ≡ false → G) → G
last_many-tail x xs h free other = by_test (is_free x) (λ f. let w = last_many-none x xs h f in free f w.0 w.1) other

-- segments without `**` meet at equal widths

Meet-width : {xs ys : List Part} → Meet xs ys → last_many xs ≡ None → last_many ys ≡ None → width xs ≡ width ys
Meet-width ends h g = refl
Meet-width (left_none {xs = xs} m) h g = last_many-many xs h
Meet-width (left_takes {xs = xs} f m) h g = last_many-many xs h
Meet-width (right_none {ys = ys} m) h g = last_many-many ys g
Meet-width (right_takes {ys = ys} f m) h g = last_many-many ys g
Meet-width (both {xs = xs} {ys = ys} {x = x} {y = y} e m) h g =
    last_many-tail x xs h
    (λ f t _. let f' : is_free y ≡ true = sym (meets-free x y e) ∙ f in rw (f, f') (ap suc (Meet-width m t (last_many-none y ys g f').0)))
    (λ f. let f' : is_free y ≡ false = sym (meets-free x y e) ∙ f in rw (f, f') refl)

record Fits (xs ys : List Part) : Type 0 where
  narrow : width xs ≤ width ys
  aligned : Meet xs (drop (width ys - width xs) ys)

drop-suc : (n : ℕ) (y : Part) (ys : List Part) → drop (suc n) (y ∷ ys) ≡ drop n ys
drop-suc n y ys = refl

fits-from : {xs ys : List Part} → Meet (many ∷ xs) ys → last_many xs ≡ None → last_many ys ≡ None → Fits xs ys
fits-from {xs} {ys} (left_none m) h g =
    let w = Meet-width m h g in
    let zero_is : width ys - width xs ≡ 0 = omega arith in
    record { narrow = omega arith; aligned = rw zero_is m }
fits-from {xs} (left_takes {ys = ys} {y = y} f m) h g =
    let w = fits-from m h (last_many-none y ys g f).0 in
    let n = w.narrow in
    let suc_is : suc (width ys) - width xs ≡ suc (width ys - width xs) = omega arith in
    record { narrow = rw f (omega arith); aligned = rw (f, suc_is) w.aligned }
fits-from (right_none {ys = ys} m) h g = last_many-many ys g
fits-from (right_takes {ys = ys} f m) h g = last_many-many ys g
fits-from (both e m) h g = absurd (false≢true e)

drops : {xs : List Part} (n : ℕ) (ys : List Part) → n ≤ width ys → Meet (many ∷ xs) (drop n ys) → Meet (many ∷ xs) ys
drops zero ys h m = m
drops (suc n) [] h m = m
drops (suc n) (y ∷ ys) h m =
    by_test (is_free y) (λ f. left_takes f (drops n ys (let l : suc n ≤ suc (width ys) = rw f at h in omega arith) m)) (λ f. absurd (let l : suc n ≤ 0 = rw f at h in omega arith))

fits-to : {xs ys : List Part} → Fits xs ys → Meet (many ∷ xs) ys
fits-to {xs} {ys} w = drops (width ys - width xs) ys (omega arith) (left_none w.aligned)

-- behind the last `**` of both segments the shorter rest is aligned with the end of the longer
abbrev Aligned : List Part → List Part → Type 0
Aligned xs ys = Meet (drop (width xs - width ys) xs) (drop (width ys - width xs) ys)

aligned-from_fits : {xs ys : List Part} → Fits xs ys → Aligned xs ys
aligned-from_fits {xs} {ys} w = let n = w.narrow in let zero_is : width xs - width ys ≡ 0 = omega arith in rw zero_is w.aligned

to-aligned : {xs ys : List Part} → Meet (many ∷ xs) (many ∷ ys) → last_many xs ≡ None → last_many ys ≡ None → Aligned xs ys
to-aligned {xs} {ys} (left_none m) h g = flip (aligned-from_fits (fits-from (flip m) g h))
to-aligned (left_takes f m) h g = aligned-from_fits (fits-from m h g)
to-aligned (right_none m) h g = aligned-from_fits (fits-from m h g)
to-aligned {xs} {ys} (right_takes f m) h g = flip (aligned-from_fits (fits-from (flip m) g h))
to-aligned (both e m) h g = absurd (false≢true e)

fits-from_aligned : {xs ys : List Part} → width xs ≤ width ys → Aligned xs ys → Fits xs ys
fits-from_aligned {xs} {ys} n m = let zero_is : width xs - width ys ≡ 0 = omega arith in record { narrow = n; aligned = rw zero_is at m }

from-aligned : {xs ys : List Part} → Aligned xs ys → Meet (many ∷ xs) (many ∷ ys)
from-aligned {xs} {ys} m =
    by_test (leb (width xs) (width ys))
    (λ e. right_none (fits-to (fits-from_aligned (leb-true _ _ e) m)))
    (λ e. flip (right_none (fits-to (fits-from_aligned (let l : width ys < width xs = leb-false _ _ e in omega arith) (flip m)))))

-- the fronts that meet one by one

single-tails : {xs ys : List Part} (x y : Part) → is_many x ≡ false → is_many y ≡ false → Meet (x ∷ xs) (y ∷ ys) → (meets x y ≡ true) × Meet xs ys
single-tails x y h g (left_none m) = absurd (false≢true (sym h))
single-tails x y h g (left_takes f m) = absurd (false≢true (sym h))
single-tails x y h g (right_none m) = absurd (false≢true (sym g))
single-tails x y h g (right_takes f m) = absurd (false≢true (sym g))
single-tails x y h g (both e m) = (e, m)

ended-left : {ys : List Part} (y : Part) → Meet [] (y ∷ ys) → is_many y ≡ true
ended-left y (right_none m) = refl

record Same (xs ys us vs : List Part) : Type 0 where
  there : Meet xs ys → Meet us vs
  back : Meet us vs → Meet xs ys

-- what a walk's answer says of two expressions
abbrev Answers : Option (List Part × List Part) → List Part → List Part → Type 0
Answers None xs ys = Meet xs ys → ⊥
Answers (Some rest) xs ys = Same xs ys rest.0 rest.1

same-itself : (xs ys : List Part) → Same xs ys xs ys
same-itself xs ys = record { there = λ m. m; back = λ m. m }

same-then : {xs ys us vs : List Part} (o : Option (List Part × List Part)) → Same xs ys us vs → Answers o us vs → Answers o xs ys
same-then None s a = λ m. a (s.there m)
same-then (Some rest) s a = record { there = λ m. a.there (s.there m); back = λ m. s.back (a.back m) }

pub strip-single : (x y : Part) (xs ys : List Part) → is_many x ≡ false → is_many y ≡ false → strip (x ∷ xs) (y ∷ ys) ≡ cond (meets x y) (strip xs ys) None
strip-single x y xs ys h g = rw (h, g) refl

strip-answers : (xs ys : List Part) → Answers (strip xs ys) xs ys
strip-answers [] [] = same-itself [] []
strip-answers [] (y ∷ ys) = by_test (is_many y) (λ e. rw e (same-itself [] (y ∷ ys))) (λ e. rw e (λ m. false≢true (sym e ∙ ended-left y m)))
strip-answers (x ∷ xs) [] = by_test (is_many x) (λ e. rw e (same-itself (x ∷ xs) [])) (λ e. rw e (λ m. false≢true (sym e ∙ ended-left x (flip m))))
strip-answers (x ∷ xs) (y ∷ ys) =
    by_test (is_many x)
    (λ h. rw h (same-itself (x ∷ xs) (y ∷ ys)))
    (λ h. by_test (is_many y)
    (λ g. rw (h, g) (same-itself (x ∷ xs) (y ∷ ys)))
    (λ g. by_test (meets x y)
    (λ e. rw (strip-single x y xs ys h g, e) (same-then (strip xs ys) (record { there = λ m. (single-tails x y h g m).1; back = λ m. both e m }) (strip-answers xs ys)))
    (λ e. rw (strip-single x y xs ys h g, e) (λ m. false≢true (sym e ∙ (single-tails x y h g m).0)))))

-- where what follows a `**` up to the next fits at a place, no later place is better

at_rest : {p rest : List Part × List Part} → Some p ≡ Some rest → Meet p.0 p.1 → Meet rest.0 rest.1
at_rest {p} {rest} e m = let w : p ≡ rest = cc in let P : List Part × List Part → Type 0 = λ r. Meet r.0 r.1 in subst P w m

commit-here : (x : Part) (xs ys : List Part) (rest : List Part × List Part) → is_many x ≡ true → Some (x ∷ xs, ys) ≡ Some rest → Meet (many ∷ x ∷ xs) ys → Meet rest.0 rest.1
commit-here x xs ys rest h e m = at_rest e (rw (is_many-true x h) (absorb refl (rw (is_many-true x h) at m)))

commit-step : {xs ys : List Part} (x y : Part) → is_free x ≡ true → is_many x ≡ false → is_many y ≡ false → Meet (many ∷ x ∷ xs) (y ∷ ys) → Meet (many ∷ xs) ys
commit-step x y f h g (left_none m) = left_none (single-tails x y h g m).1
commit-step x y f h g (left_takes e m) = absorb f m
commit-step x y f h g (right_none m) = absurd (false≢true (sym g))
commit-step x y f h g (right_takes e m) = absurd (false≢true (sym g))
commit-step x y f h g (both e m) = absurd (false≢true e)

last_many-single : (x : Part) (xs t : List Part) → is_many x ≡ false → last_many (x ∷ xs) ≡ Some t → (is_free x ≡ true) × (last_many xs ≡ Some t)
last_many-single x xs t h e = last_many-cons x xs t e (λ f g. (f, g)) (λ n x_is _. absurd (false≢true (sym h ∙ ap is_many x_is)))

fixed-single : (y : Part) (ys : List Part) → last_many (y ∷ ys) ≡ None → is_many y ≡ false
fixed-single many ys h = last_many-many ys h
fixed-single one ys h = refl
fixed-single (marked c) ys h = refl
fixed-single (plain c) ys h = refl

commit : (xs ys t : List Part) (rest : List Part × List Part) → last_many xs ≡ Some t → last_many ys ≡ None → strip xs ys ≡ Some rest → Meet (many ∷ xs) ys → Meet rest.0 rest.1
commit [] ys t rest h g e m = none_some h
commit (x ∷ xs) [] t rest h g e m = by_test (is_many x) (λ n. commit-here x xs [] rest n (rw n at e) m) (λ n. none_some (rw n at e))
commit (x ∷ xs) (y ∷ ys) t rest h g e m =
    by_test (is_many x)
    (λ n. commit-here x xs (y ∷ ys) rest n (rw n at e) m)
    (λ n.
    let w = last_many-single x xs t n h in
    let y_is = fixed-single y ys g in
    let e' = sym (strip-single x y xs ys n y_is) ∙ e in
    by_test (meets x y)
    (λ k.
    let f : is_free y ≡ true = sym (meets-free x y k) ∙ w.0 in
    commit xs ys t rest w.1 (last_many-none y ys g f).0 (rw k at e') (commit-step x y w.0 n y_is m))
    (λ k. none_some (rw k at e')))

search-step : {xs ys : List Part} (y : Part) → (Meet xs (y ∷ ys) → ⊥) → is_many y ≡ false → Meet (many ∷ xs) (y ∷ ys) → (is_free y ≡ true) × Meet (many ∷ xs) ys
search-step y never g (left_none m) = absurd (never m)
search-step y never g (left_takes f m) = (f, m)
search-step y never g (right_none m) = absurd (false≢true (sym g))
search-step y never g (right_takes f m) = absurd (false≢true (sym g))
search-step y never g (both e m) = absurd (false≢true e)

search-end : {xs : List Part} → (Meet xs [] → ⊥) → Meet (many ∷ xs) [] → ⊥
search-end never (left_none m) = never m

strip-found : (xs ys t : List Part) (rest : List Part × List Part) → last_many xs ≡ Some t → last_many ys ≡ None → strip xs ys ≡ Some rest → Same (many ∷ xs) ys rest.0 rest.1
strip-found xs ys t rest h g e =
    let a : Same xs ys rest.0 rest.1 = rw e at (strip-answers xs ys) in
    record { there = commit xs ys t rest h g e; back = λ m. left_none (a.back m) }

strip-never : (xs ys : List Part) → strip xs ys ≡ None → Meet xs ys → ⊥
strip-never xs ys e = rw e at (strip-answers xs ys)

place-end : (xs t : List Part) (o : Option (List Part × List Part)) → strip xs [] ≡ o → last_many xs ≡ Some t → Answers o (many ∷ xs) []
place-end xs t None e h = search-end (strip-never xs [] e)
place-end xs t (Some rest) e h = strip-found xs [] t rest h refl e

place-here : (xs ys t : List Part) (y : Part) (o found : Option (List Part × List Part)) → strip xs (y ∷ ys) ≡ o → last_many xs ≡ Some t → last_many (y ∷ ys) ≡ None → (is_free y ≡ true → Answers found (many ∷ xs) ys)
    → Answers (option_or o (cond (is_free y) found None)) (many ∷ xs) (y ∷ ys)
place-here xs ys t y (Some rest) found e h g more = strip-found xs (y ∷ ys) t rest h g e
place-here xs ys t y None found e h g more =
    let never = strip-never xs (y ∷ ys) e in
    by_test (is_free y)
    (λ f. rw f (same-then found (record { there = λ m. (search-step y never (fixed-single y ys g) m).1; back = λ m. left_takes f m }) (more f)))
    (λ f. rw f (λ m. false≢true (sym f ∙ (search-step y never (fixed-single y ys g) m).0)))

find_place-answers : (xs ys t : List Part) → last_many xs ≡ Some t → last_many ys ≡ None → Answers (find_place xs ys) (many ∷ xs) ys
find_place-answers xs [] t h g = place-end xs t (strip xs []) refl h
find_place-answers xs (y ∷ ys) t h g = place-here xs ys t y (strip xs (y ∷ ys)) (find_place xs ys) refl h g (λ f. find_place-answers xs ys t h (last_many-none y ys g f).0)

-- how the walk goes on behind a `**`

to-both : (o : Option (List Part)) (xs ty : List Part) → last_many xs ≡ o → last_many ty ≡ None → Meet (many ∷ xs) (many ∷ ty) → Aligned (unwrap_or o xs) ty
to-both None xs ty e g m = to-aligned m e g
to-both (Some tx) xs ty e g m = to-aligned (flip (to-last_many xs tx e (flip m))) (last_many-last xs tx e) g

from-both : (o : Option (List Part)) (xs ty : List Part) → last_many xs ≡ o → Aligned (unwrap_or o xs) ty → Meet (many ∷ xs) (many ∷ ty)
from-both None xs ty e m = from-aligned m
from-both (Some tx) xs ty e m = flip (right_none (from-last_many xs tx e (flip (from-aligned m))))

-- both segments have a further `**`, or the second has
pub past_both : (xs ys tx ty : List Part) → last_many ys ≡ Some ty → tx ≡ unwrap_or (last_many xs) xs
    → parts_match (many ∷ xs) ys ≡ parts_match (drop (width tx - width ty) tx) (drop (width ty - width tx) ty)
past_both xs ys tx ty h e =
    rw e (same_match
    (λ m. to-both (last_many xs) xs ty refl (last_many-last ys ty h) (to-last_many ys ty h (right_none m)))
    (λ m. from-last_many ys ty h (from-both (last_many xs) xs ty refl m)))

-- neither has: what follows the `**` stands at the end of the second's segment
pub past_last : (xs ys : List Part) → last_many xs ≡ None → last_many ys ≡ None → width xs ≤ width ys → parts_match (many ∷ xs) ys ≡ parts_match xs (drop (width ys - width xs) ys)
past_last xs ys h g n = same_match (λ m. (fits-from m h g).aligned) (λ m. fits-to (record { narrow = n; aligned = m }))

pub past_short : (xs ys : List Part) → last_many xs ≡ None → last_many ys ≡ None → width ys < width xs → parts_match (many ∷ xs) ys ≡ false
past_short xs ys h g n = no_match (λ m. let w = (fits-from m h g).narrow in absurd (omega arith))

-- a `**` that ends the first takes the rest of the second's segment

last-drops : {ys : List Part} (y : Part) → is_free y ≡ true → Meet (many ∷ []) (y ∷ ys) → Meet (many ∷ []) ys
last-drops y f (left_none (right_none m)) = left_none m
last-drops y f (left_takes g m) = m
last-drops y f (right_none m) = m
last-drops y f (right_takes g (right_none m)) = left_none m
last-drops y f (both e m) = absurd (false≢true e)

last-stays : {ys : List Part} (y : Part) → is_free y ≡ false → Meet (many ∷ []) (y ∷ ys) → Meet [] (y ∷ ys)
last-stays y f (left_none m) = m
last-stays y f (left_takes g m) = absurd (false≢true (sym f ∙ g))
last-stays y f (right_none m) = absurd (false≢true (sym f))
last-stays y f (right_takes g m) = absurd (false≢true (sym f))
last-stays y f (both e m) = absurd (false≢true e)

last-ends : Meet (many ∷ []) [] → Meet [] []
last-ends (left_none m) = m

last-there : (ys : List Part) → Meet (many ∷ []) ys → Meet [] (drop (width ys) ys)
last-there [] m = last-ends m
last-there (y ∷ ys) m = by_test (is_free y) (λ f. rw f (last-there ys (last-drops y f m))) (λ f. rw f (last-stays y f m))

pub past_rest : (ys : List Part) → parts_match (many ∷ []) ys ≡ parts_match [] (drop (width ys) ys)
past_rest ys = same_match (last-there ys) (λ m. drops (width ys) ys (omega arith) (left_none m))

-- the first alone has
abbrev pub MatchesAs : Option (List Part × List Part) → List Part → List Part → Type 0
MatchesAs None xs ys = parts_match xs ys ≡ false
MatchesAs (Some rest) xs ys = parts_match xs ys ≡ parts_match rest.0 rest.1

matches_as : (o : Option (List Part × List Part)) (xs ys : List Part) → Answers o xs ys → MatchesAs o xs ys
matches_as None xs ys a = no_match a
matches_as (Some rest) xs ys a = same_match a.there a.back

pub past_place : (xs ys t : List Part) → last_many xs ≡ Some t → last_many ys ≡ None → MatchesAs (find_place xs ys) (many ∷ xs) ys
past_place xs ys t h g = matches_as (find_place xs ys) (many ∷ xs) ys (find_place-answers xs ys t h g)

-- up to the first `**`
pub past_front : (xs ys : List Part) → MatchesAs (strip xs ys) xs ys
past_front xs ys = matches_as (strip xs ys) xs ys (strip-answers xs ys)
