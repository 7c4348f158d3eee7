-- The numbers of faces in scripts: each place has one of its own, and they rise as the faces of a gateway do.
use Rattle.zt_laws.proofs.Numbered.{nth_real}
use Rattle.zt_model.specs.Lists.{nth}
use Rattle.std.proofs.Common.{◌≡◌, ℕ, ◌+◌, ◌≤◌, ◌<◌, Bool, true, false, ◌&&◌, ◌==◌, List, [], ◌∷◌, ◌++◌, refl, sym, ap, ◌∙◌, arith, eqb-true, ne_eqb, eq-eqb, ⊎_elim, ◌-◌, length, Some}
use Rattle.std.proofs.lemmas.Bool.{and_parts, and_from, and_left, and_right, or_left, or_right, or_cases, or_parts, or_from}
use Rattle.zt_model.specs.Fabric.{Place, number_from}
use Rattle.zt_model.specs.Transcript.{Each}
use Rattle.zt_laws.specs.Sound.{RiseFrom, is_placed, places_of}
use Rattle.zt_laws.proofs.Lists.{any-append, by_test, never}

-- whether a place is that of a gateway's face
abbrev pub is_place : ℕ → ℕ → Place → Bool
is_place n f p = (n == p.gateway) && (f == p.face)

pub place_is : (n f : ℕ) (p : Place) → is_place n f p ≡ true → (n ≡ p.gateway) × (f ≡ p.face)
place_is n f p h = let parts = and_parts (n == p.gateway) (f == p.face) h in (eqb-true n p.gateway parts.0, eqb-true f p.face parts.1)

-- a face that is placed has a number
pub number_there : (i n f : ℕ) (ps : List Place) → is_placed n f ps ≡ true → i ≤ number_from i n f ps
unfolding number_from
number_there i n f [] there = never there refl
number_there i n f (p ∷ ps) there =
    by_test (is_place n f p)
    (λ here. rw here (omega arith))
    (λ here. let rest : i + 1 ≤ number_from (i + 1) n f ps = number_there (i + 1) n f ps (rw here at there) in rw here (omega arith))

-- a number is 0, or one counted from the first on
number_or_none : (i n f : ℕ) (ps : List Place) → (number_from i n f ps ≡ 0 → ⊥) → i ≤ number_from i n f ps
unfolding number_from
number_or_none i n f [] some = absurd (some refl)
number_or_none i n f (p ∷ ps) some =
    by_test (is_place n f p)
    (λ here. rw here (omega arith))
    (λ here. let rest : i + 1 ≤ number_from (i + 1) n f ps = number_or_none (i + 1) n f ps (rw here at some) in rw here (omega arith))

-- two faces with one number are one
pub number_apart : (i n f m k : ℕ) (ps : List Place) → 1 ≤ i → is_placed n f ps ≡ true → number_from i n f ps ≡ number_from i m k ps → (n ≡ m) × (f ≡ k)
unfolding number_from
number_apart i n f m k [] real there same_ = never there refl
number_apart i n f m k (p ∷ ps) real there same_ =
    by_test (is_place n f p)
    (λ here.
    by_test (is_place m k p)
    (λ other. let one = place_is n f p here in let two = place_is m k p other in (one.0 ∙ sym two.0, one.1 ∙ sym two.1))
    (λ other.
    let e : i ≡ number_from (i + 1) m k ps = rw (here, other) at same_ in
    let up : i + 1 ≤ number_from (i + 1) m k ps = number_or_none (i + 1) m k ps (λ zero_. omega arith) in
    absurd (omega arith)))
    (λ here.
    let later : is_placed n f ps ≡ true = rw here at there in
    by_test (is_place m k p)
    (λ other.
    let e : number_from (i + 1) n f ps ≡ i = rw (here, other) at same_ in
    let up : i + 1 ≤ number_from (i + 1) n f ps = number_there (i + 1) n f ps later in
    absurd (omega arith))
    (λ other. number_apart (i + 1) n f m k ps (omega arith) later (rw (here, other) at same_)))

-- a placed face is not below those of its gateway
pub placed_above : (low n f : ℕ) (ps : List Place) → RiseFrom (λ p. p.face) low (places_of n ps) → is_placed n f ps ≡ true → low ≤ f
placed_above low n f [] rises there = never there refl
placed_above low n f (p ∷ ps) rises there =
    by_test (n == p.gateway)
    (λ own.
    let rises_ : RiseFrom (λ p. p.face) low (p ∷ places_of n ps) = rw own at rises in
    let first : low ≤ p.face = rises_.0 in
    ⊎_elim
    (λ here. let is : f ≡ p.face = (place_is n f p here).1 in omega arith)
    (λ later. let more : p.face + 1 ≤ f = placed_above (p.face + 1) n f ps rises_.1 later in omega arith)
    (or_cases (is_place n f p) (is_placed n f ps) there))
    (λ other.
    let miss : is_place n f p ≡ false = and_left (n == p.gateway) (f == p.face) other in
    placed_above low n f ps (rw other at rises) (rw miss at there))

-- ---- one place more

pub placed_still : (n f : ℕ) (ps : List Place) (p : Place) → is_placed n f ps ≡ true → is_placed n f (ps ++ p ∷ []) ≡ true
placed_still n f ps p there = any-append (is_place n f) ps (p ∷ []) ∙ or_left (is_placed n f ps) (is_placed n f (p ∷ [])) there

pub placed_new : (n f : ℕ) (ps : List Place) → is_placed n f (ps ++ record { gateway = n; face = f } ∷ []) ≡ true
placed_new n f ps =
    let p : Place = record { gateway = n; face = f } in
    any-append (is_place n f) ps (p ∷ []) ∙ or_right (is_placed n f ps) (is_placed n f (p ∷ [])) (or_left (is_place n f p) false (and_from (n == n) (f == f) (eq-eqb n n refl) (eq-eqb f f refl)))

pub places_other : (n : ℕ) (ps : List Place) (p : Place) → (n == p.gateway) ≡ false → places_of n (ps ++ p ∷ []) ≡ places_of n ps
places_other n [] p other = rw other refl
places_other n (q ∷ ps) p other = by_test (n == q.gateway) (λ here. rw here (ap (λ rest. q ∷ rest) (places_other n ps p other))) (λ here. rw here (places_other n ps p other))

pub places_own : (n : ℕ) (ps : List Place) (p : Place) → (n == p.gateway) ≡ true → places_of n (ps ++ p ∷ []) ≡ places_of n ps ++ p ∷ []
places_own n [] p own = rw own refl
places_own n (q ∷ ps) p own = by_test (n == q.gateway) (λ here. rw here (ap (λ rest. q ∷ rest) (places_own n ps p own))) (λ here. rw here (places_own n ps p own))

-- a gateway beyond those of the places has none
pub places_none : (n : ℕ) (ps : List Place) → Each (λ p. p.gateway < n) ps → places_of n ps ≡ []
places_none n [] below = refl
places_none n (p ∷ ps) below =
    let less : p.gateway < n = below.0 in
    let miss : (n == p.gateway) ≡ false = ne_eqb n p.gateway (λ e. omega arith) in
    rw miss (places_none n ps below.1)

-- the number of a face that is placed stays when one more is
pub number_still : (i n f : ℕ) (ps : List Place) (p : Place) → is_placed n f ps ≡ true → number_from i n f (ps ++ p ∷ []) ≡ number_from i n f ps
unfolding number_from
number_still i n f [] p there = never there refl
number_still i n f (q ∷ ps) p there =
    by_test (is_place n f q) (λ here. rw here refl) (λ here. rw here (number_still (i + 1) n f ps p (rw here at there)))

-- a face that is placed last has the last number
pub number_new : (i n f : ℕ) (ps : List Place) → is_placed n f ps ≡ false → number_from i n f (ps ++ record { gateway = n; face = f } ∷ []) ≡ i + length ps
unfolding number_from
number_new i n f [] apart =
    let p : Place = record { gateway = n; face = f } in
    let here : is_place n f p ≡ true = and_from (n == n) (f == f) (eq-eqb n n refl) (eq-eqb f f refl) in
    rw here (omega arith)
number_new i n f (q ∷ ps) apart =
    let parts = or_parts (is_place n f q) (is_placed n f ps) apart in
    let miss : is_place n f q ≡ false = parts.0 in
    let rest = number_new (i + 1) n f ps parts.1 in
    rw miss (rest ∙ omega arith)

-- a number above those of a gateway's faces is no face's yet
pub not_placed_yet : (n f : ℕ) (ps : List Place) → Each (λ p. p.face < f) (places_of n ps) → is_placed n f ps ≡ false
not_placed_yet n f [] below = refl
not_placed_yet n f (p ∷ ps) below =
    by_test (n == p.gateway)
    (λ own.
    let below_ : Each (λ p. p.face < f) (p ∷ places_of n ps) = rw own at below in
    let less : p.face < f = below_.0 in
    or_from (is_place n f p) (is_placed n f ps) (and_right (n == p.gateway) (f == p.face) (ne_eqb f p.face (λ e. omega arith))) (not_placed_yet n f ps below_.1))
    (λ other. or_from (is_place n f p) (is_placed n f ps) (and_left (n == p.gateway) (f == p.face) other) (not_placed_yet n f ps (rw other at below)))

-- the place at a position is placed
pub nth_placed : (k : ℕ) (ps : List Place) (p : Place) → nth k ps ≡ Some p → is_placed p.gateway p.face ps ≡ true
nth_placed k [] p found = cc
nth_placed k (q ∷ ps) p found =
    by_test (k == 1)
    (λ here.
    let e : Some q ≡ Some p = rw here at found in
    let is : p ≡ q = cc in
    let own : is_place p.gateway p.face p ≡ true = and_from (p.gateway == p.gateway) (p.face == p.face) (eq-eqb p.gateway p.gateway refl) (eq-eqb p.face p.face refl) in
    or_left (is_place p.gateway p.face q) (is_placed p.gateway p.face ps) (ap (is_place p.gateway p.face) (sym is) ∙ own))
    (λ here. or_right (is_place p.gateway p.face q) (is_placed p.gateway p.face ps) (nth_placed (k - 1) ps p (rw here at found)))

number_at : (i low k : ℕ) (ps : List Place) (p : Place) → RiseFrom (λ q. q.face) low (places_of p.gateway ps) → nth k ps ≡ Some p → number_from i p.gateway p.face ps + 1 ≡ i + k
unfolding number_from
number_at i low k [] p rises found = cc
number_at i low k (q ∷ ps) p rises found =
    by_test (k == 1)
    (λ here.
    let e : Some q ≡ Some p = rw here at found in
    let is : p ≡ q = cc in
    let one : k ≡ 1 = eqb-true k 1 here in
    let own : is_place p.gateway p.face p ≡ true = and_from (p.gateway == p.gateway) (p.face == p.face) (eq-eqb p.gateway p.gateway refl) (eq-eqb p.face p.face refl) in
    let hit : is_place p.gateway p.face q ≡ true = ap (is_place p.gateway p.face) (sym is) ∙ own in
    rw hit (omega arith))
    (λ here.
    let later : nth (k - 1) ps ≡ Some p = rw here at found in
    let there = nth_placed (k - 1) ps p later in
    let real : 1 ≤ k - 1 = nth_real (k - 1) ps p later in
    by_test (p.gateway == q.gateway)
    (λ own.
    let rises_ : RiseFrom (λ q. q.face) low (q ∷ places_of p.gateway ps) = rw own at rises in
    let up : q.face + 1 ≤ p.face = placed_above (q.face + 1) p.gateway p.face ps rises_.1 there in
    let miss : is_place p.gateway p.face q ≡ false = and_right (p.gateway == q.gateway) (p.face == q.face) (ne_eqb p.face q.face (λ e. omega arith)) in
    let rest = number_at (i + 1) (q.face + 1) (k - 1) ps p rises_.1 later in
    rw miss (omega arith))
    (λ other.
    let miss : is_place p.gateway p.face q ≡ false = and_left (p.gateway == q.gateway) (p.face == q.face) other in
    let rest = number_at (i + 1) low (k - 1) ps p (rw other at rises) later in
    rw miss (omega arith)))

-- the number in scripts of the place at a position is that position
pub number_of_nth : (k : ℕ) (ps : List Place) (p : Place) → RiseFrom (λ q. q.face) 1 (places_of p.gateway ps) → nth k ps ≡ Some p → number_from 1 p.gateway p.face ps ≡ k
number_of_nth k ps p rises found = let one = number_at 1 1 k ps p rises found in omega arith
