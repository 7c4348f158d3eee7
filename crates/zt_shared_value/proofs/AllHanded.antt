-- Where as many passes come together as numbers were drawn, no other is left and the lock is free.
use Rattle.std.proofs.Common.{◌≡◌, ℕ, zero, suc, ◌+◌, ◌<◌, ◌≤◌, ◌==◌, ⊎_elim, List, [], ◌∷◌, set, length, refl, sym, ap, arith, ◌∙◌, subst}
use Rattle.std.specs.List.{sum_by, AllByRecursion}
use Rattle.std.proofs.lemmas.List.Sums.{sum_by-cons}
use Rattle.std.proofs.lemmas.Bool.{eq-eqb, ne_eqb}
use mathlib.Core.Logic.{dite}
use mathlib.Core.Option.{none, some, some-injective}
use native.Mathlib.Decide.{ℕ_discrete, dec_lt}
use lib.ListN.{get_elem?}
use Rattle.atomic_table.specs.Table.{State, Final, Seen}
use Rattle.zt_shared_value.specs.declared.part.Part.{Part}
use Rattle.zt_shared_value.specs.Owned.{below, with_owned, owned_from}
use Rattle.zt_shared_value.specs.Views.{total, AllParts}
use Rattle.zt_shared_value.specs.Handed.{Handed, IsLeft}
use Rattle.zt_shared_value.specs.Rule.{held, Fits, IsShared}
use Rattle.zt_shared_value.proofs.ViewSums.{AllByRecursion-map, AllByRecursion-both, total-cons, total-others, parts-at, parts-set, parts-map, parts-both, all-weightless}
use Rattle.zt_shared_value.proofs.Numbers.{one_at, one_at-other, below-at, below-past}

-- ---- sums over numbers

-- 1 for a number below n, and else 0
abbrev one_below : ℕ → ℕ → ℕ
one_below n m = below (one_at m) n

one_below-most : (n m : ℕ) → one_below n m ≤ 1
one_below-most n m = dite (dec_lt m n) (λ lt. let one = below-at m n lt in omega arith) (λ not. let away = below-past m n (omega arith) in omega arith)

one_below-past : (n m : ℕ) → one_below n m ≡ 0 → n ≤ m
one_below-past n m away = dite (dec_lt m n) (λ lt. let one = below-at m n lt in absurd (omega arith)) (λ not. omega arith)

below-short : (n c : ℕ) → below (one_below n) c ≤ c
below-short n zero = omega arith
below-short n (suc c) = let rest = below-short n c in let one = one_below-most n c in omega arith

below-low : (n c : ℕ) → below (one_below n) c ≤ n
below-low n zero = omega arith
below-low n (suc c) = dite (dec_lt c n) (λ lt. let all = below-short n (suc c) in omega arith)
    (λ not. let rest = below-low n c in let away = below-past c n (omega arith) in omega arith)

below-ones : (c : ℕ) → below (λ m. 1) c ≡ c
below-ones zero = refl
below-ones (suc c) = let rest = below-ones c in omega arith

-- ---- sums over parts

sum_by-ones : {P : Type 0} (w : P → ℕ) (v : List P) → AllByRecursion (λ p. w p ≡ 1) v → sum_by w v ≡ length v
sum_by-ones w [] all = refl
sum_by-ones w (p ∷ ps) all = let cons = sum_by-cons w p ps in let rest = sum_by-ones w ps all.1 in let one = all.0 in omega arith

sum_by-none : {P : Type 0} (w : P → ℕ) (v : List P) → AllByRecursion (λ p. w p ≡ 0) v → sum_by w v ≡ 0
sum_by-none w [] all = refl
sum_by-none w (p ∷ ps) all = let cons = sum_by-cons w p ps in let rest = sum_by-none w ps all.1 in let away = all.0 in omega arith

total-none : {P : Type 0} (w : P → ℕ) (vs : List (List P)) → AllParts (λ p. w p ≡ 0) vs → total w vs ≡ 0
total-none w [] all = refl
total-none w (v ∷ vs) all = let cons = total-cons w v vs in let mine = sum_by-none w v all.0 in let rest = total-none w vs all.1 in omega arith

-- where there is no part, there is no weight
total-empty : {P : Type 0} (w : P → ℕ) (vs : List (List P)) → total (λ (p : P). 1) vs ≡ 0 → total w vs ≡ 0
total-empty {P} w vs empty = total-none w vs (parts-map (λ (p : P). 1 ≡ 0) (λ p. w p ≡ 0) (λ p h. absurd (omega arith)) vs (all-weightless (λ (p : P). 1) vs empty))

all-of : {P : Type 0} (F : P → Type 0) (v : List P) → ((p : P) → F p) → AllByRecursion F v
all-of F [] f = tt
all-of F (p ∷ ps) f = (f p, all-of F ps f)

module _ {S E O : Type 0} (journal : S → List E) (author : E → ℕ) (state : S → O) (first : S) where
  module _ (s : State S (List (Part S))) (r : IsShared journal author state first s) (id n : ℕ) (v : List (Part S)) (at : get_elem? s.views id ≡ some v)
      (all : length v ≡ n) (some_handed : 0 < n) (handed : AllByRecursion (Handed n) v) where
    abbrev others : List (List (Part S))
    others = set s.views id []

    abbrev Fact : Part S → Type 0
    Fact = Fits journal author state first r.log r.count

    facts : AllByRecursion (λ p. Fact p × Handed n p) v
    facts = AllByRecursion-both Fact (Handed n) v (parts-at Fact s.views id v at r.parts) handed

    -- the numbers of the others are not below n
    numbers-past : AllParts (λ (p : Part S). one_below n p.number ≡ 0) others
    numbers-past =
        let w : Part S → ℕ = λ p. one_below n p.number in
        let mine : sum_by w v ≡ length v = sum_by-ones w v (AllByRecursion-map (λ p. Fact p × Handed n p) (λ p. w p ≡ 1)
        (λ p f. let a = f.0.below_known in let b = f.1.0 in below-at p.number n (omega arith)) v facts) in
        let whole = total-others w s.views id v at in
        let now = r.numbers (one_below n) in
        let low = below-low n r.count in
        all-weightless w others (omega arith)

    count-least : n ≤ r.count
    count-least =
        let w : Part S → ℕ = λ p. one_below n p.number in
        let mine : sum_by w v ≡ length v = sum_by-ones w v (AllByRecursion-map (λ p. Fact p × Handed n p) (λ p. w p ≡ 1)
        (λ p f. let a = f.0.below_known in let b = f.1.0 in below-at p.number n (omega arith)) v facts) in
        let whole = total-others w s.views id v at in
        let now = r.numbers (one_below n) in
        let short = below-short n r.count in omega arith

    -- n was not drawn
    count-most : r.count ≤ n
    count-most =
        let w : Part S → ℕ = λ p. sum_by (one_at n) p.drawn in
        let mine : sum_by w v ≡ 0 = sum_by-none w v (AllByRecursion-map (λ p. Fact p × Handed n p) (λ p. w p ≡ 0)
        (λ p f. sum_by-none (one_at n) p.drawn (AllByRecursion-map (λ (d : ℕ). (p.number < d) × (d < p.known)) (λ (d : ℕ). one_at n d ≡ 0)
        (λ d b. let k = f.1.0 in let l = b.1 in one_at-other n d (λ same. omega arith)) p.drawn f.0.draws)) v facts) in
        let theirs : total w others ≡ 0 = total-none w others (parts-map (λ p. Fact p × (one_below n p.number ≡ 0)) (λ p. w p ≡ 0)
        (λ p f. sum_by-none (one_at n) p.drawn (AllByRecursion-map (λ (d : ℕ). (p.number < d) × (d < p.known)) (λ (d : ℕ). one_at n d ≡ 0)
        (λ d b. let past = one_below-past n p.number f.1 in let l = b.0 in one_at-other n d (λ same. omega arith)) p.drawn f.0.draws))
        others (parts-both Fact (λ (p : Part S). one_below n p.number ≡ 0) others (parts-set Fact s.views id [] r.parts tt) numbers-past)) in
        let whole = total-others w s.views id v at in
        let now = r.all_drawn (one_at n) in
        let zeroth = one_at-other n 0 (λ same. omega arith) in
        dite (dec_lt n r.count) (λ lt. let one = below-at n r.count lt in absurd (omega arith)) (λ not. omega arith)

    pub closing-count : r.count ≡ n
    closing-count = let least = count-least in let most = count-most in omega arith

    others-empty : total (λ (p : Part S). 1) others ≡ 0
    others-empty =
        let whole = total-others (λ (p : Part S). 1) s.views id v at in
        let mine : sum_by (λ (p : Part S). 1) v ≡ length v = sum_by-ones (λ p. 1) v (all-of (λ p. 1 ≡ 1) v (λ p. refl)) in
        let now = r.numbers (λ m. 1) in
        let ones = below-ones r.count in
        let most = count-most in omega arith

    lock-free : r.lock ≡ 0
    lock-free =
        let whole = total-others held s.views id v at in
        let now = r.one_holder in
        let theirs = total-empty held others others-empty in
        let mine : sum_by held v ≡ 0 = sum_by-none held v (AllByRecursion-map (Handed n) (λ p. held p ≡ 0) (λ p h. rw (h.1, held) refl) v handed) in omega arith

    -- the value is at home
    pub closing-home : (x : S) × (s.homes ≡ some x ∷ []) × (journal x ≡ r.log) × (state x ≡ state first)
    closing-home = let free = lock-free in ⊎_elim
        (λ (h : (r.lock ≡ 0) × ((x : S) × (s.homes ≡ some x ∷ []) × (journal x ≡ r.log) × (state x ≡ state first))). h.1)
        (λ (h : (r.lock ≡ 1) × (s.homes ≡ none ∷ [])). let taken = h.0 in absurd (omega arith))
        r.home

    -- the passes have the numbers below n, each once
    pub closing-numbers : (f : ℕ → ℕ) → sum_by (λ p. f p.number) v ≡ below f n
    closing-numbers f =
        let whole = total-others (λ (p : Part S). f p.number) s.views id v at in
        let now = r.numbers f in
        let theirs = total-empty (λ (p : Part S). f p.number) others others-empty in
        let same = ap (below f) closing-count in omega arith

module _ {S E O : Type 0} (journal : S → List E) (author : E → ℕ) (state : S → O) (first : S) where
  -- the value that comes out of the table
  pub left_by : (words : List ℕ) (items : List S) (id : ℕ) (v : List (Part S)) → 0 < length v → AllByRecursion (Handed (length v)) v
      → Final (Seen (IsShared journal author state first) id v) words items → (value : S) → get_elem? items 0 ≡ some value → IsLeft journal author state value v
  left_by words items id v some_handed handed final value here =
      let s = final.0 in
      let r = final.1.0 in
      let at = final.1.1 in
      let home = closing-home journal author state first s r id (length v) v at refl some_handed handed in
      let count = closing-count journal author state first s r id (length v) v at refl some_handed handed in
      let there : get_elem? items 0 ≡ some home.0 = final.4 0 home.0 (ap (λ hs. get_elem? hs 0) home.1) in
      let same : home.0 ≡ value = some-injective home.0 value (sym there ∙ here) in
      let log : journal value ≡ r.log = ap journal (sym same) ∙ home.2 in record {
        first = first;
        opened_first = ap state (sym same) ∙ home.3;
        fits = subst (λ (n : ℕ). AllByRecursion (Fits journal author state first (journal value) n) v) count
            (subst (λ (l : List E). AllByRecursion (Fits journal author state first l r.count) v) (sym log)
            (parts-at (Fits journal author state first r.log r.count) s.views id v at r.parts));
        numbers = closing-numbers journal author state first s r id (length v) v at refl some_handed handed;
        authors = subst (λ (n : ℕ). AllByRecursion (λ e. author e < n) (journal value)) count
            (subst (λ (l : List E). AllByRecursion (λ e. author e < r.count) l) (sym log) r.authors);
      }

-- ---- the entries of all passes together

below-plus : (f g : ℕ → ℕ) (n : ℕ) → below (λ m. f m + g m) n ≡ below f n + below g n
below-plus f g zero = refl
below-plus f g (suc n) = let rest = below-plus f g n in omega arith

below-same : (f g : ℕ → ℕ) → ((m : ℕ) → f m ≡ g m) → (n : ℕ) → below f n ≡ below g n
below-same f g same zero = refl
below-same f g same (suc n) = let rest = below-same f g same n in let here = same n in omega arith

length-with_owned : {E : Type 0} (a m : ℕ) (e : ℕ × E) (es : List (ℕ × E)) → length (with_owned (a == m) e es) ≡ one_at a m + length es
length-with_owned a m e es = dite (ℕ_discrete m a)
    (λ same. let one : one_at a m ≡ 1 = rw (eq-eqb m a same, one_at) refl in
    let more : length (with_owned (a == m) e es) ≡ 1 + length es = rw (eq-eqb a m (sym same)) (omega arith) in omega arith)
    (λ other. let away = one_at-other a m other in
    let less : length (with_owned (a == m) e es) ≡ length es = rw (ne_eqb a m (λ same. other (sym same))) refl in omega arith)

below-zero : (n : ℕ) → below (λ m. 0) n ≡ 0
below-zero zero = refl
below-zero (suc n) = let rest = below-zero n in omega arith

-- where each entry bears a number below n, the passes below n have entered all of them
pub owned-lengths : {E : Type 0} (author : E → ℕ) (n k : ℕ) (log : List E) → AllByRecursion (λ e. author e < n) log
    → below (λ m. length (owned_from author k m log)) n ≡ length log
owned-lengths author n k [] all = below-zero n
owned-lengths author n k (e ∷ es) all =
    let cut = below-same (λ m. length (owned_from author k m (e ∷ es))) (λ m. one_at (author e) m + length (owned_from author (k + 1) m es))
    (λ m. length-with_owned (author e) m (k, e) (owned_from author (k + 1) m es)) n in
    let both = below-plus (one_at (author e)) (λ m. length (owned_from author (k + 1) m es)) n in
    let one = below-at (author e) n all.0 in
    let rest = owned-lengths author n (k + 1) es all.1 in omega arith
