-- Lemmas on members of a list in an order, and on what changes at one place.
use Rattle.std.proofs.Common.{◌≡◌, ℕ, zero, suc, ◌+◌, ◌<◌, ◌≤◌, List, [], ◌∷◌, ◌++◌, length, map, take, drop, get_or, set, insert, refl, sym, ap, subst, ◌∙◌, arith}
use Rattle.std.proofs.lemmas.List.{drop_all, drop_more}
use Rattle.std.specs.List.{AllByRecursion}
use Rattle.std.specs.FinMap.Entries.{put}
use Rattle.std.specs.declared.cmp.Ordering.{Ordering}
use Rattle.std.specs.declared.cmp.Ordering.TheVariants.{Less, Equal, Greater}
use Rattle.zt_model.specs.Lists.{with_key}
use Rattle.zt_check_faces.specs.Placed.{BeginsEqual, BeginsLess, IsBehind, placed}

-- what is left of a list from a place on
pub next_is : {X : Type 0} (xs : List X) (place : ℕ) (x : X) → place < length xs → x ≡ get_or xs place x → drop place xs ≡ x ∷ drop (place + 1) xs
next_is xs place x within is = drop_more xs place x within ∙ ap (λ (y : _). y ∷ drop (place + 1) xs) (sym is)

module _ {X : Type 0} (order : X → Ordering) where
  abbrev Behind : List X → Type 0
  Behind xs = AllByRecursion (λ x. order x ≡ Greater) xs

  one_more : (xs : List X) (place : ℕ) (x : X) → place < length xs → x ≡ get_or xs place x → Behind (take place xs) → order x ≡ Greater → Behind (take (suc place) xs)
  one_more [] place x within is h o = absurd (omega (arith, within))
  one_more (y ∷ xs) zero x within is h o = (subst (λ (z : X). order z ≡ Greater) is o, tt)
  one_more (y ∷ xs) (suc place) x within is h o = (h.0, one_more xs place x (omega (arith, within)) is h.1 o)

  pub behind_first : (xs : List X) → IsBehind order xs 0
  behind_first xs = record { within = omega arith; behind = tt }

  pub behind_more : (xs : List X) (place : ℕ) (x : X) → IsBehind order xs place → place < length xs → x ≡ get_or xs place x → order x ≡ Greater → IsBehind order xs (place + 1)
  behind_more xs place x h within is o = record {
    within = omega (arith, within);
    behind = let same : suc place ≡ place + 1 = omega arith in subst (λ (n : ℕ). Behind (take n xs)) same (one_more xs place x within is h.behind o);
  }

  pub begins_less : (xs : List X) (place : ℕ) (x : X) → place < length xs → x ≡ get_or xs place x → order x ≡ Less → BeginsLess order (drop place xs)
  begins_less xs place x within is o = subst (BeginsLess order) (sym (next_is xs place x within is)) o

  pub begins_equal : (xs : List X) (place : ℕ) (x : X) → place < length xs → x ≡ get_or xs place x → order x ≡ Equal → BeginsEqual order (drop place xs)
  begins_equal xs place x within is o = subst (BeginsEqual order) (sym (next_is xs place x within is)) o

  pub begins_none : (xs : List X) (place : ℕ) → length xs ≤ place → BeginsLess order (drop place xs)
  begins_none xs place past = subst (BeginsLess order) (sym (drop_all place xs past)) tt

  -- ---- a member is placed

  pub placed_new : (new : X) (same : X → X) (place : ℕ) (xs : List X) → place ≤ length xs → Behind (take place xs) → BeginsLess order (drop place xs) → insert xs place new ≡ placed order new same xs
  placed_new new same zero [] within h next = refl
  placed_new new same zero (x ∷ xs) within h next = rw next refl
  placed_new new same (suc place) [] within h next = absurd (omega (arith, within))
  placed_new new same (suc place) (x ∷ xs) within h next = rw h.0 (ap (λ (ys : List X). x ∷ ys) (placed_new new same place xs (omega (arith, within)) h.1 next))

  pub placed_same : (new : X) (same : X → X) (place : ℕ) (xs : List X) (x : X) → place ≤ length xs → Behind (take place xs) → BeginsEqual order (drop place xs) → x ≡ get_or xs place x → set xs place (same x) ≡ placed order new same xs
  placed_same new same zero [] x within h next is = absurd next
  placed_same new same zero (y ∷ xs) x within h next is = rw next (ap (λ (z : X). same z ∷ xs) is)
  placed_same new same (suc place) [] x within h next is = absurd next
  placed_same new same (suc place) (y ∷ xs) x within h next is = rw h.0 (ap (λ (ys : List X). y ∷ ys) (placed_same new same place xs x (omega (arith, within)) h.1 next is))

  pub placed_kept : (new : X) (place : ℕ) (xs : List X) → place ≤ length xs → Behind (take place xs) → BeginsEqual order (drop place xs) → xs ≡ placed order new (λ x. x) xs
  placed_kept new zero [] within h next = absurd next
  placed_kept new zero (y ∷ xs) within h next = rw next refl
  placed_kept new (suc place) [] within h next = absurd next
  placed_kept new (suc place) (y ∷ xs) within h next = rw h.0 (ap (λ (ys : List X). y ∷ ys) (placed_kept new place xs (omega (arith, within)) h.1 next))

pub placed_put : {K A : Type 0} (cmp : K → K → Ordering) (k : K) (v : A) (rows : List (K × A)) → placed (λ (row : K × A). cmp k row.0) (k, v) (λ row. (row.0, v)) rows ≡ put cmp k v rows
placed_put cmp k v [] = refl
placed_put cmp k v (row ∷ rows) = rw (placed_put cmp k v rows) refl

pub placed_key : {K : Type 0} (cmp : K → K → Ordering) (k : K) (ks : List K) → placed (cmp k) k (λ x. x) ks ≡ with_key cmp k ks
placed_key cmp k [] = refl
placed_key cmp k (x ∷ ks) = rw (placed_key cmp k ks) refl

-- ---- each member is changed, one after another

pub mapped_none : {A : Type 0} (change : A → A) (all : List A) → all ≡ map change (take 0 all) ++ drop 0 all
mapped_none change [] = refl
mapped_none change (x ∷ all) = refl

mapped_next : {A : Type 0} (change : A → A) (all : List A) (place : ℕ) (x : A) → place < length all → x ≡ get_or (map change (take place all) ++ drop place all) place x
    → set (map change (take place all) ++ drop place all) place (change x) ≡ map change (take (suc place) all) ++ drop (suc place) all
mapped_next change [] place x within is = absurd (omega (arith, within))
mapped_next change (y ∷ all) zero x within is = ap (λ (z : _). change z ∷ all) is
mapped_next change (y ∷ all) (suc place) x within is = ap (λ (ys : List _). change y ∷ ys) (mapped_next change all place x (omega (arith, within)) is)

pub mapped_more : {A : Type 0} (change : A → A) (xs all : List A) (place : ℕ) (x y : A) → xs ≡ map change (take place all) ++ drop place all → place < length all → x ≡ get_or xs place x → y ≡ change x
    → set xs place y ≡ map change (take (place + 1) all) ++ drop (place + 1) all
mapped_more change xs all place x y so within is changed =
    let same : suc place ≡ place + 1 = omega arith in
    let here : x ≡ get_or (map change (take place all) ++ drop place all) place x = is ∙ ap (λ (zs : List _). get_or zs place x) so in
    ap (λ (zs : List _). set zs place y) so
    ∙ (ap (λ (z : _). set (map change (take place all) ++ drop place all) place z) changed
    ∙ (mapped_next change all place x within here
    ∙ ap (λ (n : ℕ). map change (take n all) ++ drop n all) same))

pub mapped_all : {A : Type 0} (change : A → A) (xs all : List A) (place : ℕ) → xs ≡ map change (take place all) ++ drop place all → length all ≤ place → xs ≡ map change all
mapped_all change xs all place so past = so ∙ whole all place past
  where
    whole : (all : List _) (place : ℕ) → length all ≤ place → map change (take place all) ++ drop place all ≡ map change all
    whole [] place past = nothing place
      where
        nothing : (place : ℕ) → map change (take place []) ++ drop place [] ≡ []
        nothing zero = refl
        nothing (suc place) = refl
    whole (x ∷ all) zero past = absurd (omega (arith, past))
    whole (x ∷ all) (suc place) past = ap (λ (ys : List _). change x ∷ ys) (whole all place (omega (arith, past)))
