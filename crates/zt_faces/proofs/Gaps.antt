-- The faces in places with rising numbers.
use Rattle.std.proofs.Common.{◌≡◌, ℕ, zero, suc, ◌-◌, ◌<◌, ◌≤◌, ◌==◌, false, not, if◌then◌else◌, is_some, max, List, [], ◌∷◌, ◌++◌, Some, None, ap, arith, filter, get_or, length, map, refl, set, slice_get, subst, sym, take, ◌∙◌}
use native.Mathlib.Numerals.{unary_clauses}
use Rattle.std.proofs.lemmas.Bool.Decides.{nat_tests}
use Rattle.std.specs.List.{AllByRecursion}
use Rattle.zt_keys.specs.Test.{by_test}
use Rattle.zt_model.specs.Lists.{first_where}
use Rattle.zt_model.specs.Rows.{Face}
use Rattle.zt_faces.specs.declared.by_router.Standing.{Standing}
use Rattle.zt_faces.specs.declared.slots.Slot.{Slot}
use Rattle.zt_faces.specs.declared.slots.Slot.TheVariants.{Open, Closed}
use Rattle.zt_faces.specs.Rising.{AreBelow, AreUpTo, HasNone, IsRising}
use Rattle.zt_faces.specs.Routers.{AreStandings}
use Rattle.zt_faces.specs.Slots.{IsNextOf, LosesStanding, face_of, faces_in, number_of, with_face, without_face}
use Rattle.zt_faces.proofs.Rising.{above-at, all-weaker, changed-rising, equal, none-above, none-found, unequal}
use Rattle.zt_faces.proofs.Routers.{removed}

never-some : {A P : Type 0} (x : A) → Some x ≡ None → P
never-some x e = cc

-- one that isn't found goes from none
pub none-stays : {A : Type 0} (number : A → ℕ) (n : ℕ) (xs : List A) → first_where (λ x. n == number x) xs ≡ None → filter (λ x. not (n == number x)) xs ≡ xs
none-stays number n [] none = refl
none-stays number n (x ∷ xs) none =
    by_test (n == number x)
    (λ t. never-some x (rw t at none))
    (λ t. rw t (ap (λ ys. x ∷ ys) (none-stays number n xs (rw t at none))))

-- all below one that is above the last
module _ {A : Type 0} (number : A → ℕ) where
  pub below-last : (n : ℕ) (xs : List A) (last : A) → IsRising number xs → slice_get xs (length xs - 1) ≡ Some last → number last < n → AreBelow number n xs
  below-last n [] last rising is lt = tt
  below-last n (x ∷ []) last rising is lt = (subst (λ y. number y < n) (sym (same-some x last is)) lt, tt)
    where
      same-some : (a b : A) → Some a ≡ Some b → a ≡ b
      same-some a b e = cc
  below-last n (x ∷ y ∷ ys) last rising is lt =
      let later : slice_get (y ∷ ys) (length (y ∷ ys) - 1) ≡ Some last = simp unary_clauses (simp unary_clauses at is) in
      let rest = below-last n (y ∷ ys) last rising.1 later lt in
      let first = rising.0.0 in
      let next = rest.0 in
      (omega (arith, first, next), rest)

  pub behind-rising : (xs : List A) (y : A) → AreBelow number (number y) xs → IsRising number xs → IsRising number (xs ++ y ∷ [])
  behind-rising [] y below rising = (tt, tt)
  behind-rising (x ∷ xs) y below rising = (one-more xs rising.0, behind-rising xs y below.1 rising.1)
    where
      one-more : (ys : List A) → AllByRecursion (λ z. number x < number z) ys → AllByRecursion (λ z. number x < number z) (ys ++ y ∷ [])
      one-more [] k = (below.0, tt)
      one-more (z ∷ ys) k = (k.0, one-more ys k.1)

-- a list is what stands before its last, and the last
pub last-split : {B : Type 0} (xs : List B) (last : B) → 0 < length xs → last ≡ get_or xs (length xs - 1) last → take (length xs - 1) xs ++ last ∷ [] ≡ xs
last-split [] last some is = absurd (omega (arith, some))
last-split (x ∷ []) last some is = ap (λ y. y ∷ []) is
last-split (x ∷ y ∷ ys) last some is = simp unary_clauses (ap (λ rest. x ∷ rest) (simp unary_clauses at (last-split (y ∷ ys) last (omega arith) (simp unary_clauses (simp unary_clauses at is)))))

pub some-left : (n : ℕ) → false ≡ (n == 0) → 0 < n
some-left n some = grind (arith, nat_tests)

module _ {K : Type 0} where
  -- ---- what holds of places holds of the faces in them
  pub faces-all : (P : ℕ → Type 0) (slots : List (Slot K)) → AllByRecursion (λ s. P (number_of s)) slots → AllByRecursion (λ f. P f.number) (faces_in slots)
  faces-all P [] h = tt
  faces-all P (Open f ∷ slots) h = (h.0, faces-all P slots h.1)
  faces-all P (Closed n ∷ slots) h = faces-all P slots h.1

  pub faces-none : (n : ℕ) (slots : List (Slot K)) → HasNone number_of n slots → HasNone (λ f. f.number) n (faces_in slots)
  faces-none n slots h = faces-all (λ m. (n == m) ≡ false) slots h

  pub faces-rising : (slots : List (Slot K)) → IsRising number_of slots → IsRising (λ f. f.number) (faces_in slots)
  faces-rising [] h = tt
  faces-rising (Open f ∷ slots) h = (faces-all (λ m. f.number < m) slots h.0, faces-rising slots h.1)
  faces-rising (Closed n ∷ slots) h = faces-rising slots h.1

  -- ---- the face of a number
  pub none-in : (n : ℕ) (slots : List (Slot K)) → HasNone number_of n slots → first_where (λ f. n == f.number) (faces_in slots) ≡ None
  none-in n slots h = none-found (λ f. f.number) n (faces_in slots) (faces-none n slots h)

  none-behind : (n m : ℕ) (slots : List (Slot K)) → m ≡ n → AllByRecursion (λ s. m < number_of s) slots → first_where (λ f. n == f.number) (faces_in slots) ≡ None
  none-behind n m slots is above = none-in n slots (subst (λ k. HasNone number_of k slots) is (none-above number_of m slots above))

  pub found-at : (n : ℕ) (slots : List (Slot K)) (i : ℕ) (s : Slot K) → IsRising number_of slots → i < length slots → number_of (get_or slots i s) ≡ n
      → first_where (λ f. n == f.number) (faces_in slots) ≡ face_of (get_or slots i s)
  found-at n [] i s rising lt is = absurd (omega (arith, lt))
  found-at n (Open f ∷ slots) zero s rising lt is = let here = equal n f.number is in rw here refl
  found-at n (Closed m ∷ slots) zero s rising lt is = none-behind n m slots is rising.0
  found-at n (Open f ∷ slots) (suc i) s rising lt is =
      let below = above-at number_of f.number slots i s rising.0 (omega arith) in
      let other = unequal n f.number (omega (arith, below, is)) in
      rw other (found-at n slots i s rising.1 (omega arith) is)
  found-at n (Closed m ∷ slots) (suc i) s rising lt is = found-at n slots i s rising.1 (omega arith) is

  stood : (s : Slot K) (f : Face K) → face_of s ≡ Some f → number_of s ≡ f.number
  stood (Open g) f read = let same : g ≡ f = cc in ap (λ (x : Face K). x.number) same
  stood (Closed m) f read = cc

  -- the face that a place is read to have
  pub read-at : (n : ℕ) (slots : List (Slot K)) (i : ℕ) (s : Slot K) (f : Face K) → IsRising number_of slots → i < length slots → s ≡ get_or slots i s → face_of s ≡ Some f → f.number ≡ n
      → first_where (λ x. n == x.number) (faces_in slots) ≡ Some f
  read-at n slots i s f rising lt at read is =
      found-at n slots i s rising lt (ap number_of (sym at) ∙ stood s f read ∙ is) ∙ ap face_of (sym at) ∙ read

  -- ---- one face changes, or goes
  pub with-number : (change : Face K → Face K) → ((f : Face K) → (change f).number ≡ f.number) → (s : Slot K) → number_of (with_face change s) ≡ number_of s
  with-number change same (Open f) = same f
  with-number change same (Closed n) = refl

  pub changed-in : (n : ℕ) (change : Face K → Face K) (slots : List (Slot K))
      → faces_in (map (λ s. if n == number_of s then with_face change s else s) slots) ≡ map (λ f. if n == f.number then change f else f) (faces_in slots)
  changed-in n change [] = refl
  changed-in n change (Open f ∷ slots) =
      by_test (n == f.number)
      (λ t. rw t (ap (λ fs. change f ∷ fs) (changed-in n change slots)))
      (λ t. rw t (ap (λ fs. f ∷ fs) (changed-in n change slots)))
  changed-in n change (Closed m ∷ slots) = by_test (n == m) (λ t. rw t (changed-in n change slots)) (λ t. rw t (changed-in n change slots))

  pub dropped-in : (n : ℕ) (slots : List (Slot K))
      → faces_in (map (λ s. if n == number_of s then without_face s else s) slots) ≡ filter (λ f. not (n == f.number)) (faces_in slots)
  dropped-in n [] = refl
  dropped-in n (Open f ∷ slots) =
      by_test (n == f.number)
      (λ t. rw t (dropped-in n slots))
      (λ t. rw t (ap (λ fs. f ∷ fs) (dropped-in n slots)))
  dropped-in n (Closed m ∷ slots) = by_test (n == m) (λ t. rw t (dropped-in n slots)) (λ t. rw t (dropped-in n slots))

  pub dropped-rising : (n : ℕ) (slots : List (Slot K)) → IsRising number_of slots → IsRising number_of (map (λ s. if n == number_of s then without_face s else s) slots)
  dropped-rising n slots rising = changed-rising number_of n without_face (λ s. refl) slots rising

  pub pushed-in : (slots : List (Slot K)) (f : Face K) → faces_in (slots ++ Open f ∷ []) ≡ faces_in slots ++ f ∷ []
  pushed-in [] f = refl
  pushed-in (Open g ∷ slots) f = ap (λ fs. g ∷ fs) (pushed-in slots f)
  pushed-in (Closed n ∷ slots) f = pushed-in slots f

  -- ---- the highest next id
  up-to-max : (m n : ℕ) (fs : List (Face K)) → AreUpTo (λ f. f.next) m fs → AreUpTo (λ f. f.next) (max m n) fs
  up-to-max m n fs up = all-weaker (λ f. f.next ≤ m) (λ f. f.next ≤ max m n) (λ f k. omega (arith, k)) fs up

  pub raised : (m n : ℕ) (slots : List (Slot K)) (i : ℕ) (s : Slot K) → AreUpTo (λ f. f.next) m (faces_in slots) → IsNextOf n s → AreUpTo (λ f. f.next) (max m n) (faces_in (set slots i s))
  raised m n [] i s up here = tt
  raised m n (Open f ∷ slots) zero (Open g) up here = let next = here.0 in (omega (arith, next), up-to-max m n (faces_in slots) up.1)
  raised m n (Open f ∷ slots) zero (Closed k) up here = up-to-max m n (faces_in slots) up.1
  raised m n (Closed j ∷ slots) zero (Open g) up here = let next = here.0 in (omega (arith, next), up-to-max m n (faces_in slots) up)
  raised m n (Closed j ∷ slots) zero (Closed k) up here = up-to-max m n (faces_in slots) up
  raised m n (Open f ∷ slots) (suc i) s up here = let next = up.0 in (omega (arith, next), raised m n slots i s up.1 here)
  raised m n (Closed j ∷ slots) (suc i) s up here = raised m n slots i s up here

  -- ---- without gaps
  pub kept-in : (slots : List (Slot K)) → faces_in (filter (λ s. is_some (face_of s)) slots) ≡ faces_in slots
  kept-in [] = refl
  kept-in (Open f ∷ slots) = ap (λ fs. f ∷ fs) (kept-in slots)
  kept-in (Closed n ∷ slots) = kept-in slots

  -- ---- a walk from the last place on
  pub passed-back : (slots : List (Slot K)) (s : Slot K) (all : List (Face K)) → 0 < length slots → s ≡ get_or slots (length slots - 1) s → face_of s ≡ None
      → faces_in slots ≡ all → faces_in (take (length slots - 1) slots) ≡ all
  passed-back slots s all some at read left =
      sym (gone (take (length slots - 1) slots) s read) ∙ ap faces_in (last-split slots s some at) ∙ left
    where
      gone : (front : List (Slot K)) (s : Slot K) → face_of s ≡ None → faces_in (front ++ s ∷ []) ≡ faces_in front
      gone [] (Open f) read = cc
      gone [] (Closed n) read = refl
      gone (Open g ∷ front) s read = ap (λ fs. g ∷ fs) (gone front s read)
      gone (Closed n ∷ front) s read = gone front s read

  pub stepped-back : (slots : List (Slot K)) (s : Slot K) (f : Face K) (all : List (Face K)) → 0 < length slots → s ≡ get_or slots (length slots - 1) s → face_of s ≡ Some f
      → faces_in slots ≡ all → all ≡ faces_in (take (length slots - 1) slots) ++ f ∷ []
  stepped-back slots s f all some at read left =
      sym left ∙ ap faces_in (sym (last-split slots s some at)) ∙ last (take (length slots - 1) slots) s read
    where
      last : (front : List (Slot K)) (s : Slot K) → face_of s ≡ Some f → faces_in (front ++ s ∷ []) ≡ faces_in front ++ f ∷ []
      last [] (Open g) read = let same : g ≡ f = cc in ap (λ h. h ∷ []) same
      last [] (Closed n) read = cc
      last (Open g ∷ front) s read = ap (λ fs. g ∷ fs) (last front s read)
      last (Closed n ∷ front) s read = last front s read

  pub none-left : (slots : List (Slot K)) (all : List (Face K)) → length slots ≡ 0 → faces_in slots ≡ all → (all ≡ []) × (faces_in slots ≡ [])
  none-left [] all none left = (sym left, refl)
  none-left (s ∷ slots) all none left = absurd (omega (arith, none))

  -- ---- a face closes
  pub closed-standings : (n : ℕ) (before after : List Standing) (slots : List (Slot K)) (i : ℕ) (s : Slot K) → IsRising number_of slots → i < length slots → number_of (get_or slots i s) ≡ n
      → AreStandings before (faces_in slots) → LosesStanding (get_or slots i s) before after → AreStandings after (filter (λ f. not (n == f.number)) (faces_in slots))
  closed-standings n before after slots i s rising lt is are loses = by_slot (get_or slots i s) (found-at n slots i s rising lt is) loses
    where
      by_slot : (at : Slot K) → first_where (λ f. n == f.number) (faces_in slots) ≡ face_of at → LosesStanding at before after → AreStandings after (filter (λ f. not (n == f.number)) (faces_in slots))
      by_slot (Open f) found less = removed n before after (faces_in slots) f (faces-rising slots rising) found are less
      by_slot (Closed m) found same =
          subst (AreStandings after) (sym (none-stays (λ f. f.number) n (faces_in slots) found)) (subst (λ keys. AreStandings keys (faces_in slots)) (sym same) are)
