-- What keeps the pendings of faces found by when they were sent, and what is found so.
use Rattle.std.proofs.Common.{◌≡◌, ◌&&◌, ◌||◌, ◌-◌, ℕ, ◌==◌, ◌<◌, ◌≤◌, Bool, true, false, cond, if◌then◌else◌, List, [], ◌∷◌, ◌++◌, Option, Some, None, IfSome, IsSome, length, slice_get, ◌↔◌, refl, ap, ap₂, arith, filter, map, subst, sym, ◌∙◌}
use Rattle.std.proofs.lemmas.Bool.{and_from, and_parts, eq-eqb, eqb-true}
use Rattle.std.proofs.lemmas.Bool.Decides.{nat_tests}
use Rattle.std.proofs.lemmas.List.Folds.{list_any-append}
use Rattle.std.specs.BTreeMap.{is_at}
use Rattle.std.specs.List.{AllByRecursion}
use Rattle.std.specs.List.Sorted.{IsStrictlySortedBy}
use Rattle.std.specs.Map.{keys_of}
use Rattle.std.specs.Ordering.{is_eq, is_gt, nat_cmp, ordering_then}
use Rattle.std.specs.declared.cmp.Ordering.{Ordering}
use Rattle.std.specs.declared.cmp.Ordering.TheVariants.{Less, Equal, Greater}
use Rattle.zt_keys.specs.Test.{by_test}
use Rattle.zt_model.specs.Closing.{is_expired}
use Rattle.zt_model.specs.Lists.{at_id, first_where}
use Rattle.zt_model.specs.Rows.{ById, Face, Pending}
use Rattle.zt_rows.specs.ById.{IsInOrder}
use Rattle.zt_faces.specs.Rising.{HasNone, IsRising}
use Rattle.zt_faces.specs.Timed.{AreIn, AreTimed, AwaitsOnly, IsAwaitedIn, IsGathered, IsOrderedAt, KeepsAll, KeepsPendings, expired_among, expired_at, expired_of, gathered, has, has_waited, is_awaited, is_in, is_since, pair_cmp, timed_at, timed_cmp, waits, waits_in}
use Rattle.zt_faces.specs.declared.by_time.Timed.{Timed}
use Rattle.zt_faces.proofs.Standings.{is_eq-then, nat_ties}

-- ---- tests
pub clash : {P : Type 0} (b : Bool) → b ≡ true → b ≡ false → P
clash true t f = cc
clash false t f = cc

pub or-left : (a b : Bool) → a ≡ true → (a || b) ≡ true
or-left true b t = refl
or-left false b t = cc

pub or-right : (a b : Bool) → b ≡ true → (a || b) ≡ true
or-right true b t = refl
or-right false b t = t

pub or-either : {P : Type 0} (a b : Bool) → (a || b) ≡ true → (a ≡ true → P) → (b ≡ true → P) → P
or-either true b t one other = one refl
or-either false b t one other = other t

pub or-none : (a : Bool) → (a || false) ≡ true → a ≡ true
or-none true t = refl
or-none false t = t

pub both-ways : (a b : Bool) → (a ≡ true → b ≡ true) → (b ≡ true → a ≡ true) → a ≡ b
both-ways true true one other = refl
both-ways true false one other = sym (one refl)
both-ways false true one other = other refl
both-ways false false one other = refl

-- ---- their order
timed-parts : (a b : Timed) → timed_cmp a b ≡ ordering_then (nat_cmp a.since b.since) (ordering_then (nat_cmp a.face b.face) (nat_cmp a.id b.id))
timed-parts a b = refl

at-timed : (a b : Timed) → is_at (timed_cmp a) b ≡ ((a.since == b.since) && ((a.face == b.face) && (a.id == b.id)))
at-timed a b =
    ap is_eq (timed-parts a b)
    ∙ is_eq-then (nat_cmp a.since b.since) _
    ∙ ap₂ (λ s t. s && t) (nat_ties a.since b.since)
    (is_eq-then (nat_cmp a.face b.face) _ ∙ ap₂ (λ s t. s && t) (nat_ties a.face b.face) (nat_ties a.id b.id))

same-timed : (a b : Timed) → is_at (timed_cmp a) b ≡ true → a ≡ b
same-timed a b at =
    let one = and_parts _ _ (sym (at-timed a b) ∙ at) in
    let two = and_parts _ _ one.1 in
    let s = eqb-true a.since b.since one.0 in
    let n = eqb-true a.face b.face two.0 in
    let k = eqb-true a.id b.id two.1 in
    λ i. record { since = s i; face = n i; id = k i }

self-timed : (a : Timed) → is_at (timed_cmp a) a ≡ true
self-timed a = at-timed a a ∙ and_from _ _ (eq-eqb a.since a.since refl) (and_from _ _ (eq-eqb a.face a.face refl) (eq-eqb a.id a.id refl))

first-later : (m n : ℕ) (o : Ordering) → ordering_then (nat_cmp m n) o ≡ Less → m ≤ n
first-later m n o less = by-order (nat_cmp m n) refl less
  where
    not-above : (a b : ℕ) → is_gt (nat_cmp a b) ≡ false → a ≤ b
    not-above a b h = grind (arith, nat_tests)

    by-order : (r : Ordering) → nat_cmp m n ≡ r → ordering_then r o ≡ Less → m ≤ n
    by-order Less is l = not-above m n (ap is_gt is)
    by-order Equal is l = not-above m n (ap is_gt is)
    by-order Greater is l = cc

later-since : (t q : Timed) (later : List Timed) → IsStrictlySortedBy timed_cmp (t ∷ later) → has q (t ∷ later) ≡ true → t.since ≤ q.since
unfolding IsStrictlySortedBy
later-since t q later sorted found =
    or-either (is_at (timed_cmp q) t) (has q later) found
    (λ here. let same = ap (λ (x : Timed). x.since) (same-timed q t here) in omega (arith, same))
    (λ there. among later sorted.0 there)
  where
    among : (ys : List Timed) → AllByRecursion (λ y. timed_cmp t y ≡ Less) ys → has q ys ≡ true → t.since ≤ q.since
    among [] above at = cc
    among (y ∷ ys) above at =
        or-either (is_at (timed_cmp q) y) (has q ys) at
        (λ here. let same = ap (λ (x : Timed). x.since) (same-timed q y here) in let le = first-later t.since y.since _ above.0 in omega (arith, same, le))
        (λ there. among ys above.1 there)

waited-before : (now timeout s q : ℕ) → s ≤ q → has_waited now timeout q ≡ true → has_waited now timeout s ≡ true
waited-before now timeout s q le waited = grind (arith, nat_tests)

-- ---- what is known stays known
pub keeps-same : (keys : List Timed) → KeepsAll keys keys
keeps-same keys = record { at = λ timed here. here }

pub keeps-more : (old mid new : List Timed) → KeepsAll old mid → KeepsAll mid new → KeepsAll old new
keeps-more old mid new more further = record { at = λ timed here. further.at timed (more.at timed here) }

-- one that is put among them
pub put-here : (timed : Timed) (old new : List Timed) → ((q : Timed) → has q new ≡ cond (is_at (timed_cmp timed) q) true (has q old)) → has timed new ≡ true
put-here timed old new put = put timed ∙ ap (λ b. cond b true (has timed old)) (self-timed timed)

pub put-kept : (timed : Timed) (old new : List Timed) → ((q : Timed) → has q new ≡ cond (is_at (timed_cmp timed) q) true (has q old)) → KeepsAll old new
put-kept timed old new put = record { at = λ q here. put q ∙ either (is_at (timed_cmp timed) q) (has q old) here }
  where
    either : (a b : Bool) → b ≡ true → cond a true b ≡ true
    either true b t = refl
    either false b t = t

-- ---- as one pending after another becomes known
-- what isn't known yet is among those that are left
abbrev pub AreInBut : List Timed → ℕ → ById Pending → ById Pending → Type 0
AreInBut keys n left all = (since id : ℕ) → waits_in since id all ≡ true → (has (timed_at since n id) keys || waits_in since id left) ≡ true

pub in-none : (keys : List Timed) (n : ℕ) (left all : ById Pending) → left ≡ all → AreInBut keys n left all
in-none keys n left all is since id here = or-right (has (timed_at since n id) keys) _ (subst (λ rows. waits_in since id rows ≡ true) (sym is) here)

pub in-step : (old new : List Timed) (n : ℕ) (row : ℕ × Pending) (left later all : ById Pending) → left ≡ row ∷ later → AreInBut old n left all → KeepsAll old new → has (timed_at row.1.since n row.0) new ≡ true → AreInBut new n later all
in-step old new n row left later all is but kept here since id waits =
    or-either (has (timed_at since n id) old) (waits_in since id left) (but since id waits)
    (λ t. or-left _ (waits_in since id later) (kept.at (timed_at since n id) t))
    (λ t. or-either ((id == row.0) && (since == row.1.since)) (waits_in since id later) (subst (λ rows. waits_in since id rows ≡ true) is t)
    (λ u. let both = and_parts _ _ u in
    or-left _ (waits_in since id later) (subst (λ (p : ℕ × ℕ). has (timed_at p.1 n p.0) new ≡ true) (λ i. (sym (eqb-true id row.0 both.0) i, sym (eqb-true since row.1.since both.1) i)) here))
    (λ u. or-right (has (timed_at since n id) new) _ u))

pub in-all : (keys : List Timed) (n : ℕ) (left all : ById Pending) → left ≡ [] → AreInBut keys n left all → AreIn keys n all
in-all keys n left all is but since id waits = or-none _ (subst (λ rows. (has (timed_at since n id) keys || waits_in since id rows) ≡ true) is (but since id waits))

module _ {K : Type 0} where
  abbrev pub AreTimedBut : List Timed → List (Face K) → List (Face K) → Type 0
  AreTimedBut keys left all = (timed : Timed) → waits timed all ≡ true → (has timed keys || waits timed left) ≡ true

  pub timed-none : (keys : List Timed) (left all : List (Face K)) → left ≡ all → AreTimedBut keys left all
  timed-none keys left all is timed here = or-right (has timed keys) _ (subst (λ fs. waits timed fs ≡ true) (sym is) here)

  -- the pendings of a face are known
  at-face : (keys : List Timed) (f : Face K) → AreIn keys f.number f.pendings → (timed : Timed) → ((timed.face == f.number) && waits_in timed.since timed.id f.pendings) ≡ true → has timed keys ≡ true
  at-face keys f are timed here =
      let both = and_parts _ _ here in
      subst (λ n. has (timed_at timed.since n timed.id) keys ≡ true) (sym (eqb-true timed.face f.number both.0)) (are timed.since timed.id both.1)

  pub timed-step : (old new : List Timed) (f : Face K) (left later all : List (Face K)) → left ≡ f ∷ later → AreTimedBut old left all → KeepsAll old new → AreIn new f.number f.pendings → AreTimedBut new later all
  timed-step old new f left later all is but kept here timed waiting =
      or-either (has timed old) (waits timed left) (but timed waiting)
      (λ t. or-left _ (waits timed later) (kept.at timed t))
      (λ t. or-either ((timed.face == f.number) && waits_in timed.since timed.id f.pendings) (waits timed later) (subst (λ fs. waits timed fs ≡ true) is t)
      (λ u. or-left _ (waits timed later) (at-face new f here timed u))
      (λ u. or-right (has timed new) _ u))

  pub timed-all : (keys : List Timed) (left all : List (Face K)) → left ≡ [] → AreTimedBut keys left all → AreTimed keys all
  timed-all keys left all is but timed waiting = or-none _ (subst (λ fs. (has timed keys || waits timed fs) ≡ true) is (but timed waiting))

  -- ---- as faces change
  pub timed-more : (old new : List Timed) → KeepsAll old new → (faces : List (Face K)) → AreTimed old faces → AreTimed new faces
  timed-more old new kept faces are timed here = kept.at timed (are timed here)

  pub timed-pushed : (keys : List Timed) (faces : List (Face K)) (f : Face K) → AreTimed keys faces → AreIn keys f.number f.pendings → AreTimed keys (faces ++ f ∷ [])
  timed-pushed keys faces f are here timed waiting =
      let p = λ (x : Face K). (timed.face == x.number) && waits_in timed.since timed.id x.pendings in
      or-either (waits timed faces) (waits timed (f ∷ [])) (sym (list_any-append p faces (f ∷ [])) ∙ waiting)
      (are timed)
      (λ t. at-face keys f here timed (or-none _ t))

  pub timed-filtered : (keep : Face K → Bool) (keys : List Timed) (faces : List (Face K)) → AreTimed keys faces → AreTimed keys (filter keep faces)
  timed-filtered keep keys faces are timed waiting = are timed (was faces waiting)
    where
      was : (fs : List (Face K)) → waits timed (filter keep fs) ≡ true → waits timed fs ≡ true
      was [] w = w
      was (f ∷ fs) w =
          by_test (keep f)
          (λ t. or-either ((timed.face == f.number) && waits_in timed.since timed.id f.pendings) (waits timed (filter keep fs)) (rw t at w) (λ u. or-left _ (waits timed fs) u) (λ u. or-right ((timed.face == f.number) && waits_in timed.since timed.id f.pendings) _ (was fs u)))
          (λ t. or-right ((timed.face == f.number) && waits_in timed.since timed.id f.pendings) _ (was fs (rw t at w)))

  -- one face, that may await one more
  pub timed-awaited : (n : ℕ) (awaited : Option (ℕ × ℕ)) (change : Face K → Face K) → ((f : Face K) → (change f).number ≡ f.number) → ((f : Face K) → AwaitsOnly awaited f (change f))
      → (keys : List Timed) (faces : List (Face K)) → IsAwaitedIn keys n awaited → AreTimed keys faces → AreTimed keys (map (λ f. if n == f.number then change f else f) faces)
  timed-awaited n awaited change number only keys faces here are timed waiting = among faces (are timed) waiting
    where
      at-one : (f : Face K) → (n == f.number) ≡ true → (((timed.face == f.number) && waits_in timed.since timed.id f.pendings) ≡ true → has timed keys ≡ true)
          → ((timed.face == (change f).number) && waits_in timed.since timed.id (change f).pendings) ≡ true → has timed keys ≡ true
      at-one f t was w =
          let both = and_parts _ _ w in
          let face = subst (λ m. (timed.face == m) ≡ true) (number f) both.0 in
          or-either (is_awaited timed.since timed.id awaited) (waits_in timed.since timed.id f.pendings) (only f timed.since timed.id both.1)
          (λ u. subst (λ m. has (timed_at timed.since m timed.id) keys ≡ true) (eqb-true n f.number t ∙ sym (eqb-true timed.face f.number face)) (here timed.since timed.id u))
          (λ u. was (and_from _ _ face u))

      among : (fs : List (Face K)) → (waits timed fs ≡ true → has timed keys ≡ true) → waits timed (map (λ f. if n == f.number then change f else f) fs) ≡ true → has timed keys ≡ true
      among [] was w = cc
      among (f ∷ fs) was w =
          by_test (n == f.number)
          (λ t. or-either _ (waits timed (map (λ f. if n == f.number then change f else f) fs)) (rw t at w)
          (at-one f t (λ u. was (or-left _ (waits timed fs) u)))
          (among fs (λ u. was (or-right ((timed.face == f.number) && waits_in timed.since timed.id f.pendings) _ u))))
          (λ t. or-either _ (waits timed (map (λ f. if n == f.number then change f else f) fs)) (rw t at w)
          (λ u. was (or-left _ (waits timed fs) u))
          (among fs (λ u. was (or-right ((timed.face == f.number) && waits_in timed.since timed.id f.pendings) _ u))))

  pub timed-changed : (n : ℕ) (change : Face K → Face K) → ((f : Face K) → (change f).number ≡ f.number) → ((f : Face K) → KeepsPendings f (change f))
      → (keys : List Timed) (faces : List (Face K)) → AreTimed keys faces → AreTimed keys (map (λ f. if n == f.number then change f else f) faces)
  timed-changed n change number kept keys faces are = timed-awaited n None change number kept keys faces (λ since id no-one. cc) are

  -- the first of them, where it waits no more
  pub timed-dropped : (first : Timed) (keys left : List Timed) (faces : List (Face K)) → keys ≡ first ∷ left → waits first faces ≡ false → AreTimed keys faces → AreTimed left faces
  timed-dropped first keys left faces is gone are timed waiting =
      or-either (is_at (timed_cmp timed) first) (has timed left) (subst (λ ks. has timed ks ≡ true) is (are timed waiting))
      (λ t. clash (waits first faces) (subst (λ (q : Timed). waits q faces ≡ true) (same-timed timed first t) waiting) gone)
      (λ t. t)

-- ---- whether one waits
above-none : (since id : ℕ) (rows : ById Pending) → AllByRecursion (λ k. nat_cmp id k ≡ Less) (keys_of rows) → waits_in since id rows ≡ false
above-none since id [] above = refl
above-none since id (row ∷ rows) above = rw (apart id row.0 above.0) (above-none since id rows above.1)
  where
    apart : (a b : ℕ) → nat_cmp a b ≡ Less → (a == b) ≡ false
    apart a b h = grind (arith, nat_tests)

or-false : (b : Bool) → (b || false) ≡ b
or-false true = refl
or-false false = refl

pub waits-at : (since id : ℕ) (rows : ById Pending) → IsInOrder rows → is_since since (at_id id rows) ≡ waits_in since id rows
unfolding IsStrictlySortedBy
waits-at since id [] ordered = refl
waits-at since id (row ∷ rows) ordered =
    by_test (id == row.0)
    (λ t. let others = above-none since id rows (subst (λ k. AllByRecursion (λ q. nat_cmp k q ≡ Less) (keys_of rows)) (sym (eqb-true id row.0 t)) ordered.0) in
    rw (t, others) (sym (or-false (since == row.1.since))))
    (λ t. rw t (waits-at since id rows ordered.1))

module _ {K : Type 0} where
  none-of : (timed : Timed) (faces : List (Face K)) → HasNone (λ f. f.number) timed.face faces → waits timed faces ≡ false
  none-of timed [] has_none = refl
  none-of timed (f ∷ fs) has_none = rw has_none.0 (none-of timed fs has_none.1)

  ordered-none : (n : ℕ) (faces : List (Face K)) → HasNone (λ f. f.number) n faces → IsOrderedAt n faces
  ordered-none n [] has_none = tt
  ordered-none n (f ∷ fs) has_none = (λ t. clash (n == f.number) t has_none.0, ordered-none n fs has_none.1)

  none-above : (n : ℕ) (fs : List (Face K)) → AllByRecursion (λ y. n < y.number) fs → HasNone (λ f. f.number) n fs
  none-above n [] above = tt
  none-above n (f ∷ fs) above = (apart n f.number above.0, none-above n fs above.1)
    where
      apart : (a b : ℕ) → a < b → (a == b) ≡ false
      apart a b h = grind (arith, nat_tests)

  absurd-some : {P : Type 0} (f : Face K) → Some f ≡ None → P
  absurd-some f e = cc

  pub none-waits : (timed : Timed) (faces : List (Face K)) → first_where (λ f. timed.face == f.number) faces ≡ None → (waits timed faces ≡ false) × IsOrderedAt timed.face faces
  none-waits timed faces none = let nobody = nobody-in faces none in (none-of timed faces nobody, ordered-none timed.face faces nobody)
    where
      nobody-in : (fs : List (Face K)) → first_where (λ f. timed.face == f.number) fs ≡ None → HasNone (λ f. f.number) timed.face fs
      nobody-in [] h = tt
      nobody-in (f ∷ fs) h = by_test (timed.face == f.number) (λ t. absurd-some f (rw t at h)) (λ t. (t, nobody-in fs (rw t at h)))

  pub found-waits : (timed : Timed) (faces : List (Face K)) (f : Face K) → IsRising (λ x. x.number) faces → first_where (λ x. timed.face == x.number) faces ≡ Some f → IsInOrder f.pendings
      → (waits timed faces ≡ waits_in timed.since timed.id f.pendings) × IsOrderedAt timed.face faces
  found-waits timed [] f rising found ordered = cc
  found-waits timed (x ∷ xs) f rising found ordered =
      by_test (timed.face == x.number)
      (λ t.
      let is : x ≡ f = same-some x f (rw t at found) in
      let nobody = none-above timed.face xs (subst (λ n. AllByRecursion (λ y. n < y.number) xs) (sym (eqb-true timed.face x.number t)) rising.0) in
      let others = none-of timed xs nobody in
      (rw (t, others) (or-false (waits_in timed.since timed.id x.pendings) ∙ ap (λ (y : Face K). waits_in timed.since timed.id y.pendings) is), (λ _. subst (λ (y : Face K). IsInOrder y.pendings) (sym is) ordered, ordered-none timed.face xs nobody)))
      (λ t. let rest = found-waits timed xs f rising.1 (rw t at found) ordered in (rw t rest.0, (λ u. clash (timed.face == x.number) u t, rest.1)))
    where
      same-some : (a b : Face K) → Some a ≡ Some b → a ≡ b
      same-some a b e = cc

-- ---- pairs
pub at-pair : (a b : ℕ × ℕ) → is_at (pair_cmp a) b ≡ ((a.0 == b.0) && (a.1 == b.1))
at-pair a b = is_eq-then (nat_cmp a.0 b.0) _ ∙ ap₂ (λ s t. s && t) (nat_ties a.0 b.0) (nat_ties a.1 b.1)

pub same-pair : (a b : ℕ × ℕ) → is_at (pair_cmp a) b ≡ true → a ≡ b
same-pair a b at =
    let both = and_parts _ _ (sym (at-pair a b) ∙ at) in
    λ i. (eqb-true a.0 b.0 both.0 i, eqb-true a.1 b.1 both.1 i)

pub self-pair : (a : ℕ × ℕ) → is_at (pair_cmp a) a ≡ true
self-pair a = at-pair a a ∙ and_from _ _ (eq-eqb a.0 a.0 refl) (eq-eqb a.1 a.1 refl)

-- one that waits and has waited for the timeout is one of those that expired
expired-in-rows : (now timeout : ℕ) (t : Timed) → has_waited now timeout t.since ≡ true → (n : ℕ) → t.face ≡ n → (rows : ById Pending) → waits_in t.since t.id rows ≡ true → is_in (t.face, t.id) (expired_of now timeout n rows) ≡ true
expired-in-rows now timeout t waited n is [] w = cc
expired-in-rows now timeout t waited n is (row ∷ rows) w =
    by_test (is_expired now timeout row)
    (λ e. rw e
    (or-either ((t.id == row.0) && (t.since == row.1.since)) (waits_in t.since t.id rows) w
    (λ u. or-left _ (is_in (t.face, t.id) (expired_of now timeout n rows)) (at-pair (t.face, t.id) (n, row.0) ∙ and_from _ _ (eq-eqb t.face n is) (and_parts _ _ u).0))
    (λ u. or-right (is_at (pair_cmp (t.face, t.id)) (n, row.0)) _ (expired-in-rows now timeout t waited n is rows u))))
    (λ e. rw e
    (or-either ((t.id == row.0) && (t.since == row.1.since)) (waits_in t.since t.id rows) w
    (λ u. clash (has_waited now timeout row.1.since) (subst (λ s. has_waited now timeout s ≡ true) (eqb-true t.since row.1.since (and_parts _ _ u).1) waited) e)
    (expired-in-rows now timeout t waited n is rows)))

expired-in-faces : {K : Type 0} (now timeout : ℕ) (t : Timed) → has_waited now timeout t.since ≡ true → (fs : List (Face K)) → waits t fs ≡ true → is_in (t.face, t.id) (expired_among now timeout fs) ≡ true
expired-in-faces now timeout t waited [] w = cc
expired-in-faces now timeout t waited (f ∷ fs) w =
    list_any-append (is_at (pair_cmp (t.face, t.id))) (expired_at now timeout f) (expired_among now timeout fs)
    ∙ or-either ((t.face == f.number) && waits_in t.since t.id f.pendings) (waits t fs) w
    (λ u. let both = and_parts _ _ u in
    or-left _ (is_in (t.face, t.id) (expired_among now timeout fs)) (expired-in-rows now timeout t waited f.number (eqb-true t.face f.number both.0) f.pendings both.1))
    (λ u. or-right (is_in (t.face, t.id) (expired_at now timeout f)) _ (expired-in-faces now timeout t waited fs u))

-- ---- what is gathered
module _ {K : Type 0} (now timeout : ℕ) (faces : List (Face K)) where
  -- what isn't found yet is among those that are left
  pub record IsGathering (left : List Timed) (found : List (ℕ × ℕ)) : Type 0 where
    pub all : (timed : Timed) → waits timed faces ≡ true → has_waited now timeout timed.since ≡ true → (is_in (timed.face, timed.id) found || has timed left) ≡ true
    pub only : (p : ℕ × ℕ) → is_in p found ≡ true → is_in p (expired_among now timeout faces) ≡ true
    pub ordered : (p : ℕ × ℕ) → is_in p found ≡ true → IsOrderedAt p.0 faces
    pub sorted : IsStrictlySortedBy timed_cmp left

  pub gathering-none : (keys left : List Timed) → left ≡ keys → IsStrictlySortedBy timed_cmp keys → AreTimed keys faces → IsGathering left []
  gathering-none keys left is sorted are = record {
    all = λ timed waiting waited. subst (λ ks. has timed ks ≡ true) (sym is) (are timed waiting);
    only = λ p h. cc;
    ordered = λ p h. cc;
    sorted = subst (IsStrictlySortedBy timed_cmp) (sym is) sorted;
  }

  pub gathering-stop : (t : Timed) (left later : List Timed) (found : List (ℕ × ℕ)) → left ≡ t ∷ later → IsGathering left found → has_waited now timeout t.since ≡ false → IsGathered now timeout faces found
  gathering-stop t left later found is so late = record {
    all = λ timed waiting waited.
        or-either (is_in (timed.face, timed.id) found) (has timed left) (so.all timed waiting waited) (λ h. h)
        (λ h. clash (has_waited now timeout t.since) (waited-before now timeout t.since timed.since (later-since t timed later (subst (IsStrictlySortedBy timed_cmp) is so.sorted) (subst (λ ks. has timed ks ≡ true) is h)) waited) late);
    only = so.only;
    ordered = so.ordered;
  }

  pub gathering-end : (left : List Timed) (found : List (ℕ × ℕ)) → left ≡ [] → IsGathering left found → IsGathered now timeout faces found
  gathering-end left found is so = record {
    all = λ timed waiting waited. or-none _ (subst (λ ks. (is_in (timed.face, timed.id) found || has timed ks) ≡ true) is (so.all timed waiting waited));
    only = so.only;
    ordered = so.ordered;
  }

  -- the next one is gathered, where it waits
  pub gathering-step : (t : Timed) (left later : List Timed) (found : List (ℕ × ℕ)) → left ≡ t ∷ later → IsGathering left found → has_waited now timeout t.since ≡ true → IsOrderedAt t.face faces
      → IsGathering later (gathered t faces found)
  unfolding IsStrictlySortedBy
  gathering-step t left later found is so waited ordered =
      by_test (waits t faces)
      (λ w. rw w (record {
        all = λ timed waiting long.
            ap (λ b. b || has timed later) (list_any-append (is_at (pair_cmp (timed.face, timed.id))) found ((t.face, t.id) ∷ []))
            ∙ or-either (is_in (timed.face, timed.id) found) (has timed left) (so.all timed waiting long)
            (λ h. or-left _ (has timed later) (or-left _ (is_in (timed.face, timed.id) ((t.face, t.id) ∷ [])) h))
            (λ h. or-either (is_at (timed_cmp timed) t) (has timed later) (subst (λ ks. has timed ks ≡ true) is h)
            (λ u. let one = same-timed timed t u in
            or-left _ (has timed later) (or-right (is_in (timed.face, timed.id) found) _ (or-left _ false (subst (λ (x : Timed). is_at (pair_cmp (timed.face, timed.id)) (x.face, x.id) ≡ true) one (self-pair (timed.face, timed.id))))))
            (λ u. or-right (is_in (timed.face, timed.id) found || is_in (timed.face, timed.id) ((t.face, t.id) ∷ [])) _ u));
        only = λ p h. or-either (is_in p found) (is_in p ((t.face, t.id) ∷ [])) (sym (list_any-append (is_at (pair_cmp p)) found ((t.face, t.id) ∷ [])) ∙ h)
            (so.only p)
            (λ u. subst (λ (q : ℕ × ℕ). is_in q (expired_among now timeout faces) ≡ true) (sym (same-pair p (t.face, t.id) (or-none _ u))) (expired-in-faces now timeout t waited faces w));
        ordered = λ p h. or-either (is_in p found) (is_in p ((t.face, t.id) ∷ [])) (sym (list_any-append (is_at (pair_cmp p)) found ((t.face, t.id) ∷ [])) ∙ h)
            (so.ordered p)
            (λ u. subst (λ (q : ℕ × ℕ). IsOrderedAt q.0 faces) (sym (same-pair p (t.face, t.id) (or-none _ u))) ordered);
        sorted = later-sorted;
      }))
      (λ w. rw w (record {
        all = λ timed waiting long.
            or-either (is_in (timed.face, timed.id) found) (has timed left) (so.all timed waiting long)
            (λ h. or-left _ (has timed later) h)
            (λ h. or-either (is_at (timed_cmp timed) t) (has timed later) (subst (λ ks. has timed ks ≡ true) is h)
            (λ u. clash (waits t faces) (subst (λ (x : Timed). waits x faces ≡ true) (same-timed timed t u) waiting) w)
            (λ u. or-right (is_in (timed.face, timed.id) found) _ u));
        only = so.only;
        ordered = so.ordered;
        sorted = later-sorted;
      }))
    where
      later-sorted : IsStrictlySortedBy timed_cmp later
      later-sorted = (subst (IsStrictlySortedBy timed_cmp) is so.sorted).1

-- ---- what is awaited
pub nothing-awaited : (keys : List Timed) (n : ℕ) → IsAwaitedIn keys n None
nothing-awaited keys n since id h = cc

pub one-awaited : (keys : List Timed) (n since id : ℕ) → has (timed_at since n id) keys ≡ true → IsAwaitedIn keys n (Some (since, id))
one-awaited keys n since id here s k h =
    let both = and_parts _ _ h in
    subst (λ (p : ℕ × ℕ). has (timed_at p.0 n p.1) keys ≡ true) (λ i. (sym (eqb-true s since both.0) i, sym (eqb-true k id both.1) i)) here

never : {P : Type 0} → false ≡ true → P
never e = cc

-- the first one is what is taken first
pub popped : (o : Option Timed) (first : Timed) (keys left : List Timed) → slice_get keys 0 ≡ Some first → IsSome o ↔ (0 < length keys) → IfSome o (λ k. keys ≡ k ∷ left) → keys ≡ first ∷ left
popped None first [] left at some is = cc
popped None first (k ∷ keys) left at some is = never (some.1 (omega arith))
popped (Some k) first keys left at some is = is ∙ ap (λ x. x ∷ left) (one (subst (λ ks. slice_get ks 0 ≡ Some first) is at))
  where
    one : Some k ≡ Some first → k ≡ first
    one e = cc
