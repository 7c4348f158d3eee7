-- Two plain faces are joined by a new link, with what waits on it.
use Rattle.std.proofs.Common.{◌≡◌, ◌⊎◌, inl, inr, ℕ, ◌+◌, ◌≤◌, ◌<◌, Bool, true, false, ◌&&◌, ◌||◌, ◌==◌, not, List, [], ◌∷◌, ◌++◌, length, Option, Some, None, refl, sym, ap, ◌∙◌, subst, arith, eq-eqb, eqb-true, ne_eqb, ⊎_elim}
use Rattle.std.proofs.lemmas.Bool.{and_from, and_parts, or_cases, or_left, or_right}
use Rattle.std.specs.List.{list_any}
use Rattle.std.specs.declared.cmp.Ordering.{Ordering}
use Rattle.zt_region.specs.Region.{is_north}
use Rattle.zt_protocol.specs.declared.messages.Message.{Message}
use Rattle.zt_model.specs.Fabric.{Fabric, Link}
use Rattle.zt_model.specs.Linking.{is_end_of, waiting_of}
use Rattle.zt_model.specs.Lists.{at_id, has_id}
use Rattle.zt_model.specs.Rows.{ById}
use Rattle.zt_model.specs.Transcript.{Each, FaceAt, face_numbered}
use Rattle.zt_laws.proofs.Lists.{any-append, any_alike, by_test, each_append, each_weaker, never}
use Rattle.zt_theorem_tree_invariant.specs.Facts.{JointAgrees, TreesAgree}
use Rattle.zt_theorem_tree_invariant.specs.Joints.{EndsRise, IsForest, LinksStand, are_joined, joins}
use Rattle.zt_theorem_tree_invariant.proofs.Quiet.{joins_back}
use Rattle.zt_theorem_tree_knowledge.proofs.LineCalls.{the_one}

at_front : {A : Type 0} (k : ℕ) (xs ys : ById A) → has_id k ys ≡ false → at_id k (xs ++ ys) ≡ at_id k xs
at_front k [] [] apart = refl
at_front k [] (y ∷ ys) apart = by_test (k == y.0) (λ here. never (or_left (k == y.0) (has_id k ys) here) apart) (λ here. rw here (at_front k [] ys (rw here at apart)))
at_front k (x ∷ xs) ys apart = by_test (k == x.0) (λ here. rw here refl) (λ here. rw here (at_front k xs ys apart))

at_back : {A : Type 0} (k : ℕ) (xs ys : ById A) → Each (λ row. row.0 < k) xs → at_id k (xs ++ ys) ≡ at_id k ys
at_back k [] ys below = refl
at_back k (x ∷ xs) ys below = let less : x.0 < k = below.0 in let miss : (k == x.0) ≡ false = ne_eqb k x.0 (λ e. omega arith) in rw miss (at_back k xs ys below.1)

has_front : {A : Type 0} (k : ℕ) (xs ys : ById A) → has_id k xs ≡ true → has_id k (xs ++ ys) ≡ true
has_front k xs ys here = any-append (λ row. k == row.0) xs ys ∙ or_left (has_id k xs) (has_id k ys) here

has_back : {A : Type 0} (k : ℕ) (xs ys : ById A) → has_id k ys ≡ true → has_id k (xs ++ ys) ≡ true
has_back k xs ys here = any-append (λ row. k == row.0) xs ys ∙ or_right (has_id k xs) (has_id k ys) here

ends_push : (low : ℕ) (links : List Link) (l : Link) → EndsRise low links → low < l.one → Each (λ link. link.two < l.one) links → l.one < l.two → EndsRise low (links ++ l ∷ [])
ends_push low [] l rise first below own = (first, own, tt)
ends_push low (link ∷ links) l rise first below own = (rise.0, rise.1, ends_push link.two links l rise.2 below.0 below.1 own)

module _ {K : Type 0} (cmp : K → K → Ordering) (matching : K → K → Bool) (s : Fabric K) (agree : TreesAgree cmp matching s) (k : ℕ) (long : length s.faces ≡ k + 1) (below : Each (λ link. link.two < k) s.links) (rows_below : Each (λ row. row.0 < k) s.waiting) (real : 1 ≤ k) where
  module _ (q1 q2 : List (Message K)) (x y : FaceAt K) (x_is : face_numbered s k ≡ Some x) (y_is : face_numbered s (k + 1) ≡ Some y) (one_up : is_north y.face.region ≡ not (is_north x.face.region))
      (x_low : is_north x.face.region ≡ true → JointAgrees cmp x.face y.face q1 q2) (y_low : is_north y.face.region ≡ true → JointAgrees cmp y.face x.face q2 q1) where
    abbrev new_ : Link
    new_ = record { one = k; two = k + 1; is_open = true }

    abbrev extra : ById (List (Message K))
    extra = (k, q1) ∷ (k + 1, q2) ∷ []

    abbrev pub joined_fabric : Fabric K
    joined_fabric = record s { links = s.links ++ new_ ∷ []; waiting = s.waiting ++ extra }

    -- ---- old joints and the new one

    abbrev IsOld : ℕ → ℕ → Type 0
    IsOld a b = are_joined s a b ≡ true

    abbrev IsNew : ℕ → ℕ → Type 0
    IsNew a b = ((a ≡ k) × (b ≡ k + 1)) ⊎ ((a ≡ k + 1) × (b ≡ k))

    pub old_or_new : (a b : ℕ) → are_joined joined_fabric a b ≡ true → IsOld a b ⊎ IsNew a b
    old_or_new a b joined =
        let test = λ (link : Link). link.is_open && joins a b link in
        let both : (list_any test s.links || list_any test (new_ ∷ [])) ≡ true = sym (any-append test s.links (new_ ∷ [])) ∙ joined in
        ⊎_elim (λ old. inl old)
        (λ more. inr
        (⊎_elim (λ own.
        ⊎_elim (λ one. let parts = and_parts (a == k) (b == k + 1) one in inl (eqb-true a k parts.0, eqb-true b (k + 1) parts.1)) (λ two. let parts = and_parts (a == k + 1) (b == k) two in inr (eqb-true a (k + 1) parts.0, eqb-true b k parts.1))
        (or_cases ((a == k) && (b == k + 1)) ((a == k + 1) && (b == k)) own))
        (λ none_. never none_ refl) (or_cases (joins a b new_) false more)))
        (or_cases (list_any test s.links) (list_any test (new_ ∷ [])) both)

    old_joined : (a b : ℕ) → IsOld a b → are_joined joined_fabric a b ≡ true
    old_joined a b old = any-append (λ link. link.is_open && joins a b link) s.links (new_ ∷ []) ∙ or_left (list_any (λ link. link.is_open && joins a b link) s.links) _ old

    new_joined : (a b : ℕ) → IsNew a b → are_joined joined_fabric a b ≡ true
    new_joined a b is_new =
        any-append (λ link. link.is_open && joins a b link) s.links (new_ ∷ [])
        ∙ or_right (list_any (λ link. link.is_open && joins a b link) s.links) (list_any (λ link. link.is_open && joins a b link) (new_ ∷ []))
        (or_left (joins a b new_) false
        (⊎_elim (λ one. or_left ((a == k) && (b == k + 1)) ((a == k + 1) && (b == k)) (and_from (a == k) (b == k + 1) (eq-eqb a k one.0) (eq-eqb b (k + 1) one.1))) (λ two. or_right ((a == k) && (b == k + 1)) ((a == k + 1) && (b == k)) (and_from (a == k + 1) (b == k) (eq-eqb a (k + 1) two.0) (eq-eqb b k two.1))) is_new))

    -- an end of an old link comes before the new ones
    ends_before : (links : List Link) (low a b : ℕ) → EndsRise low links → Each (λ link. link.two < k) links → list_any (λ link. link.is_open && joins a b link) links ≡ true → a < k
    ends_before [] low a b rise all some = never some refl
    ends_before (link ∷ links) low a b rise all some =
        let two : link.one < link.two = rise.1 in
        let less : link.two < k = all.0 in
        ⊎_elim
        (λ own.
        ⊎_elim (λ straight. let is : a ≡ link.one = eqb-true a link.one (and_parts (a == link.one) (b == link.two) straight).0 in omega arith) (λ crossed. let is : a ≡ link.two = eqb-true a link.two (and_parts (a == link.two) (b == link.one) crossed).0 in omega arith)
        (or_cases ((a == link.one) && (b == link.two)) ((a == link.two) && (b == link.one)) (and_parts link.is_open (joins a b link) own).1))
        (λ there. ends_before links link.two a b rise.2 all.1 there)
        (or_cases (link.is_open && joins a b link) (list_any (λ l. l.is_open && joins a b l) links) some)

    old_before : (a b : ℕ) → IsOld a b → a < k
    old_before a b old = ends_before s.links 0 a b agree.links.rise below old

    back : (a b : ℕ) → IsOld a b → IsOld b a
    back a b old = any_alike (λ link. link.is_open && joins b a link) (λ link. link.is_open && joins a b link) (λ link. ap (λ t. link.is_open && t) (joins_back b a link)) s.links ∙ old

    not_extra : (a : ℕ) → a < k → has_id a extra ≡ false
    not_extra a less = let one : (a == k) ≡ false = ne_eqb a k (λ e. omega arith) in let two : (a == k + 1) ≡ false = ne_eqb a (k + 1) (λ e. omega arith) in rw (one, two) refl

    waits_old : (a : ℕ) → a < k → waiting_of joined_fabric a ≡ waiting_of s a
    waits_old a less = ap (λ (o : Option (List (Message K))). (let q : List (Message K) = elim o [ None ↦ [] | Some ms ↦ ms ] in q)) (at_front a s.waiting extra (not_extra a less))

    waits_one : waiting_of joined_fabric k ≡ q1
    waits_one =
        let first : at_id k extra ≡ Some q1 = rw (eq-eqb k k refl) refl in
        ap (λ (o : Option (List (Message K))). (let q : List (Message K) = elim o [ None ↦ [] | Some ms ↦ ms ] in q)) (at_back k s.waiting extra rows_below ∙ first)

    waits_two : waiting_of joined_fabric (k + 1) ≡ q2
    waits_two =
        let miss : (k + 1 == k) ≡ false = ne_eqb (k + 1) k (λ e. omega arith) in
        let second : at_id (k + 1) extra ≡ Some q2 = rw (miss, eq-eqb (k + 1) (k + 1) refl) refl in
        ap (λ (o : Option (List (Message K))). (let q : List (Message K) = elim o [ None ↦ [] | Some ms ↦ ms ] in q))
        (at_back (k + 1) s.waiting extra (each_weaker (λ row. row.0 < k) (λ row. row.0 < k + 1) (λ row less. omega arith) s.waiting rows_below) ∙ second)

    joints : (a b : ℕ) (u v : FaceAt K) → are_joined joined_fabric a b ≡ true → face_numbered s a ≡ Some u → face_numbered s b ≡ Some v → is_north u.face.region ≡ true → JointAgrees cmp u.face v.face (waiting_of joined_fabric a) (waiting_of joined_fabric b)
    joints a b u v joined u_is v_is up =
        ⊎_elim
        (λ old.
        subst (λ ms. JointAgrees cmp u.face v.face ms (waiting_of joined_fabric b)) (sym (waits_old a (old_before a b old)))
        (subst (λ ms. JointAgrees cmp u.face v.face (waiting_of s a) ms) (sym (waits_old b (old_before b a (back a b old)))) (agree.joints a b u v old u_is v_is up)))
        (λ is_new.
        ⊎_elim
        (λ one.
        let u_same : x ≡ u = the_one (sym x_is ∙ ap (face_numbered s) (sym one.0) ∙ u_is) in
        let v_same : y ≡ v = the_one (sym y_is ∙ ap (face_numbered s) (sym one.1) ∙ v_is) in
        let j = x_low (ap (λ (w : FaceAt K). is_north w.face.region) u_same ∙ up) in
        subst (λ ms. JointAgrees cmp u.face v.face ms (waiting_of joined_fabric b)) (sym (ap (waiting_of joined_fabric) one.0 ∙ waits_one))
        (subst (λ ms. JointAgrees cmp u.face v.face q1 ms) (sym (ap (waiting_of joined_fabric) one.1 ∙ waits_two))
        (subst (λ (w : FaceAt K). JointAgrees cmp u.face w.face q1 q2) v_same (subst (λ (w : FaceAt K). JointAgrees cmp w.face y.face q1 q2) u_same j))))
        (λ two.
        let u_same : y ≡ u = the_one (sym y_is ∙ ap (face_numbered s) (sym two.0) ∙ u_is) in
        let v_same : x ≡ v = the_one (sym x_is ∙ ap (face_numbered s) (sym two.1) ∙ v_is) in
        let j = y_low (ap (λ (w : FaceAt K). is_north w.face.region) u_same ∙ up) in
        subst (λ ms. JointAgrees cmp u.face v.face ms (waiting_of joined_fabric b)) (sym (ap (waiting_of joined_fabric) two.0 ∙ waits_two))
        (subst (λ ms. JointAgrees cmp u.face v.face q2 ms) (sym (ap (waiting_of joined_fabric) two.1 ∙ waits_one))
        (subst (λ (w : FaceAt K). JointAgrees cmp u.face w.face q2 q1) v_same (subst (λ (w : FaceAt K). JointAgrees cmp w.face x.face q2 q1) u_same j))))
        is_new)
        (old_or_new a b joined)

    links : LinksStand joined_fabric
    unfolding face_numbered
    links = record {
      meet = λ a b joined.
          ⊎_elim (λ old. let ends = agree.links.meet a b old in record { one = ends.one; two = ends.two; one_is = ends.one_is; two_is = ends.two_is; one_leads_up = ends.one_leads_up })
          (λ is_new.
          ⊎_elim (λ one. record { one = x; two = y; one_is = ap (face_numbered s) one.0 ∙ x_is; two_is = ap (face_numbered s) one.1 ∙ y_is; one_leads_up = one_up })
          (λ two. record { one = y; two = x; one_is = ap (face_numbered s) two.0 ∙ y_is; two_is = ap (face_numbered s) two.1 ∙ x_is; one_leads_up = turned (is_north x.face.region) (is_north y.face.region) one_up }) is_new)
          (old_or_new a b joined);
      once = λ a b c first second.
          ⊎_elim
          (λ old. ⊎_elim (λ old2. agree.links.once a b c old old2) (λ new2. absurd (not_both a b c old new2)) (old_or_new a c second))
          (λ is_new. ⊎_elim (λ old2. absurd (not_both a c b old2 is_new)) (λ new2. same_new a b c is_new new2) (old_or_new a c second))
          (old_or_new a b first);
      stay = λ a u found some.
          ⊎_elim (λ old. let j = agree.links.stay a u found old in record { other = j.other; joined = old_joined a j.other j.joined })
          (λ more.
          ⊎_elim (λ own. ⊎_elim (λ one. record { other = k + 1; joined = new_joined a (k + 1) (inl (eqb-true a k one, refl)) }) (λ two. record { other = k; joined = new_joined a k (inr (eqb-true a (k + 1) two, refl)) }) (or_cases (a == k) (a == k + 1) own))
          (λ none_. never none_ refl) (or_cases (is_end_of a new_) false more))
          (or_cases (list_any (is_end_of a) s.links) (list_any (is_end_of a) (new_ ∷ [])) (sym (any-append (is_end_of a) s.links (new_ ∷ [])) ∙ some));
      wait = λ a b joined.
          ⊎_elim (λ old. has_front a s.waiting extra (agree.links.wait a b old))
          (λ is_new. has_back a s.waiting extra (⊎_elim (λ one. or_left (a == k) _ (eq-eqb a k one.0)) (λ two. or_right (a == k) ((a == k + 1) || false) (or_left (a == k + 1) false (eq-eqb a (k + 1) two.0))) is_new))
          (old_or_new a b joined);
      made = each_append (λ link. (link.one ≤ length s.faces) × (link.two ≤ length s.faces)) s.links (new_ ∷ []) agree.links.made ((omega arith, omega arith), tt);
      rise = ends_push 0 s.links new_ agree.links.rise (omega arith) below (omega arith);
      rows = each_append (λ (row : ℕ × List (Message K)). row.0 ≤ length s.faces) s.waiting extra agree.links.rows (omega arith, (omega arith, tt));
    }
      where
        turned : (p q : Bool) → q ≡ not p → p ≡ not q
        turned true q h = sym (ap not h)
        turned false q h = sym (ap not h)

        not_both : (a b c : ℕ) → IsOld a b → IsNew a c → ⊥
        not_both a b c old is_new = let less = old_before a b old in ⊎_elim (λ one. let is : a ≡ k = one.0 in absurd (omega arith)) (λ two. let is : a ≡ k + 1 = two.0 in absurd (omega arith)) is_new

        same_new : (a b c : ℕ) → IsNew a b → IsNew a c → b ≡ c
        same_new a b c (inl one) (inl two) = one.1 ∙ sym two.1
        same_new a b c (inl one) (inr two) = let p : a ≡ k = one.0 in let q : a ≡ k + 1 = two.0 in absurd (omega arith)
        same_new a b c (inr one) (inl two) = let p : a ≡ k + 1 = one.0 in let q : a ≡ k = two.0 in absurd (omega arith)
        same_new a b c (inr one) (inr two) = one.1 ∙ sym two.1

    pub joined_agrees : IsForest joined_fabric → TreesAgree cmp matching joined_fabric
    unfolding face_numbered
    joined_agrees forest = record { gateways = agree.gateways; joints = λ a b u v joined u_is v_is up. joints a b u v joined u_is v_is up; links = links; forest = forest }
