-- Finals that are no ask's, and what follows finals.
use Rattle.std.proofs.Common.{◌≡◌, ◌⊎◌, inl, inr, ℕ, ◌+◌, ◌-◌, Bool, true, false, ◌&&◌, ◌||◌, ◌==◌, not, if◌then◌else◌, List, [], ◌∷◌, ◌++◌, Option, None, Some, refl, sym, ap, subst, ◌∙◌, ⊎_elim, eqb-true, eq-eqb}
use Rattle.std.proofs.lemmas.Bool.{and_from, and_parts, false≢true, or_left, or_right}
use Rattle.std.specs.List.{list_all, list_any}
use Rattle.std.specs.Prelude.{is_some}
use Rattle.std.specs.declared.cmp.Ordering.{Ordering}
use Rattle.zt_keys.specs.Test.{by_test}
use Rattle.zt_protocol.specs.declared.entries.Sent.{Sent}
use Rattle.zt_protocol.specs.declared.messages.Message.{Message}
use Rattle.zt_protocol.specs.declared.messages.Message.TheVariants.{DeclareToken, UndeclareToken, DeclareFinal, Interest, InterestFinal, DeclareSubscriber, DeclareQueryable}
use Rattle.zt_model.specs.Fabric.{Fabric, Node, Place, number_of_place, printed_for}
use Rattle.zt_model.specs.Lists.{first_where, has_id, is_some_and, nth}
use Rattle.zt_model.specs.Parts.{find_face}
use Rattle.zt_model.specs.Promises.{EachFace, IsFinalOfSome, NothingFollowsFinals, Turn, answers_interest, is_open_face}
use Rattle.zt_model.specs.Rows.{Face, Rows}
use Rattle.zt_model.specs.Transcript.{Each, FaceAt, face_numbered}
use Rattle.zt_check_fabric.specs.Placed.{IsPlaced, has_one_place, is_place}
use Rattle.zt_check_fabric.proofs.Numbers.{eqb_flip, number_is}
use Rattle.zt_check_keeping.proofs.Members.{Among, all_member, any_member, append_left, append_right, each_member, in_append, member_any, members_each}
use Rattle.zt_check_finals.specs.Ending.{unopened_by, unopened_of}
use Rattle.zt_check_finals.specs.Finishing.{answers_for, is_followed_by_none, nothing_follows, of_some_at, of_some_in}
use Rattle.zt_check_asks.proofs.Asked.{either_so, members_all}
use Rattle.zt_check_asks.proofs.Covered.{each_face}

same_tests : (a b : Bool) → (a ≡ true → b ≡ true) → (b ≡ true → a ≡ true) → a ≡ b
same_tests true b one other = sym (one refl)
same_tests false true one other = other refl
same_tests false false one other = refl

-- ---- faces that weren't open

module _ {K : Type 0} (s : Fabric K) where
  one_unopened : (n : ℕ) (m : Message K) (k : ℕ) → Among k (unopened_of s n m) → not (is_open_face s k) ≡ true
  one_unopened n (DeclareFinal id) k at =
      by_test ((id == 0) && not (is_open_face s n))
      (λ here. subst (λ j. not (is_open_face s j) ≡ true) (sym (only (rw here at at))) (and_parts (id == 0) (not (is_open_face s n)) here).1)
      (λ here. absurd (rw here at at))
    where
      only : Among k (n ∷ []) → k ≡ n
      only (inl is) = is
      only (inr none) = absurd none
  one_unopened n (DeclareToken token e interest node) k at = absurd at
  one_unopened n (UndeclareToken token e node) k at = absurd at
  one_unopened n (Interest i mode options e) k at = absurd at
  one_unopened n (InterestFinal i) k at = absurd at
  one_unopened n (DeclareSubscriber i e interest) k at = absurd at
  one_unopened n (DeclareQueryable i e info interest) k at = absurd at

  each_unopened : (ms : List (Sent K)) (k : ℕ) → Among k (unopened_by s ms) → not (is_open_face s k) ≡ true
  each_unopened [] k at = absurd at
  each_unopened (m ∷ ms) k at =
      ⊎_elim (λ first. one_unopened m.face m.message k first) (λ later. each_unopened ms k later) (in_append k (unopened_of s m.face m.message) (unopened_by s ms) at)

  unopened_there : (ms : List (Sent K)) (m : Sent K) (id : ℕ) → Among m ms → m.message ≡ DeclareFinal id → (id == 0) ≡ true → not (is_open_face s m.face) ≡ true → Among m.face (unopened_by s ms)
  unopened_there [] m id at is zero_ new = absurd at
  unopened_there (x ∷ ms) m id (inl same) is zero_ new =
      let both : ((id == 0) && not (is_open_face s m.face)) ≡ true = and_from (id == 0) (not (is_open_face s m.face)) zero_ new in
      append_left m.face (unopened_of s x.face x.message) (unopened_by s ms)
      (subst (λ (y : Sent K). Among m.face (unopened_of s y.face y.message)) same
      (subst (λ (y : Message K). Among m.face (unopened_of s m.face y)) (sym is) (rw both (inl refl))))
  unopened_there (x ∷ ms) m id (inr at) is zero_ new = append_right m.face (unopened_of s x.face x.message) (unopened_by s ms) (unopened_there ms m id at is zero_ new)

  unopened_is : (ms : List (Sent K)) (m : Sent K) (id : ℕ) → Among m ms → m.message ≡ DeclareFinal id → (id == 0) ≡ true → list_any (λ k. m.face == k) (unopened_by s ms) ≡ not (is_open_face s m.face)
  unopened_is ms m id at is zero_ =
      same_tests (list_any (λ k. m.face == k) (unopened_by s ms)) (not (is_open_face s m.face))
      (λ some.
      let found = any_member (λ k. m.face == k) (unopened_by s ms) some in
      subst (λ k. not (is_open_face s k) ≡ true) (sym (eqb-true m.face found.0 found.1.1)) (each_unopened ms found.0 found.1.0))
      (λ new. member_any (λ k. m.face == k) m.face (unopened_by s ms) (unopened_there ms m id at is zero_ new) (eq-eqb m.face m.face refl))

  -- the tests of finals that are no ask's agree
  at_number : (carried : Fabric K) (unopened : List ℕ) (n id : ℕ) → of_some_at carried unopened n id (nth n carried.faces) ≡ is_some_and (face_numbered carried n) (λ x. of_some_in unopened n id x.face)
  unfolding face_numbered
  at_number carried unopened n id = go (nth n carried.faces)
    where
      at_face : (p : Place) (node : Node K) (found : Option (Face K)) → is_some_and found (of_some_in unopened n id)
          ≡ is_some_and (elim found as (λ _. Option (FaceAt K)) [ None ↦ None | Some y ↦ Some (record { gateway = p.gateway; rows = node.rows; face = y }) ]) (λ x. of_some_in unopened n id x.face)
      at_face p node None = refl
      at_face p node (Some y) = refl

      at_node : (p : Place) (found : Option (Node K)) → is_some_and found (λ node. is_some_and (find_face p.face node.rows) (of_some_in unopened n id))
          ≡ is_some_and (elim found as (λ _. Option (FaceAt K)) [ None ↦ None | Some x ↦ elim (find_face p.face x.rows) as (λ _. Option (FaceAt K)) [ None ↦ None | Some y ↦ Some (record { gateway = p.gateway; rows = x.rows; face = y }) ] ]) (λ x. of_some_in unopened n id x.face)
      at_node p None = refl
      at_node p (Some node) = at_face p node (find_face p.face node.rows)

      go : (place : Option Place) → of_some_at carried unopened n id place
          ≡ is_some_and (elim place as (λ _. Option (FaceAt K)) [ None ↦ None | Some p ↦ elim (nth p.gateway carried.gateways) as (λ _. Option (FaceAt K)) [ None ↦ None | Some x ↦ elim (find_face p.face x.rows) as (λ _. Option (FaceAt K)) [ None ↦ None | Some y ↦ Some (record { gateway = p.gateway; rows = x.rows; face = y }) ] ] ]) (λ x. of_some_in unopened n id x.face)
      go None = refl
      go (Some p) = at_node p (nth p.gateway carried.gateways)

  pub of_some_is : (carried : Fabric K) (ms : List (Sent K)) (m : Sent K) (id : ℕ) → Among m ms → m.message ≡ DeclareFinal id
      → of_some_at carried (unopened_by s ms) m.face id (nth m.face carried.faces)
      ≡ is_some_and (face_numbered carried m.face) (λ x. has_id id x.face.asks || ((id == 0) && (is_some x.face.initial && not (is_open_face s m.face))))
  of_some_is carried ms m id at is =
      at_number carried (unopened_by s ms) m.face id
      ∙ by_test (id == 0)
      (λ zero_. ap (λ b. is_some_and (face_numbered carried m.face) (λ x. has_id id x.face.asks || ((id == 0) && (is_some x.face.initial && b)))) (unopened_is ms m id at is zero_))
      (λ other. rw other refl)

-- ---- what follows finals

is_no : (a : Bool) → not a ≡ true → a ≡ false
is_no true h = absurd (false≢true h)
is_no false h = refl

module _ {K : Type 0} where
  answers_printed : (k id : ℕ) (ms : List (Sent K)) → list_any (answers_interest id) (printed_for k ms) ≡ list_any (answers_for k id) ms
  unfolding printed_for
  answers_printed k id [] = refl
  answers_printed k id (x ∷ rest) =
      by_test (k == x.face)
      (λ own. let flip : (x.face == k) ≡ true = eqb_flip x.face k ∙ own in rw (own, flip) (ap (λ b. answers_interest id x.message || b) (answers_printed k id rest)))
      (λ other. let flip : (x.face == k) ≡ false = eqb_flip x.face k ∙ other in rw (other, flip) (answers_printed k id rest))

  printed_own : (k : ℕ) (m : Sent K) (ms : List (Sent K)) → (k == m.face) ≡ true → printed_for k (m ∷ ms) ≡ m.message ∷ printed_for k ms
  unfolding printed_for
  printed_own k m ms own = rw own refl

  printed_other : (k : ℕ) (m : Sent K) (ms : List (Sent K)) → (k == m.face) ≡ false → printed_for k (m ∷ ms) ≡ printed_for k ms
  unfolding printed_for
  printed_other k m ms other = rw other refl

  follows_later : (m : Message K) (ms : List (Message K)) → NothingFollowsFinals (m ∷ ms) → NothingFollowsFinals ms
  follows_later (DeclareFinal id) ms h = h.1
  follows_later (DeclareToken token e interest node) ms h = h
  follows_later (UndeclareToken token e node) ms h = h
  follows_later (Interest i mode options e) ms h = h
  follows_later (InterestFinal i) ms h = h
  follows_later (DeclareSubscriber i e interest) ms h = h
  follows_later (DeclareQueryable i e info interest) ms h = h

module _ {K : Type 0} (s : Fabric K) where
  follows_first : (m : Message K) (n : ℕ) (ms : List (Sent K)) → is_open_face s n ≡ true → is_followed_by_none s n m ms ≡ true → NothingFollowsFinals (printed_for n ms) → NothingFollowsFinals (m ∷ printed_for n ms)
  follows_first (DeclareFinal id) n ms open_ h rest =
      (answers_printed n id ms ∙ is_no (list_any (answers_for n id) ms) (either_so (not (is_open_face s n)) (not (list_any (answers_for n id) ms)) h (ap not open_)), rest)
  follows_first (DeclareToken token e interest node) n ms open_ h rest = rest
  follows_first (UndeclareToken token e node) n ms open_ h rest = rest
  follows_first (Interest i mode options e) n ms open_ h rest = rest
  follows_first (InterestFinal i) n ms open_ h rest = rest
  follows_first (DeclareSubscriber i e interest) n ms open_ h rest = rest
  follows_first (DeclareQueryable i e info interest) n ms open_ h rest = rest

  pub follows_says : (k : ℕ) (ms : List (Sent K)) → is_open_face s k ≡ true → nothing_follows s ms ≡ true → NothingFollowsFinals (printed_for k ms)
  unfolding printed_for
  follows_says k [] open_ h = tt
  follows_says k (m ∷ ms) open_ h =
      let parts = and_parts (is_followed_by_none s m.face m.message ms) (nothing_follows s ms) h in
      let rest = follows_says k ms open_ parts.1 in
      by_test (k == m.face)
      (λ own.
      let same : m.face ≡ k = sym (eqb-true k m.face own) in
      subst (λ (xs : List (Message K)). NothingFollowsFinals xs) (sym (printed_own k m ms own))
      (follows_first m.message k ms open_ (subst (λ j. is_followed_by_none s j m.message ms ≡ true) same parts.0) rest))
      (λ other. subst (λ (xs : List (Message K)). NothingFollowsFinals xs) (sym (printed_other k m ms other)) rest)

  follows_one : (m : Message K) (n : ℕ) (ms : List (Sent K)) → (is_open_face s n ≡ true → NothingFollowsFinals (m ∷ printed_for n ms)) → is_followed_by_none s n m ms ≡ true
  follows_one (DeclareFinal id) n ms h =
      by_test (is_open_face s n)
      (λ open_. or_right (not (is_open_face s n)) (not (list_any (answers_for n id) ms)) (ap not (sym (answers_printed n id ms) ∙ (h open_).0)))
      (λ closed. or_left (not (is_open_face s n)) (not (list_any (answers_for n id) ms)) (ap not closed))
  follows_one (DeclareToken token e interest node) n ms h = refl
  follows_one (UndeclareToken token e node) n ms h = refl
  follows_one (Interest i mode options e) n ms h = refl
  follows_one (InterestFinal i) n ms h = refl
  follows_one (DeclareSubscriber i e interest) n ms h = refl
  follows_one (DeclareQueryable i e info interest) n ms h = refl

  pub follows_told : (ms : List (Sent K)) → ((k : ℕ) → is_open_face s k ≡ true → NothingFollowsFinals (printed_for k ms)) → nothing_follows s ms ≡ true
  follows_told [] h = refl
  follows_told (m ∷ ms) h =
      and_from (is_followed_by_none s m.face m.message ms) (nothing_follows s ms)
      (follows_one m.message m.face ms (λ open_. subst (λ (xs : List (Message K)). NothingFollowsFinals xs) (printed_own m.face m ms (eq-eqb m.face m.face refl)) (h m.face open_)))
      (follows_told ms (λ k open_. later k (h k open_)))
    where
      later : (k : ℕ) → NothingFollowsFinals (printed_for k (m ∷ ms)) → NothingFollowsFinals (printed_for k ms)
      later k all =
          by_test (k == m.face)
          (λ own. follows_later m.message (printed_for k ms) (subst (λ (xs : List (Message K)). NothingFollowsFinals xs) (printed_own k m ms own) all))
          (λ other. subst (λ (xs : List (Message K)). NothingFollowsFinals xs) (printed_other k m ms other) all)

  -- ---- open faces by their numbers in scripts

  first_there : (f : Face K) (fs : List (Face K)) → Among f fs → is_some (first_where (λ x. f.number == x.number) fs) ≡ true
  first_there f [] at = absurd at
  first_there f (x ∷ fs) (inl same) = let own : (f.number == x.number) ≡ true = eq-eqb f.number x.number (ap (λ (y : Face K). y.number) same) in rw own refl
  first_there f (x ∷ fs) (inr at) = by_test (f.number == x.number) (λ here. rw here refl) (λ here. rw here (first_there f fs at))

  -- the face of a gateway is open under its number
  pub open_there : (n : ℕ) (node : Node K) (f : Face K) → nth n s.gateways ≡ Some node → Among f node.rows.faces → has_one_place n f.number s.faces ≡ true → is_open_face s (number_of_place s n f.number) ≡ true
  unfolding face_numbered
  open_there n node f at there one =
      let number = number_of_place s n f.number in
      go (nth number s.faces) (sym (number_is number n f.number s.faces one) ∙ eq-eqb number number refl)
    where
      found_face : (found : Option (Face K)) → is_some found ≡ true → (p : Place) (x : Node K) → is_some (elim found as (λ _. Option (FaceAt K)) [ None ↦ None | Some y ↦ Some (record { gateway = p.gateway; rows = x.rows; face = y }) ]) ≡ true
      found_face None h p x = absurd (false≢true h)
      found_face (Some y) h p x = refl

      go : (place : Option Place) → is_some_and place (is_place n f.number) ≡ true
          → is_some (elim place as (λ _. Option (FaceAt K)) [ None ↦ None | Some p ↦ elim (nth p.gateway s.gateways) as (λ _. Option (FaceAt K)) [ None ↦ None | Some x ↦ elim (find_face p.face x.rows) as (λ _. Option (FaceAt K)) [ None ↦ None | Some y ↦ Some (record { gateway = p.gateway; rows = x.rows; face = y }) ] ] ]) ≡ true
      go None h = absurd (false≢true h)
      go (Some p) h =
          let own = and_parts (n == p.gateway) (f.number == p.face) h in
          let gateway : nth p.gateway s.gateways ≡ Some node = ap (λ k. nth k s.gateways) (sym (eqb-true n p.gateway own.0)) ∙ at in
          let face : is_some (find_face p.face node.rows) ≡ true = subst (λ k. is_some (find_face k node.rows) ≡ true) (eqb-true f.number p.face own.1) (first_there f node.rows.faces there) in
          rw gateway (found_face (find_face p.face node.rows) face p node)

  -- an open number is that of a gateway's face
  pub record OpenAt (k : ℕ) : Type 0 where
    pub n : ℕ
    pub node : Node K
    pub face : Face K
    pub at : nth n s.gateways ≡ Some node
    pub there : Among face node.rows.faces
    pub place : is_some_and (nth k s.faces) (is_place n face.number) ≡ true

  found_first : (k : ℕ) (fs : List (Face K)) (f : Face K) → first_where (λ x. k == x.number) fs ≡ Some f → Among f fs × (k ≡ f.number)
  found_first k [] f is = let e : None ≡ Some f = is in cc
  found_first k (x ∷ fs) f is =
      by_test (k == x.number)
      (λ here. let e : x ≡ f = (let h : Some x ≡ Some f = rw here at is in cc) in (inl (sym e), eqb-true k x.number here ∙ ap (λ (y : Face K). y.number) e))
      (λ here. let rest = found_first k fs f (rw here at is) in (inr rest.0, rest.1))

  pub open_at : (k : ℕ) → is_open_face s k ≡ true → OpenAt k
  unfolding face_numbered
  open_at k h = go (nth k s.faces) refl h
    where
      face : (p : Place) (node : Node K) → nth k s.faces ≡ Some p → nth p.gateway s.gateways ≡ Some node → (found : Option (Face K)) → find_face p.face node.rows ≡ found
          → is_some (elim found as (λ _. Option (FaceAt K)) [ None ↦ None | Some y ↦ Some (record { gateway = p.gateway; rows = node.rows; face = y }) ]) ≡ true → OpenAt k
      face p node place at None is h = absurd (false≢true h)
      face p node place at (Some f) is h =
          let first = found_first p.face node.rows.faces f is in
          record {
            n = p.gateway;
            node = node;
            face = f;
            at = at;
            there = first.0;
            place = ap (λ o. is_some_and o (is_place p.gateway f.number)) place ∙ and_from (p.gateway == p.gateway) (f.number == p.face) (eq-eqb p.gateway p.gateway refl) (eq-eqb f.number p.face (sym first.1));
          }

      node_at : (p : Place) → nth k s.faces ≡ Some p → (found : Option (Node K)) → nth p.gateway s.gateways ≡ found
          → is_some (elim found as (λ _. Option (FaceAt K)) [ None ↦ None | Some x ↦ elim (find_face p.face x.rows) as (λ _. Option (FaceAt K)) [ None ↦ None | Some y ↦ Some (record { gateway = p.gateway; rows = x.rows; face = y }) ] ]) ≡ true → OpenAt k
      node_at p place None is h = absurd (false≢true h)
      node_at p place (Some node) is h = face p node place is (find_face p.face node.rows) refl h

      go : (place : Option Place) → nth k s.faces ≡ place
          → is_some (elim place as (λ _. Option (FaceAt K)) [ None ↦ None | Some p ↦ elim (nth p.gateway s.gateways) as (λ _. Option (FaceAt K)) [ None ↦ None | Some x ↦ elim (find_face p.face x.rows) as (λ _. Option (FaceAt K)) [ None ↦ None | Some y ↦ Some (record { gateway = p.gateway; rows = x.rows; face = y }) ] ] ]) ≡ true → OpenAt k
      go None is h = absurd (false≢true h)
      go (Some p) is h = node_at p is (nth p.gateway s.gateways) refl h
