-- What stands and asks once messages are heard.
use Rattle.std.proofs.Common.{◌≡◌, ◌⊎◌, inl, inr, ℕ, ◌+◌, ◌-◌, ◌≤◌, Bool, true, false, ◌&&◌, ◌||◌, ◌==◌, not, if◌then◌else◌, List, [], ◌∷◌, ◌++◌, length, map, filter, Option, None, Some, refl, sym, ap, subst, ◌∙◌, ⊎_elim, arith, eqb-true, eq-eqb}
use Rattle.std.proofs.lemmas.Bool.{eqb-false, false≢true}
use Rattle.std.specs.List.{list_any}
use Rattle.std.specs.Prelude.{is_some, nat_lt}
use Rattle.std.specs.Ordering.{nat_cmp}
use Rattle.std.specs.declared.cmp.Ordering.{Ordering}
use Rattle.std.specs.declared.cmp.Ordering.TheVariants.{Less, Equal, Greater}
use Rattle.std.specs.FinMap.Entries.{put}
use Rattle.zt_keys.specs.Test.{by_test}
use Rattle.zt_protocol.specs.Interest.{is_current}
use Rattle.zt_protocol.specs.declared.entries.Sent.{Sent}
use Rattle.zt_protocol.specs.declared.messages.Message.{Message}
use Rattle.zt_protocol.specs.declared.messages.Message.TheVariants.{DeclareToken, UndeclareToken, DeclareFinal, Interest, InterestFinal, DeclareSubscriber, DeclareQueryable}
use Rattle.zt_model.specs.Fabric.{Fabric, Node, gateways_after_hearing, number_of_place, printed_for, rows_after_hearing}
use Rattle.zt_model.specs.Hearing.{asks_answered, heard, heard_all, put_if, with_answer}
use Rattle.zt_model.specs.Lists.{first_where, has_id, is_among, is_some_and, nth}
use Rattle.zt_model.specs.Parts.{find_face}
use Rattle.zt_model.specs.Promises.{finals_in, is_final_of}
use Rattle.zt_model.specs.Routing.{stands}
use Rattle.zt_model.specs.Rows.{Ask, ById, Face, Pending, Rows}
use Rattle.zt_check_keeping.proofs.Members.{Among, any_member, in_filter, in_map, in_put, map_in, member_any, put_keeps}
use Rattle.zt_check_finals.specs.Finishing.{asks_now, is_now, stands_after}

-- ---- rows by their ids

same_tests : (a b : Bool) → (a ≡ true → b ≡ true) → (b ≡ true → a ≡ true) → a ≡ b
same_tests true b one other = sym (one refl)
same_tests false true one other = other refl
same_tests false false one other = refl

either : (a b : Bool) → (a ≡ true) ⊎ (b ≡ true) → (a || b) ≡ true
either true b h = refl
either false true h = refl
either false false (inl h) = h
either false false (inr h) = h

which : (a b : Bool) → (a || b) ≡ true → (a ≡ true) ⊎ (b ≡ true)
which true b h = inl refl
which false b h = inr h

equal_ids : (a b : ℕ) → nat_cmp a b ≡ Equal → a ≡ b
equal_ids a b e =
    by_test (nat_lt a b)
    (λ less. let f : Less ≡ Equal = rw less at e in cc)
    (λ less. by_test (a == b)
    (λ same. eqb-true a b same)
    (λ same. let f : Greater ≡ Equal = rw (less, same) at e in cc))

put_there : {A : Type 0} (id : ℕ) (value : A) (rows : ById A) → has_id id (put nat_cmp id value rows) ≡ true
put_there id value [] = either (id == id) false (inl (eq-eqb id id refl))
put_there id value (row ∷ rows) = go (nat_cmp id row.0) refl (put_there id value rows)
  where
    go : (o : Ordering) → nat_cmp id row.0 ≡ o → has_id id (put nat_cmp id value rows) ≡ true → has_id id (put nat_cmp id value (row ∷ rows)) ≡ true
    go Less is rest = rw is (either (id == id) (has_id id (row ∷ rows)) (inl (eq-eqb id id refl)))
    go Equal is rest = rw is (either (id == row.0) (has_id id rows) (inl (eq-eqb id row.0 (equal_ids id row.0 is))))
    go Greater is rest = rw is (either (id == row.0) (has_id id (put nat_cmp id value rows)) (inr rest))

id_put : {A : Type 0} (id k : ℕ) (value : A) (rows : ById A) → has_id id (put nat_cmp k value rows) ≡ (has_id id rows || (id == k))
id_put {A} id k value rows = same_tests (has_id id (put nat_cmp k value rows)) (has_id id rows || (id == k)) forth back
  where
    forth : has_id id (put nat_cmp k value rows) ≡ true → (has_id id rows || (id == k)) ≡ true
    forth there =
        let found = any_member (λ (row : ℕ × A). id == row.0) (put nat_cmp k value rows) there in
        either (has_id id rows) (id == k) (⊎_elim
        (λ new. inr (subst (λ (row : ℕ × A). (id == row.0) ≡ true) new found.1.1))
        (λ old. inl (member_any (λ (row : ℕ × A). id == row.0) found.0 rows old found.1.1))
        (in_put k value found.0 rows found.1.0))

    back : (has_id id rows || (id == k)) ≡ true → has_id id (put nat_cmp k value rows) ≡ true
    back one =
        ⊎_elim
        (λ old.
        let found = any_member (λ (row : ℕ × A). id == row.0) rows old in
        ⊎_elim
        (λ kept. member_any (λ (row : ℕ × A). id == row.0) found.0 (put nat_cmp k value rows) kept found.1.1)
        (λ same. subst (λ j. has_id j (put nat_cmp k value rows) ≡ true) (same ∙ sym (eqb-true id found.0.0 found.1.1)) (put_there k value rows))
        (put_keeps k value found.0 rows found.1.0))
        (λ same. subst (λ j. has_id j (put nat_cmp k value rows) ≡ true) (sym (eqb-true id k same)) (put_there k value rows))
        (which (has_id id rows) (id == k) one)

or_false : (a : Bool) → a ≡ (a || false)
or_false true = refl
or_false false = refl

and_true : (a : Bool) → (a && true) ≡ a
and_true true = refl
and_true false = refl

and_false : (a : Bool) → (a && false) ≡ false
and_false true = refl
and_false false = refl

or_or : (a b c : Bool) → ((a || b) || c) ≡ (a || (b || c))
or_or true b c = refl
or_or false b c = refl

module _ {K : Type 0} (cmp : K → K → Ordering) where
  -- ---- one face

  heard_pending : (now : ℕ) (m : Message K) (f : Face K) (id : ℕ) → has_id id (heard cmp now m f).pendings ≡ (has_id id f.pendings || is_now id m)
  heard_pending now (Interest i mode options e) f id = go (is_current mode)
    where
      go : (b : Bool) → has_id id (put_if b i (record { mode = mode; since = now }) f.pendings) ≡ (has_id id f.pendings || ((id == i) && b))
      go true = id_put id i (record { mode = mode; since = now }) f.pendings ∙ ap (λ b. has_id id f.pendings || b) (sym (and_true (id == i)))
      go false = or_false (has_id id f.pendings) ∙ ap (λ b. has_id id f.pendings || b) (sym (and_false (id == i)))
  heard_pending now (DeclareToken i e interest node) f id = or_false (has_id id f.pendings)
  heard_pending now (UndeclareToken i e node) f id = or_false (has_id id f.pendings)
  heard_pending now (DeclareFinal interest) f id = or_false (has_id id f.pendings)
  heard_pending now (InterestFinal i) f id = or_false (has_id id f.pendings)
  heard_pending now (DeclareSubscriber i e interest) f id = or_false (has_id id f.pendings)
  heard_pending now (DeclareQueryable i e info interest) f id = or_false (has_id id f.pendings)

  all_pending : (now : ℕ) (ms : List (Message K)) (f : Face K) (id : ℕ) → has_id id (heard_all cmp now ms f).pendings ≡ (has_id id f.pendings || list_any (is_now id) ms)
  unfolding heard_all
  all_pending now [] f id = or_false (has_id id f.pendings)
  all_pending now (m ∷ ms) f id =
      all_pending now ms (heard cmp now m f) id
      ∙ (ap (λ b. b || list_any (is_now id) ms) (heard_pending now m f id) ∙ or_or (has_id id f.pendings) (is_now id m) (list_any (is_now id) ms))

  heard_number : (now : ℕ) (m : Message K) (f : Face K) → (heard cmp now m f).number ≡ f.number
  heard_number now (DeclareToken id e interest node) f = refl
  heard_number now (UndeclareToken id e node) f = refl
  heard_number now (DeclareFinal interest) f = refl
  heard_number now (Interest id mode options e) f = refl
  heard_number now (InterestFinal id) f = refl
  heard_number now (DeclareSubscriber id e interest) f = refl
  heard_number now (DeclareQueryable id e info interest) f = refl

  pub all_number : (now : ℕ) (ms : List (Message K)) (f : Face K) → (heard_all cmp now ms f).number ≡ f.number
  unfolding heard_all
  all_number now [] f = refl
  all_number now (m ∷ ms) f = all_number now ms (heard cmp now m f) ∙ heard_number now m f

  now_printed : (number id : ℕ) (ms : List (Sent K)) → list_any (is_now id) (printed_for number ms) ≡ list_any (asks_now number id) ms
  unfolding printed_for
  now_printed number id [] = refl
  now_printed number id (m ∷ ms) =
      by_test (number == m.face)
      (λ own. rw own (ap (λ b. is_now id m.message || b) (now_printed number id ms)))
      (λ other. rw other (now_printed number id ms))

  -- ---- the faces of a gateway

  first_heard : (q : Face K → Bool) (c : Face K → Face K) (t : Face K → Bool) (fs : List (Face K)) → ((f : Face K) → q (c f) ≡ q f) → is_some_and (first_where q (map c fs)) t ≡ is_some_and (first_where q fs) (λ f. t (c f))
  first_heard q c t [] same = refl
  first_heard q c t (f ∷ fs) same =
      by_test (q f)
      (λ here. let there : q (c f) ≡ true = same f ∙ here in rw (there, here) refl)
      (λ here. let there : q (c f) ≡ false = same f ∙ here in rw (there, here) (first_heard q c t fs same))

  -- tests that agree on faces of the number
  first_alike : (number : ℕ) (t u : Face K → Bool) (fs : List (Face K)) → ((f : Face K) → number ≡ f.number → t f ≡ u f) → is_some_and (first_where (λ f. number == f.number) fs) t ≡ is_some_and (first_where (λ f. number == f.number) fs) u
  first_alike number t u [] alike = refl
  first_alike number t u (f ∷ fs) alike =
      by_test (number == f.number)
      (λ own. rw own (alike f (eqb-true number f.number own)))
      (λ other. rw other (first_alike number t u fs alike))

  apart_tests : (found : Option (Face K)) (t : Face K → Bool) (b : Bool) → is_some_and found (λ f. t f || b) ≡ (is_some_and found t || (is_some found && b))
  apart_tests None t b = refl
  apart_tests (Some f) t b = refl

  pub stands_heard : (s : Fabric K) (ms : List (Sent K)) (n : ℕ) (g : Rows K) (p : ℕ × ℕ) → stands (rows_after_hearing cmp s ms n g) p ≡ stands_after s ms n g p
  stands_heard s ms n g p =
      first_heard (λ (f : Face K). p.0 == f.number) (λ f. heard_all cmp g.moment (printed_for (number_of_place s n f.number) ms) f) (λ (f : Face K). has_id p.1 f.pendings) g.faces
      (λ f. ap (λ k. p.0 == k) (all_number g.moment (printed_for (number_of_place s n f.number) ms) f))
      ∙ (first_alike p.0 (λ f. has_id p.1 (heard_all cmp g.moment (printed_for (number_of_place s n f.number) ms) f).pendings) (λ f. has_id p.1 f.pendings || list_any (asks_now (number_of_place s n p.0) p.1) ms) g.faces
      (λ f own.
      all_pending g.moment (printed_for (number_of_place s n f.number) ms) f p.1
      ∙ ap (λ b. has_id p.1 f.pendings || b) (now_printed (number_of_place s n f.number) p.1 ms ∙ ap (λ k. list_any (asks_now (number_of_place s n k) p.1) ms) (sym own)))
      ∙ apart_tests (find_face p.0 g) (λ (f : Face K). has_id p.1 f.pendings) (list_any (asks_now (number_of_place s n p.0) p.1) ms))

  -- ---- asks

  -- what is left of an ask: it had this id and these pendings, and no final of it was heard
  pub record IsLeft (f : Face K) (ms : List (Message K)) (row : ℕ × Ask K) : Type 0 where
    pub old : ℕ × Ask K
    pub there : Among old f.asks
    pub id : row.0 ≡ old.0
    pub pendings : row.1.pendings ≡ old.1.pendings
    pub none : finals_in row.0 ms ≡ 0

  answered_left : (id : ℕ) (e : K) (row : ℕ × Ask K) → ((with_answer cmp id e row).0 ≡ row.0) × ((with_answer cmp id e row).1.pendings ≡ row.1.pendings)
  answered_left id e row = go ((id == row.0) && not (is_among cmp e row.1.answered))
    where
      go : (b : Bool) → ((if b then (row.0, record row.1 { answered = row.1.answered ++ e ∷ [] }) else row).0 ≡ row.0) × ((if b then (row.0, record row.1 { answered = row.1.answered ++ e ∷ [] }) else row).1.pendings ≡ row.1.pendings)
      go true = (refl, refl)
      go false = (refl, refl)

  -- after one message
  record StillAsks (f : Face K) (m : Message K) (row : ℕ × Ask K) : Type 0 where
    old : ℕ × Ask K
    there : Among old f.asks
    id : row.0 ≡ old.0
    pendings : row.1.pendings ≡ old.1.pendings
    other : is_final_of row.0 m ≡ false

  same_ask : (f : Face K) (m : Message K) (row : ℕ × Ask K) → Among row f.asks → is_final_of row.0 m ≡ false → StillAsks f m row
  same_ask f m row at other = record { old = row; there = at; id = refl; pendings = refl; other = other }

  kept_first : (interest : ℕ) (row r : ℕ × Ask K) (rows : ById (Ask K)) → (interest == r.0) ≡ false → (Among row rows → (interest == row.0) ≡ false) → Among row (r ∷ rows) → (interest == row.0) ≡ false
  kept_first interest row r rows stays later (inl is) = subst (λ (x : ℕ × Ask K). (interest == x.0) ≡ false) (sym is) stays
  kept_first interest row r rows stays later (inr at) = later at

  kept_row : (interest : ℕ) (row : ℕ × Ask K) (rows : ById (Ask K)) → Among row (filter (λ (r : ℕ × Ask K). not (interest == r.0)) rows) → (interest == row.0) ≡ false
  kept_row interest row [] there = absurd there
  kept_row interest row (r ∷ rows) there =
      by_test (interest == r.0)
      (λ gone. kept_row interest row rows (rw gone at there))
      (λ stays. kept_first interest row r (filter (λ (x : ℕ × Ask K). not (interest == x.0)) rows) stays (kept_row interest row rows) (rw stays at there))

  still_asks : (now : ℕ) (m : Message K) (f : Face K) (row : ℕ × Ask K) → Among row (heard cmp now m f).asks → StillAsks f m row
  still_asks now (DeclareToken id e None node) f row at = same_ask f (DeclareToken id e None node) row at refl
  still_asks now (DeclareToken id e (Some i) node) f row at =
      let found = in_map (with_answer cmp i e) row f.asks at in
      let left = answered_left i e found.0 in
      record { old = found.0; there = found.1.0; id = ap (λ (r : ℕ × Ask K). r.0) found.1.1 ∙ left.0; pendings = ap (λ (r : ℕ × Ask K). r.1.pendings) found.1.1 ∙ left.1; other = refl }
  still_asks now (DeclareFinal interest) f row at =
      same_ask f (DeclareFinal interest) row (in_filter (λ (r : ℕ × Ask K). not (interest == r.0)) row f.asks at) (flipped interest row.0 (kept_row interest row f.asks at))
    where
      flipped : (a b : ℕ) → (a == b) ≡ false → (b == a) ≡ false
      flipped a b h = by_test (b == a) (λ same. absurd (false≢true (sym h ∙ eq-eqb a b (sym (eqb-true b a same))))) (λ other. other)
  still_asks now (UndeclareToken id e node) f row at = same_ask f (UndeclareToken id e node) row at refl
  still_asks now (Interest id mode options e) f row at = same_ask f (Interest id mode options e) row at refl
  still_asks now (InterestFinal id) f row at = same_ask f (InterestFinal id) row at refl
  still_asks now (DeclareSubscriber id e interest) f row at = same_ask f (DeclareSubscriber id e interest) row at refl
  still_asks now (DeclareQueryable id e info interest) f row at = same_ask f (DeclareQueryable id e info interest) row at refl

  finals_more : (id : ℕ) (m : Message K) (ms : List (Message K)) → is_final_of id m ≡ false → finals_in id (m ∷ ms) ≡ finals_in id ms
  finals_more id m ms other = rw other refl

  pub all_left : (now : ℕ) (ms : List (Message K)) (f : Face K) (row : ℕ × Ask K) → Among row (heard_all cmp now ms f).asks → IsLeft f ms row
  unfolding heard_all
  all_left now [] f row at = record { old = row; there = at; id = refl; pendings = refl; none = refl }
  all_left now (m ∷ ms) f row at =
      let mid = all_left now ms (heard cmp now m f) row at in
      let one = still_asks now m f mid.old mid.there in
      record {
        old = one.old;
        there = one.there;
        id = mid.id ∙ one.id;
        pendings = mid.pendings ∙ one.pendings;
        none = finals_more row.0 m ms (subst (λ k. is_final_of k m ≡ false) (sym mid.id) one.other) ∙ mid.none;
      }

  -- ---- gateways

  pub heard_at : (s : Fabric K) (ms : List (Sent K)) (i m : ℕ) (nodes : List (Node K)) (node : Node K) → 1 ≤ m → nth m nodes ≡ Some node
      → nth m (gateways_after_hearing cmp s ms i nodes) ≡ Some (record node { rows = rows_after_hearing cmp s ms (i + m - 1) node.rows })
  unfolding gateways_after_hearing
  heard_at s ms i m [] node real at = let e : None ≡ Some node = at in cc
  heard_at s ms i m (x ∷ nodes) node real at =
      by_test (m == 1)
      (λ first.
      let own : i ≡ i + m - 1 = (let one : m ≡ 1 = eqb-true m 1 first in omega arith) in
      let is : x ≡ node = (let e : Some x ≡ Some node = rw first at at in cc) in
      rw first (ap (λ (y : Node K). Some (record y { rows = rows_after_hearing cmp s ms i y.rows })) is ∙ ap (λ k. Some (record node { rows = rows_after_hearing cmp s ms k node.rows })) own))
      (λ later.
      let more : m ≡ 1 → ⊥ = eqb-false m 1 later in
      let same_index : i + 1 + (m - 1) - 1 ≡ i + m - 1 = omega arith in
      rw later (heard_at s ms (i + 1) (m - 1) nodes node (omega arith) (rw later at at) ∙ ap (λ k. Some (record node { rows = rows_after_hearing cmp s ms k node.rows })) same_index))

  pub at_heard : (s : Fabric K) (ms : List (Sent K)) (i m : ℕ) (nodes : List (Node K)) (node : Node K) → 1 ≤ m → nth m (gateways_after_hearing cmp s ms i nodes) ≡ Some node
      → (old : Node K) × ((nth m nodes ≡ Some old) × (node.rows ≡ rows_after_hearing cmp s ms (i + m - 1) old.rows))
  unfolding gateways_after_hearing
  at_heard s ms i m [] node real at = let e : None ≡ Some node = at in cc
  at_heard s ms i m (x ∷ nodes) node real at =
      by_test (m == 1)
      (λ first.
      let own : i ≡ i + m - 1 = (let one : m ≡ 1 = eqb-true m 1 first in omega arith) in
      let is : record x { rows = rows_after_hearing cmp s ms i x.rows } ≡ node = (let e : Some (record x { rows = rows_after_hearing cmp s ms i x.rows }) ≡ Some node = rw first at at in cc) in
      (x, (rw first refl, subst (λ k. node.rows ≡ rows_after_hearing cmp s ms k x.rows) own (ap (λ (y : Node K). y.rows) (sym is)))))
      (λ later.
      let more : m ≡ 1 → ⊥ = eqb-false m 1 later in
      let same_index : i + 1 + (m - 1) - 1 ≡ i + m - 1 = omega arith in
      let rest = at_heard s ms (i + 1) (m - 1) nodes node (omega arith) (rw later at at) in
      (rest.0, (rw later rest.1.0, subst (λ k. node.rows ≡ rows_after_hearing cmp s ms k rest.0.rows) same_index rest.1.1)))
