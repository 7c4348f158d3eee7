-- What the laws of single scripts take: tests that show by evaluation what holds of a whole transcript, and its turns by
-- their numbers.
use Rattle.std.proofs.Common.{◌≡◌, ℕ, ◌+◌, ◌-◌, ◌≤◌, ◌==◌, Bool, true, false, ◌&&◌, ◌||◌, not, List, [], ◌∷◌, ◌++◌, map, take, drop, append_assoc, Option, Some, None, is_some, Ok, refl, sym, ap, ◌∙◌, subst, arith, eqb-true, true≢false, ⊎_elim}
use Rattle.std.proofs.lemmas.Bool.{and_parts, or_cases}
use Rattle.std.proofs.lemmas.List.{take-append-drop}
use Rattle.std.specs.List.{list_all, list_any}
use Rattle.std.specs.Option.{option_to_list}
use Rattle.std.specs.Ordering.{nat_cmp}
use Rattle.std.specs.declared.cmp.Ordering.{Ordering}
use Rattle.zt_region.specs.declared.region.WhatAmI.TheVariants.{Client}
use Rattle.zt_region.specs.Region.{is_north, whatami_eq}
use Rattle.zt_protocol.specs.Interest.{is_current, has_tokens}
use Rattle.zt_protocol.specs.Plain.{Moment}
use Rattle.zt_model.specs.Fabric.{Fabric, Link, Node, Place, empty_fabric}
use Rattle.zt_model.specs.Lists.{nth, rest_of}
use Rattle.zt_model.specs.Promises.{EachGateway, Turn}
use Rattle.zt_model.specs.Rows.{ById, Face, InterestRow, Rows}
use Rattle.zt_model.specs.Transcript.{Each, face_numbered}
use Rattle.zt_model.specs.TreePromises.{Beyond, Here, IsInTree, IsMember, IsPlainlyLive, Itself, KnowsItsTree, LeadsUpByLink, There, holds_both, is_at_gateway, is_client_region, is_plain, is_plain_number, is_plainly_live_at}
use Rattle.zt_model.specs.Visible.{keeps}
use Rattle.zt_model.specs.Seen.{concerns, interests_held, is_owed}
use Rattle.zt_theorem_tree_invariant.specs.Trees.{FacesFormTrees, IsOfClients, RefusesNoFaces, have_both_faces}
use Rattle.zt_promises_test.specs.Premises.{FacesKnow}
use Rattle.zt_promises_test.proofs.Suffices.{by_test, neither}

-- ---- trees, by a test

leads : (up client plain : Bool) → (not up || (client && not plain)) ≡ true → up ≡ true → (client ≡ true) × (plain ≡ false)
leads true true false e = λ h. (refl, refl)
leads true true true e = absurd (true≢false (sym e))
leads true false plain e = absurd (true≢false (sym e))
leads false client plain e = λ h. absurd (true≢false (sym h))

abbrev pub leads_up : {K : Type 0} → Fabric K → ℕ → Rows K → Face K → Bool
leads_up s n g f = not (is_north f.region) || (whatami_eq g.mode Client && not (is_plain s n f))

-- a test of each open face, with its gateway's number and rows
abbrev pub all_faces : {K : Type 0} → (ℕ → Rows K → Face K → Bool) → ℕ → List (Node K) → Bool
all_faces p n [] = true
all_faces p n (node ∷ nodes) = list_all (p n node.rows) node.rows.faces && all_faces p (n + 1) nodes

abbrev pub is_of_clients : {K : Type 0} → ℕ → Rows K → Face K → Bool
is_of_clients n g f = is_client_region f.region

abbrev pub refuses_no_faces : {K : Type 0} → Node K → Bool
refuses_no_faces node = list_all (λ pair. not (have_both_faces node.rows pair)) node.rows.refused

abbrev pub do_faces_form_trees : {K : Type 0} → Fabric K → Bool
do_faces_form_trees s = all_faces (leads_up s) 1 s.gateways && (all_faces is_of_clients 1 s.gateways && list_all refuses_no_faces s.gateways)

each_passes : {A : Type 0} (P : A → Type 0) (p : A → Bool) → ((x : A) → p x ≡ true → P x) → (xs : List A) → list_all p xs ≡ true → Each P xs
each_passes P p h [] e = tt
each_passes P p h (x ∷ xs) e = let both = and_parts (p x) (list_all p xs) e in (h x both.0, each_passes P p h xs both.1)

faces_pass : {K : Type 0} (P : ℕ → Rows K → Face K → Type 0) (p : ℕ → Rows K → Face K → Bool) → ((n : ℕ) (g : Rows K) (f : Face K) → p n g f ≡ true → P n g f) → (n : ℕ) (nodes : List (Node K)) → all_faces p n nodes ≡ true
    → EachGateway (λ k (node : Node K). Each (P k node.rows) node.rows.faces) n nodes
faces_pass P p h n [] e = tt
faces_pass P p h n (node ∷ nodes) e =
    let both = and_parts (list_all (p n node.rows) node.rows.faces) (all_faces p (n + 1) nodes) e in
    (each_passes (P n node.rows) (p n node.rows) (h n node.rows) node.rows.faces both.0, faces_pass P p h (n + 1) nodes both.1)

is_not : (b : Bool) → not b ≡ true → b ≡ false
is_not true e = absurd (true≢false (sym e))
is_not false e = refl

admitted_by : {K : Type 0} (n : ℕ) (nodes : List (Node K)) → list_all refuses_no_faces nodes ≡ true → EachGateway RefusesNoFaces n nodes
admitted_by n [] e = tt
admitted_by n (node ∷ nodes) e =
    let both = and_parts (refuses_no_faces node) (list_all refuses_no_faces nodes) e in (
      each_passes (λ pair. have_both_faces node.rows pair ≡ false) (λ pair. not (have_both_faces node.rows pair)) (λ pair. is_not (have_both_faces node.rows pair)) node.rows.refused both.0,
      admitted_by (n + 1) nodes both.1,
    )

tree_by : {K : Type 0} (s : Fabric K) → do_faces_form_trees s ≡ true → FacesFormTrees s
tree_by s e =
    let both = and_parts (all_faces (leads_up s) 1 s.gateways) (all_faces is_of_clients 1 s.gateways && list_all refuses_no_faces s.gateways) e in
    let others = and_parts (all_faces is_of_clients 1 s.gateways) (list_all refuses_no_faces s.gateways) both.1 in
    record {
      north = faces_pass (LeadsUpByLink s) (leads_up s) (λ n g f. leads (is_north f.region) (whatami_eq g.mode Client) (is_plain s n f)) 1 s.gateways both.0;
      south = faces_pass (λ n g f. IsOfClients f) is_of_clients (λ n g f h. h) 1 s.gateways others.0;
      admitted = admitted_by 1 s.gateways others.1;
    }

pub trees_by : {K : Type 0} (ts : List (Turn K)) → list_all (λ t. do_faces_form_trees t.after) ts ≡ true → Each (λ t. FacesFormTrees t.after) ts
trees_by ts e = each_passes (λ t. FacesFormTrees t.after) (λ t. do_faces_form_trees t.after) (λ t. tree_by t.after) ts e

-- ---- what is live nowhere, by a test

-- the numbers of a list's members, where i stand before it
abbrev pub numbers_behind : {A : Type 0} → ℕ → List A → List ℕ
numbers_behind i [] = []
numbers_behind i (x ∷ xs) = (i + 1) ∷ numbers_behind (i + 1) xs

nth_real : {A : Type 0} (n : ℕ) (xs : List A) (x : A) → nth n xs ≡ Some x → 1 ≤ n
nth_real n [] x at_ = cc
nth_real n (y ∷ xs) x at_ =
    by_test (n == 1)
    (λ here. let is : n ≡ 1 = eqb-true n 1 here in omega arith)
    (λ here. let later : 1 ≤ n - 1 = nth_real (n - 1) xs x (rw here at at_) in omega arith)

none_numbered : {A : Type 0} (p : ℕ → Bool) (i n : ℕ) (xs : List A) (x : A) → list_any p (numbers_behind i xs) ≡ false → nth n xs ≡ Some x → p (i + n) ≡ false
none_numbered p i n [] x none_ at_ = cc
none_numbered p i n (y ∷ xs) x none_ at_ =
    let parts = neither (p (i + 1)) (list_any p (numbers_behind (i + 1) xs)) none_ in
    by_test (n == 1)
    (λ here. let one : n ≡ 1 = eqb-true n 1 here in subst (λ k. p (i + k) ≡ false) (sym one) parts.0)
    (λ here.
    let rest : nth (n - 1) xs ≡ Some x = rw here at at_ in
    let real : 1 ≤ n - 1 = nth_real (n - 1) xs x rest in
    let is : (i + 1) + (n - 1) ≡ i + n = omega arith in
    subst (λ k. p k ≡ false) is (none_numbered p (i + 1) (n - 1) xs x parts.1 rest))

member_each : {A : Type 0} (P : A → Type 0) (x : A) (xs : List A) → Each P xs → IsMember x xs → P x
member_each P x xs all (Here ys) = all.0
member_each P x xs all (There y ys more) = member_each P x ys all.1 more

and_no : (b : Bool) → (b && false) ≡ false
and_no true = refl
and_no false = refl

module _ {K : Type 0} (cmp : K → K → Ordering) (matching : K → K → Bool) where
  -- some plain face of the fabric has the expression live
  abbrev pub is_live_somewhere : K → Fabric K → Bool
  is_live_somewhere e s = list_any (λ n. is_plainly_live_at cmp matching s n e) (numbers_behind 0 s.faces)

  pub live_nowhere : (e : K) (s : Fabric K) → is_live_somewhere e s ≡ false → (n : ℕ) → is_plainly_live_at cmp matching s n e ≡ false
  unfolding face_numbered
  live_nowhere e s none_ n = by_place (nth n s.faces) refl
    where
      by_place : (o : Option Place) → nth n s.faces ≡ o → is_plainly_live_at cmp matching s n e ≡ false
      by_place None at_ = rw (at_, face_numbered) (and_no (is_plain_number s n))
      by_place (Some p) at_ =
          let is : 0 + n ≡ n = omega arith in
          subst (λ k. is_plainly_live_at cmp matching s k e ≡ false) is (none_numbered (λ k. is_plainly_live_at cmp matching s k e) 0 n s.faces p none_ at_)

  -- at no face in all of the turns
  pub none_stays : (e : K) (t : Turn K) (ts : List (Turn K)) → list_any (λ n. list_all (λ u. is_plainly_live_at cmp matching u.after n e) (t ∷ ts)) (numbers_behind 0 t.after.faces) ≡ false
      → (n : ℕ) → list_all (λ u. is_plainly_live_at cmp matching u.after n e) (t ∷ ts) ≡ true → ⊥
  unfolding face_numbered
  none_stays e t ts none_ n stays = by_place (nth n t.after.faces) refl
    where
      by_place : (o : Option Place) → nth n t.after.faces ≡ o → ⊥
      by_place None at_ =
          let first = (and_parts (is_plainly_live_at cmp matching t.after n e) (list_all (λ u. is_plainly_live_at cmp matching u.after n e) ts) stays).0 in
          let no_ : is_plainly_live_at cmp matching t.after n e ≡ false = rw (at_, face_numbered) (and_no (is_plain_number t.after n)) in
          true≢false (sym first ∙ no_)
      by_place (Some p) at_ =
          let is : 0 + n ≡ n = omega arith in
          let no_ = subst (λ k. list_all (λ u. is_plainly_live_at cmp matching u.after k e) (t ∷ ts) ≡ false) is (none_numbered (λ k. list_all (λ u. is_plainly_live_at cmp matching u.after k e) (t ∷ ts)) 0 n t.after.faces p none_ at_) in
          true≢false (sym stays ∙ no_)

  -- in none of the turns
  pub was_nowhere : (e : K) (ts : List (Turn K)) → list_all (λ t. not (is_live_somewhere e t.after)) ts ≡ true
      → ((t : Turn K) × (face : ℕ) × IsMember t ts × (is_plainly_live_at cmp matching t.after face e ≡ true)) → ⊥
  was_nowhere e ts none_ was =
      let each = each_passes (λ t. not (is_live_somewhere e t.after) ≡ true) (λ t. not (is_live_somewhere e t.after)) (λ t h. h) ts none_ in
      let here : not (is_live_somewhere e was.0.after) ≡ true = member_each (λ t. not (is_live_somewhere e t.after) ≡ true) was.0 ts each was.2 in
      true≢false (sym was.3 ∙ live_nowhere e was.0.after (not_true (is_live_somewhere e was.0.after) here) was.1)
    where
      not_true : (b : Bool) → not b ≡ true → b ≡ false
      not_true true h = absurd (true≢false (sym h))
      not_true false h = refl

-- ---- gateways that no links join, by a test

-- Links join gateways inside a set alone, and gateways outside it.
module _ {K : Type 0} (s : Fabric K) (inside : ℕ → Bool) where
  abbrev pub is_place_inside : ℕ → Option Bool
  is_place_inside face = elim (nth face s.faces) [ None ↦ None | Some p ↦ Some (inside p.gateway) ]

  abbrev pub same_side : Option Bool → Option Bool → Bool
  same_side None b = true
  same_side (Some x) None = true
  same_side (Some true) (Some y) = y
  same_side (Some false) (Some y) = not y

  abbrev pub crosses_nothing : Link → Bool
  crosses_nothing link = not link.is_open || same_side (is_place_inside link.one) (is_place_inside link.two)

  place_is : (face gateway : ℕ) → is_at_gateway s face gateway ≡ true → is_place_inside face ≡ Some (inside gateway)
  place_is face gateway at_ = by_place (nth face s.faces) refl
    where
      by_place : (o : Option Place) → nth face s.faces ≡ o → is_place_inside face ≡ Some (inside gateway)
      by_place None none_ = absurd (true≢false (sym (rw none_ at at_)))
      by_place (Some p) there =
          let equal : (gateway == p.gateway) ≡ true = rw there at at_ in
          let is : gateway ≡ p.gateway = eqb-true gateway p.gateway equal in
          rw (there, is_place_inside) (ap (λ n. Some (inside n)) (sym is))

  sides : (x y : Bool) → same_side (Some x) (Some y) ≡ true → x ≡ y
  sides true y e = sym e
  sides false true e = e
  sides false false e = refl

  linked_sides : (a b : ℕ) (links : List Link) → list_all crosses_nothing links ≡ true
      → list_any (λ link. link.is_open && ((is_at_gateway s link.one a && is_at_gateway s link.two b) || (is_at_gateway s link.one b && is_at_gateway s link.two a))) links ≡ true → inside a ≡ inside b
  linked_sides a b [] all some = absurd (true≢false (sym some))
  linked_sides a b (link ∷ links) all some =
      let both = and_parts (crosses_nothing link) (list_all crosses_nothing links) all in
      let one_way = is_at_gateway s link.one a && is_at_gateway s link.two b in
      let other_way = is_at_gateway s link.one b && is_at_gateway s link.two a in
      ⊎_elim
      (λ here.
      let parts = and_parts link.is_open (one_way || other_way) here in
      let crossing : same_side (is_place_inside link.one) (is_place_inside link.two) ≡ true = rw parts.0 at both.0 in
      let joins : (c d : ℕ) → (is_at_gateway s link.one c && is_at_gateway s link.two d) ≡ true → inside c ≡ inside d = λ c d ends.
      let ends_ = and_parts (is_at_gateway s link.one c) (is_at_gateway s link.two d) ends in
      sides (inside c) (inside d) (subst (λ y. same_side (Some (inside c)) y ≡ true) (place_is link.two d ends_.1) (subst (λ x. same_side x (is_place_inside link.two) ≡ true) (place_is link.one c ends_.0) crossing)) in
      ⊎_elim (λ first. joins a b first) (λ second. sym (joins b a second)) (or_cases one_way other_way parts.1))
      (λ there. linked_sides a b links both.1 there)
      (or_cases (link.is_open && (one_way || other_way)) (list_any (λ link. link.is_open && ((is_at_gateway s link.one a && is_at_gateway s link.two b) || (is_at_gateway s link.one b && is_at_gateway s link.two a))) links) some)

  pub same_tree_same_side : (a b : ℕ) → list_all crosses_nothing s.links ≡ true → IsInTree s a b → inside a ≡ inside b
  same_tree_same_side a b none_ (Itself c) = refl
  same_tree_same_side a b none_ (Beyond c d e walk linked) = same_tree_same_side c d none_ walk ∙ linked_sides d e s.links none_ linked

-- ---- faces that know their trees, by a test

-- Of fabrics whose faces ask for one key alone, and in which faces of one gateway alone ask for it.
module _ (matching : ℕ → ℕ → Bool) (k : ℕ) (alone : (e : ℕ) → matching k e ≡ true → k ≡ e) (s : Fabric ℕ) (gateway : ℕ) where
  abbrev pub is_key : Option ℕ → Bool
  is_key None = false
  is_key (Some x) = x == k

  about_key : (o : Option ℕ) (e : ℕ) → is_key o ≡ true → elim o [ None ↦ true | Some x ↦ matching x e ] ≡ true → k ≡ e
  about_key None e is about = absurd (true≢false (sym is))
  about_key (Some x) e is about = let same_ : x ≡ k = eqb-true x k is in alone e (subst (λ y. matching y e ≡ true) same_ about)

  -- what concerns the expression asks for now
  abbrev is_due : ℕ → InterestRow ℕ → Bool
  is_due e interest = concerns matching interest e && is_current interest.mode

  held_key : (held : ById (InterestRow ℕ)) (e : ℕ) → list_all (λ row. is_key row.1.expr) held ≡ true → list_any (is_due e) (map (λ row. row.1) held) ≡ true → k ≡ e
  held_key [] e all some = absurd (true≢false (sym some))
  held_key (row ∷ rows) e all some =
      let both = and_parts (is_key row.1.expr) (list_all (λ row. is_key row.1.expr) rows) all in
      ⊎_elim
      (λ here.
      let asks = (and_parts (concerns matching row.1 e) (is_current row.1.mode) here).0 in
      about_key row.1.expr e both.0 (and_parts (has_tokens row.1.options) (elim row.1.expr [ None ↦ true | Some x ↦ matching x e ]) asks).1)
      (λ there. held_key rows e both.1 there)
      (or_cases (is_due e row.1) (list_any (is_due e) (map (λ row. row.1) rows)) some)

  owed_key : (f : Face ℕ) (e : ℕ) → (not (is_north f.region) && list_all (λ row. is_key row.1.expr) f.held) ≡ true → is_owed matching f e ≡ true → k ≡ e
  unfolding is_owed
  owed_key f e keys owed =
      let both = and_parts (not (is_north f.region)) (list_all (λ row. is_key row.1.expr) f.held) keys in
      ⊎_elim
      (λ up. absurd (true≢false (sym (rw up at both.0))))
      (λ held. held_key f.held e both.1 held)
      (or_cases (is_north f.region) (list_any (is_due e) (interests_held matching f)) owed)

  -- of a face: if it is plain and asked for now and later, it is one of the gateway, asks for the key alone, and passes
  abbrev pub is_asker : (Face ℕ → Bool) → ℕ → Rows ℕ → Face ℕ → Bool
  is_asker passes n g f =
      not (is_plain s n f && holds_both nat_cmp matching f)
      || ((n == gateway) && ((not (is_north f.region) && list_all (λ row. is_key row.1.expr) f.held) && passes f))

  -- what the test says of such a face
  record Asks (passes : Face ℕ → Bool) (n : ℕ) (f : Face ℕ) : Type 0 where
    own : n ≡ gateway
    only : (e : ℕ) → is_owed matching f e ≡ true → k ≡ e
    passed : passes f ≡ true

  asks : (passes : Face ℕ → Bool) (n : ℕ) (g : Rows ℕ) (f : Face ℕ) → is_asker passes n g f ≡ true → is_plain s n f ≡ true → holds_both nat_cmp matching f ≡ true → Asks passes n f
  asks passes n g f asker plain both_ =
      let keys = not (is_north f.region) && list_all (λ row. is_key row.1.expr) f.held in
      let which = (n == gateway) && (keys && passes f) in
      ⊎_elim
      (λ not_. absurd (true≢false (sym (rw (plain, both_) at not_))))
      (λ h.
      let outer = and_parts (n == gateway) (keys && passes f) h in
      let inner = and_parts keys (passes f) outer.1 in
      record { own = eqb-true n gateway outer.0; only = λ e owed. owed_key f e inner.0 owed; passed = inner.1 })
      (or_cases (not (is_plain s n f && holds_both nat_cmp matching f)) which asker)

  -- they keep it and that is live ..
  pub know_it : all_faces (is_asker (λ f. keeps nat_cmp f k)) 1 s.gateways ≡ true → IsPlainlyLive nat_cmp matching s gateway k → FacesKnow nat_cmp matching s
  know_it asking live =
      faces_pass (λ n g f. is_plain s n f ≡ true → holds_both nat_cmp matching f ≡ true → KnowsItsTree nat_cmp matching s n f) (is_asker (λ f. keeps nat_cmp f k))
      (λ n g f asker plain both_.
      let own = asks (λ f. keeps nat_cmp f k) n g f asker plain both_ in
      record {
        kept_is_live = λ e owed keeps_. subst (λ m. IsPlainlyLive nat_cmp matching s m e) (sym own.own) (subst (λ x. IsPlainlyLive nat_cmp matching s gateway x) (own.only e owed) live);
        live_is_kept = λ e owed lives. subst (λ x. keeps nat_cmp f x ≡ true) (own.only e owed) own.passed;
      })
      1 s.gateways asking

  -- .. or they don't and it is live nowhere.
  pub know_none : all_faces (is_asker (λ f. not (keeps nat_cmp f k))) 1 s.gateways ≡ true → is_live_somewhere nat_cmp matching k s ≡ false → FacesKnow nat_cmp matching s
  know_none asking nowhere =
      faces_pass (λ n g f. is_plain s n f ≡ true → holds_both nat_cmp matching f ≡ true → KnowsItsTree nat_cmp matching s n f) (is_asker (λ f. not (keeps nat_cmp f k)))
      (λ n g f asker plain both_.
      let own = asks (λ f. not (keeps nat_cmp f k)) n g f asker plain both_ in
      record {
        kept_is_live = λ e owed keeps_.
            let kept : keeps nat_cmp f k ≡ true = subst (λ x. keeps nat_cmp f x ≡ true) (sym (own.only e owed)) keeps_ in
            absurd (true≢false (sym (rw kept at own.passed)));
        live_is_kept = λ e owed lives.
            let lives_ : is_plainly_live_at nat_cmp matching s lives.face k ≡ true = subst (λ x. is_plainly_live_at nat_cmp matching s lives.face x ≡ true) (sym (own.only e owed)) lives.live in
            absurd (true≢false (sym lives_ ∙ live_nowhere nat_cmp matching k s nowhere lives.face));
      })
      1 s.gateways asking

-- ---- turns by their numbers

-- the first of some turns, and one of no transcript where there is none
abbrev pub first_turn : {K : Type 0} → List (Turn K) → Turn K
first_turn [] = record { line = Moment 0 0; entry = Ok []; before = empty_fabric; after = empty_fabric }
first_turn (t ∷ ts) = t

abbrev pub is_some_turn : {K : Type 0} → List (Turn K) → Bool
is_some_turn [] = false
is_some_turn (t ∷ ts) = true

first_is : {K : Type 0} (ts : List (Turn K)) → is_some_turn ts ≡ true → ts ≡ first_turn ts ∷ rest_of ts
first_is [] e = absurd (true≢false (sym e))
first_is (t ∷ ts) e = refl

-- an ask that is finished in its own turn cuts the turns in three ..
pub cut_at_own : {K : Type 0} (i : ℕ) (ts : List (Turn K)) → is_some_turn (drop i ts) ≡ true
    → ts ≡ take i ts ++ first_turn (drop i ts) ∷ [] ++ option_to_list None ++ rest_of (drop i ts)
cut_at_own i ts e =
    let from = drop i ts in
    let x = first_turn from in
    sym
    (append_assoc (take i ts ++ x ∷ []) [] (rest_of from)
    ∙ append_assoc (take i ts) (x ∷ []) (rest_of from)
    ∙ ap (λ r. take i ts ++ r) (sym (first_is from e))
    ∙ take-append-drop i ts)

-- .. and one whose final comes later, with m turns between, in five
pub cut_at_both : {K : Type 0} (i m : ℕ) (ts : List (Turn K)) → is_some_turn (drop i ts) ≡ true → is_some_turn (drop m (rest_of (drop i ts))) ≡ true
    → ts ≡ take i ts ++ first_turn (drop i ts) ∷ take m (rest_of (drop i ts)) ++ option_to_list (Some (first_turn (drop m (rest_of (drop i ts))))) ++ rest_of (drop m (rest_of (drop i ts)))
cut_at_both i m ts e d =
    let from = drop i ts in
    let x = first_turn from in
    let rest = rest_of from in
    let last = drop m rest in
    let y = first_turn last in
    sym
    (append_assoc (take i ts ++ x ∷ take m rest) (y ∷ []) (rest_of last)
    ∙ ap (λ r. (take i ts ++ x ∷ take m rest) ++ r) (sym (first_is last d))
    ∙ append_assoc (take i ts) (x ∷ take m rest) last
    ∙ ap (λ r. take i ts ++ x ∷ r) (take-append-drop m rest)
    ∙ ap (λ r. take i ts ++ r) (sym (first_is from e))
    ∙ take-append-drop i ts)

-- the turn of a number
abbrev pub turn_at : {K : Type 0} → ℕ → List (Turn K) → Turn K
turn_at n turns = elim (nth n turns) [ None ↦ first_turn [] | Some t ↦ t ]

pub turn_is : {K : Type 0} (n : ℕ) (turns : List (Turn K)) → is_some (nth n turns) ≡ true → nth n turns ≡ Some (turn_at n turns)
turn_is {K} n turns there = by_turn (nth n turns) there
  where
    by_turn : (o : Option (Turn K)) → is_some o ≡ true → o ≡ Some (elim o [ None ↦ first_turn [] | Some t ↦ t ])
    by_turn None e = absurd (true≢false (sym e))
    by_turn (Some t) e = refl

-- what is there
abbrev pub some_is : {A : Type 0} (o : Option A) → is_some o ≡ true → (x : A) × (o ≡ Some x)
some_is None e = absurd (true≢false (sym e))
some_is (Some x) e = (x, refl)
