-- Messages that are heard one after another.
use Rattle.std.proofs.Common.{◌≡◌, ℕ, ◌+◌, ◌-◌, ◌≤◌, ◌<◌, length, drop, get_or, Bool, true, false, ◌==◌, ◌&&◌, if◌then◌else◌, List, [], ◌∷◌, map, Option, None, Some, refl, subst, sym, ap, ap₂, ◌∙◌, arith, eqb-true, eq-eqb, ne_eqb}
use Rattle.std.proofs.lemmas.Bool.{eqb-false}
use Rattle.std.proofs.lemmas.List.{drop_all}
use Rattle.std.specs.declared.cmp.Ordering.{Ordering}
use Rattle.zt_keys.specs.Test.{by_test}
use Rattle.zt_protocol.specs.declared.entries.Sent.{Sent}
use Rattle.zt_protocol.specs.declared.messages.Message.{Message}
use Rattle.zt_protocol.specs.declared.messages.Message.TheVariants.{DeclareToken, UndeclareToken, DeclareFinal, Interest, InterestFinal, DeclareSubscriber, DeclareQueryable}
use Rattle.zt_model.specs.Fabric.{Fabric, Node, Place, after_hearing, at_nth, gateways_after_hearing, number_from, printed_for}
use Rattle.zt_model.specs.Hearing.{heard, heard_all}
use Rattle.zt_model.specs.Lists.{is_some_and, nth}
use Rattle.zt_model.specs.Parts.{with_face}
use Rattle.zt_model.specs.Promises.{EachGateway}
use Rattle.zt_model.specs.Rows.{Face}
use Rattle.zt_model.specs.Transcript.{Each}
use Rattle.zt_check_faces.proofs.Placed.{next_is}
use Rattle.zt_check_fabric.specs.Changed.{node_told, told}
use Rattle.zt_check_fabric.specs.Placed.{IsPlaced, has_one_place, is_place, made_by, made_of}
use Rattle.zt_check_fabric.proofs.Numbered.{at_nth_zero}
use Rattle.zt_check_fabric.proofs.Numbers.{eqb_flip, number_is}

map_same : {A : Type 0} (change : A → A) → ((x : A) → change x ≡ x) → (xs : List A) → map change xs ≡ xs
map_same change same [] = refl
map_same change same (x ∷ xs) = ap₂ (λ y ys. y ∷ ys) (same x) (map_same change same xs)

map_alike : {A : Type 0} (one two : A → A) → ((x : A) → one x ≡ two x) → (xs : List A) → map one xs ≡ map two xs
map_alike one two same [] = refl
map_alike one two same (x ∷ xs) = ap₂ (λ y ys. y ∷ ys) (same x) (map_alike one two same xs)

module _ {K : Type 0} (cmp : K → K → Ordering) where
  -- a face keeps its number
  heard_number : (now : ℕ) (m : Message K) (f : Face K) → (heard cmp now m f).number ≡ f.number
  heard_number now (DeclareToken id e interest node) f = refl
  heard_number now (UndeclareToken id e node) f = refl
  heard_number now (DeclareFinal interest) f = refl
  heard_number now (Interest id mode options e) f = refl
  heard_number now (InterestFinal id) f = refl
  heard_number now (DeclareSubscriber id e interest) f = refl
  heard_number now (DeclareQueryable id e info interest) f = refl

  -- where no message is left nothing is heard
  none_heard : (s : Fabric K) (n : ℕ) (nodes : List (Node K)) → gateways_after_hearing cmp s [] n nodes ≡ nodes
  unfolding gateways_after_hearing printed_for heard_all
  none_heard s n [] = refl
  none_heard s n (node ∷ nodes) =
      ap₂ (λ (fs : List (Face K)) (rest : List (Node K)). record node { rows = record node.rows { faces = fs } } ∷ rest)
      (map_same (λ f. f) (λ f. refl) node.rows.faces) (none_heard s (n + 1) nodes)

  pub all_heard : (s : Fabric K) → after_hearing cmp [] s ≡ s
  all_heard s = ap (λ (gs : List (Node K)). record s { gateways = gs }) (none_heard s 1 s.gateways)

  -- what is heard goes by the places of faces alone
  by_places : (s : Fabric K) (gs : List (Node K)) (ms : List (Sent K)) (n : ℕ) (nodes : List (Node K)) → gateways_after_hearing cmp (record s { gateways = gs }) ms n nodes ≡ gateways_after_hearing cmp s ms n nodes
  unfolding gateways_after_hearing
  by_places s gs ms n [] = refl
  by_places s gs ms n (node ∷ nodes) =
      ap (λ (rest : List (Node K)). record node { rows = record node.rows { faces = map (λ f. heard_all cmp node.rows.moment (printed_for (number_from 1 n f.number s.faces) ms) f) node.rows.faces } } ∷ rest)
      (by_places s gs ms (n + 1) nodes)

module _ {K : Type 0} (cmp : K → K → Ordering) (m : Sent K) where
  -- ---- one message, by the places of faces

  abbrev is_for : List Place → ℕ → Face K → Bool
  is_for places n f = is_some_and (nth m.face places) (is_place n f.number)

  abbrev face_told : List Place → ℕ → ℕ → Face K → Face K
  face_told places n moment f = if is_for places n f then heard cmp moment m.message f else f

  abbrev told_node : List Place → ℕ → Node K → Node K
  told_node places n node = record node { rows = record node.rows { faces = map (face_told places n node.rows.moment) node.rows.faces } }

  abbrev told_from : List Place → ℕ → List (Node K) → List (Node K)
  told_from places n [] = []
  told_from places n (node ∷ nodes) = told_node places n node ∷ told_from places (n + 1) nodes

  told_number : (places : List Place) (n moment : ℕ) (f : Face K) → (face_told places n moment f).number ≡ f.number
  told_number places n moment f = go (is_for places n f)
    where
      go : (b : Bool) → (if b then heard cmp moment m.message f else f).number ≡ f.number
      go true = heard_number cmp moment m.message f
      go false = refl

  -- ---- a gateway's faces, and its place, tell whose the message is

  other_node : (places : List Place) (n : ℕ) (node : Node K) → ((f : Face K) → is_for places n f ≡ false) → told_node places n node ≡ node
  other_node places n node other =
      ap (λ (fs : List (Face K)). record node { rows = record node.rows { faces = fs } })
      (map_same (face_told places n node.rows.moment) (λ f. ap (λ b. if b then heard cmp node.rows.moment m.message f else f) (other f)) node.rows.faces)

  others : (places : List Place) (n : ℕ) (nodes : List (Node K)) → ((k : ℕ) → n ≤ k → (f : Face K) → is_for places k f ≡ false) → told_from places n nodes ≡ nodes
  others places n [] other = refl
  others places n (node ∷ nodes) other =
      ap₂ (λ (x : Node K) (rest : List (Node K)). x ∷ rest) (other_node places n node (other n (omega arith))) (others places (n + 1) nodes (λ k above f. other k (omega arith) f))

  module _ (places : List Place) (p : Place) (is : nth m.face places ≡ Some p) where
    for_is : (n : ℕ) (f : Face K) → is_for places n f ≡ is_place n f.number p
    for_is n f = ap (λ o. is_some_and o (is_place n f.number)) is

    apart : (n : ℕ) (f : Face K) → (n ≡ p.gateway → ⊥) → is_for places n f ≡ false
    apart n f differ = for_is n f ∙ ap (λ b. b && (f.number == p.face)) (ne_eqb n p.gateway differ)

    own_face : (n moment : ℕ) (f : Face K) → n ≡ p.gateway → (if p.face == f.number then heard cmp moment m.message f else f) ≡ face_told places n moment f
    own_face n moment f same =
        ap (λ b. if b then heard cmp moment m.message f else f)
        (eqb_flip p.face f.number ∙ sym (for_is n f ∙ ap (λ b. b && (f.number == p.face)) (eq-eqb n p.gateway same)))

    own_node : (n : ℕ) (node : Node K) → n ≡ p.gateway → node_told cmp p.face m.message node ≡ told_node places n node
    unfolding with_face
    own_node n node same =
        ap (λ (fs : List (Face K)). record node { rows = record node.rows { faces = fs } })
        (map_alike (λ f. if p.face == f.number then heard cmp node.rows.moment m.message f else f) (face_told places n node.rows.moment) (λ f. own_face n node.rows.moment f same) node.rows.faces)

    at_gateway : (n k : ℕ) (nodes : List (Node K)) → 1 ≤ k → n + k ≡ p.gateway + 1 → at_nth k (node_told cmp p.face m.message) nodes ≡ told_from places n nodes
    at_gateway n k [] real counted = refl
    at_gateway n k (node ∷ nodes) real counted =
        by_test (k == 1)
        (λ first.
        let one : k ≡ 1 = eqb-true k 1 first in
        let same : n ≡ p.gateway = omega arith in
        rw first (ap₂ (λ (x : Node K) (rest : List (Node K)). x ∷ rest) (own_node n node same)
        (sym (others places (n + 1) nodes (λ j above f. apart j f (λ e. omega arith))))))
        (λ later.
        let more : k ≡ 1 → ⊥ = eqb-false k 1 later in
        let differ : n ≡ p.gateway → ⊥ = λ e. more (omega arith) in
        rw later (ap₂ (λ (x : Node K) (rest : List (Node K)). x ∷ rest) (sym (other_node places n node (λ f. apart n f differ)))
        (at_gateway (n + 1) (k - 1) nodes (omega arith) (omega arith))))

    at_place : (nodes : List (Node K)) → at_nth p.gateway (node_told cmp p.face m.message) nodes ≡ told_from places 1 nodes
    at_place nodes =
        by_test (p.gateway == 0)
        (λ none.
        let zero_ : p.gateway ≡ 0 = eqb-true p.gateway 0 none in
        ap (λ k. at_nth k (node_told cmp p.face m.message) nodes) zero_ ∙ at_nth_zero (node_told cmp p.face m.message) nodes
        ∙ sym (others places 1 nodes (λ j above f. apart j f (λ e. omega arith))))
        (λ some.
        let real : p.gateway ≡ 0 → ⊥ = eqb-false p.gateway 0 some in
        at_gateway 1 p.gateway nodes (omega arith) (omega arith))

  pub told_is : (s : Fabric K) → told cmp m s ≡ record s { gateways = told_from s.faces 1 s.gateways }
  told_is s = go (nth m.face s.faces) refl
    where
      go : (found : Option Place) → nth m.face s.faces ≡ found
          → (elim found [ None ↦ s | Some p ↦ record s { gateways = at_nth p.gateway (node_told cmp p.face m.message) s.gateways } ]) ≡ record s { gateways = told_from s.faces 1 s.gateways }
      go None is =
          ap (λ (gs : List (Node K)). record s { gateways = gs })
          (sym (others s.faces 1 s.gateways (λ k above f. ap (λ o. is_some_and o (is_place k f.number)) is)))
      go (Some p) is = ap (λ (gs : List (Node K)). record s { gateways = gs }) (at_place s.faces p is s.gateways)

  -- ---- and then the others

  said_to : (moment num : ℕ) (b : Bool) (ms : List (Sent K)) (f : Face K) → (num == m.face) ≡ b
      → heard_all cmp moment (printed_for num (m ∷ ms)) f ≡ heard_all cmp moment (printed_for num ms) (if b then heard cmp moment m.message f else f)
  unfolding printed_for heard_all
  said_to moment num true ms f is = rw is refl
  said_to moment num false ms f is = rw is refl

  abbrev HasOne : List Place → ℕ → Node K → Type 0
  HasOne places n node = Each (λ (f : Face K). has_one_place n f.number places ≡ true) node.rows.faces

  one_face : (places : List Place) (n moment : ℕ) (ms : List (Sent K)) (f : Face K) → has_one_place n f.number places ≡ true
      → heard_all cmp moment (printed_for (number_from 1 n f.number places) (m ∷ ms)) f
      ≡ heard_all cmp moment (printed_for (number_from 1 n (face_told places n moment f).number places) ms) (face_told places n moment f)
  one_face places n moment ms f one =
      said_to moment (number_from 1 n f.number places) (is_for places n f) ms f (number_is m.face n f.number places one)
      ∙ ap (λ k. heard_all cmp moment (printed_for (number_from 1 n k places) ms) (face_told places n moment f)) (sym (told_number places n moment f))

  faces_told : (places : List Place) (n moment : ℕ) (ms : List (Sent K)) (fs : List (Face K)) → Each (λ (f : Face K). has_one_place n f.number places ≡ true) fs
      → map (λ f. heard_all cmp moment (printed_for (number_from 1 n f.number places) (m ∷ ms)) f) fs
      ≡ map (λ f. heard_all cmp moment (printed_for (number_from 1 n f.number places) ms) f) (map (face_told places n moment) fs)
  faces_told places n moment ms [] each = refl
  faces_told places n moment ms (f ∷ fs) each =
      ap₂ (λ (x : Face K) (rest : List (Face K)). x ∷ rest) (one_face places n moment ms f each.0) (faces_told places n moment ms fs each.1)

  nodes_told : (s : Fabric K) (ms : List (Sent K)) (n : ℕ) (nodes : List (Node K)) → EachGateway (HasOne s.faces) n nodes
      → gateways_after_hearing cmp s (m ∷ ms) n nodes ≡ gateways_after_hearing cmp s ms n (told_from s.faces n nodes)
  unfolding gateways_after_hearing
  nodes_told s ms n [] each = refl
  nodes_told s ms n (node ∷ nodes) each =
      ap₂ (λ (fs : List (Face K)) (rest : List (Node K)). record node { rows = record node.rows { faces = fs } } ∷ rest)
      (faces_told s.faces n node.rows.moment ms node.rows.faces each.0) (nodes_told s ms (n + 1) nodes each.1)

  -- one message is heard, and then the others
  pub one_heard : (ms : List (Sent K)) (s : Fabric K) → IsPlaced s → after_hearing cmp (m ∷ ms) s ≡ after_hearing cmp ms (told cmp m s)
  one_heard ms s placed =
      ap (λ (gs : List (Node K)). record s { gateways = gs })
      (nodes_told s ms 1 s.gateways placed.one ∙ sym (by_places cmp s (told_from s.faces 1 s.gateways) ms 1 (told_from s.faces 1 s.gateways)))
      ∙ ap (after_hearing cmp ms) (sym (told_is s))

  -- ---- faces keep their places

  faces_stay : (places : List Place) (n moment : ℕ) (fs : List (Face K)) → Each (λ (f : Face K). has_one_place n f.number places ≡ true) fs
      → Each (λ (f : Face K). has_one_place n f.number places ≡ true) (map (face_told places n moment) fs)
  faces_stay places n moment [] each = tt
  faces_stay places n moment (f ∷ fs) each =
      (ap (λ k. has_one_place n k places) (told_number places n moment f) ∙ each.0, faces_stay places n moment fs each.1)

  nodes_stay : (places : List Place) (n : ℕ) (nodes : List (Node K)) → EachGateway (HasOne places) n nodes → EachGateway (HasOne places) n (told_from places n nodes)
  nodes_stay places n [] each = tt
  nodes_stay places n (node ∷ nodes) each = (faces_stay places n node.rows.moment node.rows.faces each.0, nodes_stay places (n + 1) nodes each.1)

  -- gateways make no faces
  made_there : (places : List Place) (n k : ℕ) (nodes : List (Node K)) → made_of (nth k (told_from places n nodes)) ≡ made_of (nth k nodes)
  made_there places n k [] = refl
  made_there places n k (node ∷ nodes) =
      by_test (k == 1) (λ first. rw first refl) (λ later. rw later (made_there places (n + 1) (k - 1) nodes))

  made_stay : (s : Fabric K) (ps : List Place) → Each (λ p. p.face ≤ made_by s p.gateway) ps → Each (λ p. p.face ≤ made_by (record s { gateways = told_from s.faces 1 s.gateways }) p.gateway) ps
  made_stay s [] each = tt
  made_stay s (p ∷ ps) each =
      let same = made_there s.faces 1 p.gateway s.gateways in
      (omega (arith, each.0, same), made_stay s ps each.1)

  pub stays_placed : (s : Fabric K) → IsPlaced s → IsPlaced (told cmp m s)
  stays_placed s placed =
      subst IsPlaced (sym (told_is s)) (record { one = nodes_stay s.faces 1 s.gateways placed.one; made = made_stay s s.faces placed.made })

-- ---- one after another

module _ {K : Type 0} (cmp : K → K → Ordering) (xs : List (Sent K)) (i : ℕ) where
  pub hear_more : (m : Sent K) (s t all : Fabric K) → i < length xs → m ≡ get_or xs i m → IsPlaced s → t ≡ told cmp m s → after_hearing cmp (drop i xs) s ≡ all → after_hearing cmp (drop (i + 1) xs) t ≡ all
  hear_more m s t all within is placed done so_far =
      ap (after_hearing cmp (drop (i + 1) xs)) done
      ∙ sym (one_heard cmp m (drop (i + 1) xs) s placed)
      ∙ ap (λ ms. after_hearing cmp ms s) (sym (next_is xs i m within is)) ∙ so_far

  pub place_more : (m : Sent K) (s t : Fabric K) → IsPlaced s → t ≡ told cmp m s → IsPlaced t
  place_more m s t placed done = subst IsPlaced (sym done) (stays_placed cmp m s placed)

  pub hear_all : (s all : Fabric K) → length xs ≤ i → after_hearing cmp (drop i xs) s ≡ all → s ≡ all
  hear_all s all past so_far = sym (all_heard cmp s) ∙ ap (λ ms. after_hearing cmp ms s) (sym (drop_all i xs past)) ∙ so_far
