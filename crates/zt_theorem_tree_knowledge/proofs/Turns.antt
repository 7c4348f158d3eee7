-- Knowledge after every turn of a transcript of trees.
use Rattle.std.proofs.Common.{◌≡◌, ◌≢◌, ℕ, ◌+◌, ◌-◌, Bool, true, false, ◌&&◌, ◌==◌, List, [], ◌∷◌, map, Option, Some, None, option_map, Ok, Err, refl, sym, ap, ◌∙◌, subst, arith, ne_eqb}
use Rattle.std.specs.Cmp.{IsTotalOrder}
use Rattle.std.specs.declared.cmp.Ordering.{Ordering}
use Rattle.std.specs.declared.cmp.Ordering.TheVariants.{Equal}
use Rattle.zt_protocol.specs.Plain.{PlainEntry, PlainLine}
use Rattle.zt_protocol.specs.Refusal.{number_of}
use Rattle.zt_protocol.specs.declared.errors.Refusal.TheVariants as refusal
use Rattle.zt_model.specs.Fabric.{Fabric, Node, Place, entries_from, entry_of, fabric_after, number_from}
use Rattle.zt_model.specs.Lists.{is_some_and, nth}
use Rattle.zt_model.specs.Parts.{find_face}
use Rattle.zt_model.specs.Promises.{EachFace, EachGateway, Turn, turns_from}
use Rattle.zt_model.specs.Rows.{Face}
use Rattle.zt_model.specs.Transcript.{Each, FaceAt, fabric_shown, face_numbered}
use Rattle.zt_model.specs.TreePromises.{IsInTree, Itself, Beyond, IsTreeFabric, IsTreeTurn, KnowsItsTree, KnowsTrees, LeadsUpByLink, ServesClients, are_links_empty, holds_both, is_live_at, is_plain, is_plain_number, is_plainly_live_at}
use Rattle.zt_laws.specs.Shown.{as_shown, node_shown, without_own}
use Rattle.zt_laws.specs.Sound.{HasFirstIds, is_placed}
use Rattle.zt_laws.proofs.Entries.{nth_of_number}
use Rattle.zt_laws.proofs.Lists.{by_test, each_both, each_weaker, never}
use Rattle.zt_laws.proofs.LinesOrder.{gateway_in_order}
use Rattle.zt_laws.proofs.ShownLines.{fabric_is_shown}
use Rattle.zt_laws.proofs.ToldFrom.{found_by_number}
use Rattle.zt_theorem_soundness.specs.Lines.{EachGatewayIs}
use Rattle.zt_theorem_soundness.specs.Sound.{IsSound}
use Rattle.zt_theorem_soundness.proofs.Sound.{sound_after_line, sound_gateways_keep}
use Rattle.zt_theorem_tree_invariant.specs.Facts.{TreesAgree}
use Rattle.zt_theorem_tree_invariant.specs.Trees.{FacesFormTrees, IsOfClients, LeavesTrees, RefusesNoFaces}
use Rattle.zt_theorem_tree_invariant.proofs.Knowledge.{plain_face_knows}
use Rattle.zt_theorem_tree_invariant.proofs.Members.{numbered}
use Rattle.zt_theorem_tree_knowledge.proofs.Lines.{trees_after_any, trees_after_each}
use Rattle.zt_theorem_tree_knowledge.proofs.Premise.{formed_by_regions, may_by_regions}

-- ---- gateways one by one

pub each_gateway_from : {K : Type 0} (P : ℕ → Node K → Type 0) (i : ℕ) (gs : List (Node K)) → ((m : ℕ) (node : Node K) → nth (m + 1) gs ≡ Some node → P (i + m) node) → EachGateway P i gs
each_gateway_from P i [] h = tt
each_gateway_from P i (node ∷ gs) h =
    let first : i + 0 ≡ i = omega arith in (
      subst (λ j. P j node) first (h 0 node refl),
      each_gateway_from P (i + 1) gs
          (λ m x at_.
          let apart : (m + 1 + 1 == 1) ≡ false = ne_eqb (m + 1 + 1) 1 (λ e. omega arith) in
          let down : m + 1 + 1 - 1 ≡ m + 1 = omega arith in
          let there : nth (m + 1 + 1) (node ∷ gs) ≡ Some x = rw apart (ap (λ k. nth k gs) down ∙ at_) in
          let is : i + (m + 1) ≡ i + 1 + m = omega arith in
          subst (λ j. P j x) is (h (m + 1) x there)),
    )

each_gateway_weaker : {K : Type 0} (P Q : ℕ → Node K → Type 0) (change : Node K → Node K) → ((n : ℕ) (node : Node K) → P n (change node) → Q n node) → (i : ℕ) (gs : List (Node K)) → EachGateway P i (map change gs) → EachGateway Q i gs
each_gateway_weaker P Q change h i [] all = tt
each_gateway_weaker P Q change h i (node ∷ gs) all = (h i node all.0, each_gateway_weaker P Q change h (i + 1) gs all.1)

each_gateway_changed : {K : Type 0} (P Q : ℕ → Node K → Type 0) (change : Node K → Node K) → ((n : ℕ) (node : Node K) → P n node → Q n (change node)) → (i : ℕ) (gs : List (Node K)) → EachGateway P i gs → EachGateway Q i (map change gs)
each_gateway_changed P Q change h i [] all = tt
each_gateway_changed P Q change h i (node ∷ gs) all = (h i node all.0, each_gateway_changed P Q change h (i + 1) gs all.1)

nth-map : {A B : Type 0} (n : ℕ) (f : A → B) (xs : List A) → nth n (map f xs) ≡ option_map f (nth n xs)
nth-map n f [] = refl
nth-map n f (x ∷ xs) = by_test (n == 1) (λ here. rw here refl) (λ here. rw here (nth-map (n - 1) f xs))

module _ {K : Type 0} (cmp : K → K → Ordering) (matching : K → K → Bool) where
  -- ---- what a transcript shows of a fabric of trees

  pub tree_unshown : (s : Fabric K) → FacesFormTrees (as_shown s) → FacesFormTrees s
  tree_unshown s trees = record {
    north = each_gateway_weaker (λ n (node : Node K). Each (LeadsUpByLink (as_shown s) n node.rows) node.rows.faces) (λ n (node : Node K). Each (LeadsUpByLink s n node.rows) node.rows.faces) node_shown (λ n node all. all) 1 s.gateways trees.north;
    south = each_gateway_weaker (λ n (node : Node K). Each IsOfClients node.rows.faces) (λ n (node : Node K). Each IsOfClients node.rows.faces) node_shown (λ n node all. all) 1 s.gateways trees.south;
    admitted = each_gateway_weaker RefusesNoFaces RefusesNoFaces node_shown (λ n node all. all) 1 s.gateways trees.admitted;
  }

  tree_shown : (s : Fabric K) → FacesFormTrees s → FacesFormTrees (as_shown s)
  tree_shown s trees = record {
    north = each_gateway_changed (λ n (node : Node K). Each (LeadsUpByLink s n node.rows) node.rows.faces) (λ n (node : Node K). Each (LeadsUpByLink (as_shown s) n node.rows) node.rows.faces) node_shown (λ n node all. all) 1 s.gateways trees.north;
    south = each_gateway_changed (λ n (node : Node K). Each IsOfClients node.rows.faces) (λ n (node : Node K). Each IsOfClients node.rows.faces) node_shown (λ n node all. all) 1 s.gateways trees.south;
    admitted = each_gateway_changed RefusesNoFaces RefusesNoFaces node_shown (λ n node all. all) 1 s.gateways trees.admitted;
  }

  regions_unshown : (s : Fabric K) → IsTreeFabric (as_shown s) → IsTreeFabric s
  regions_unshown s trees = record {
    north = each_gateway_weaker (λ n (node : Node K). Each (LeadsUpByLink (as_shown s) n node.rows) node.rows.faces) (λ n (node : Node K). Each (LeadsUpByLink s n node.rows) node.rows.faces) node_shown (λ n node all. all) 1 s.gateways trees.north;
    clients = each_gateway_weaker ServesClients ServesClients node_shown (λ n node all. all) 1 s.gateways trees.clients;
  }

  in_tree_shown : (s : Fabric K) (a b : ℕ) → IsInTree s a b → IsInTree (as_shown s) a b
  in_tree_shown s a b (Itself c) = Itself c
  in_tree_shown s a b (Beyond c d e walk linked) = Beyond c d e (in_tree_shown s c d walk) linked

  in_tree_unshown : (s : Fabric K) (a b : ℕ) → IsInTree (as_shown s) a b → IsInTree s a b
  in_tree_unshown s a b (Itself c) = Itself c
  in_tree_unshown s a b (Beyond c d e walk linked) = Beyond c d e (in_tree_unshown s c d walk) linked

  pub live_shown : (s : Fabric K) (n : ℕ) (e : K) → is_plainly_live_at cmp matching (as_shown s) n e ≡ is_plainly_live_at cmp matching s n e
  unfolding face_numbered
  live_shown s n e = ap (λ b. is_plain_number s n && b) (by_place (nth n s.faces))
    where
      at_node : (p : Place) (o : Option (Node K))
          → is_some_and (let f : Option (FaceAt K) = elim (option_map node_shown o) [ None ↦ None | Some node ↦ elim (find_face p.face node.rows) [ None ↦ None | Some f ↦ Some (record { gateway = p.gateway; rows = node.rows; face = f }) ] ] in f) (λ x. is_live_at cmp matching x.face e)
          ≡ is_some_and (let f : Option (FaceAt K) = elim o [ None ↦ None | Some node ↦ elim (find_face p.face node.rows) [ None ↦ None | Some f ↦ Some (record { gateway = p.gateway; rows = node.rows; face = f }) ] ] in f) (λ x. is_live_at cmp matching x.face e)
      at_node p None = refl
      at_node p (Some node) = at_face (find_face p.face node.rows)
        where
          at_face : (o : Option (Face K))
              → is_some_and (let f : Option (FaceAt K) = elim o [ None ↦ None | Some f ↦ Some (record { gateway = p.gateway; rows = without_own node.rows; face = f }) ] in f) (λ x. is_live_at cmp matching x.face e)
              ≡ is_some_and (let f : Option (FaceAt K) = elim o [ None ↦ None | Some f ↦ Some (record { gateway = p.gateway; rows = node.rows; face = f }) ] in f) (λ x. is_live_at cmp matching x.face e)
          at_face None = refl
          at_face (Some f) = refl

      by_place : (o : Option Place)
          → is_some_and (let f : Option (FaceAt K) = elim o [ None ↦ None | Some p ↦ elim (nth p.gateway (map node_shown s.gateways)) [ None ↦ None | Some node ↦ elim (find_face p.face node.rows) [ None ↦ None | Some f ↦ Some (record { gateway = p.gateway; rows = node.rows; face = f }) ] ] ] in f) (λ x. is_live_at cmp matching x.face e)
          ≡ is_some_and (let f : Option (FaceAt K) = elim o [ None ↦ None | Some p ↦ elim (nth p.gateway s.gateways) [ None ↦ None | Some node ↦ elim (find_face p.face node.rows) [ None ↦ None | Some f ↦ Some (record { gateway = p.gateway; rows = node.rows; face = f }) ] ] ] in f) (λ x. is_live_at cmp matching x.face e)
      by_place None = refl
      by_place (Some p) =
          ap (λ (o : Option (Node K)). is_some_and (let f : Option (FaceAt K) = elim o [ None ↦ None | Some node ↦ elim (find_face p.face node.rows) [ None ↦ None | Some f ↦ Some (record { gateway = p.gateway; rows = node.rows; face = f }) ] ] in f) (λ x. is_live_at cmp matching x.face e)) (nth-map p.gateway node_shown s.gateways)
          ∙ at_node p (nth p.gateway s.gateways)

  knows_shown : (s : Fabric K) (n : ℕ) (f : Face K) → KnowsItsTree cmp matching s n f → KnowsItsTree cmp matching (as_shown s) n f
  knows_shown s n f knows = record {
    kept_is_live = λ e covered kept.
        let live = knows.kept_is_live e covered kept in
        record { face = live.face; at_gateway = live.at_gateway; place = live.place; in_tree = in_tree_shown s n live.at_gateway live.in_tree; live = live_shown s live.face e ∙ live.live };
    live_is_kept = λ e covered live.
        knows.live_is_kept e covered (record { face = live.face; at_gateway = live.at_gateway; place = live.place; in_tree = in_tree_unshown s n live.at_gateway live.in_tree; live = sym (live_shown s live.face e) ∙ live.live });
  }

  module _ (total : IsTotalOrder cmp) (equal_is_same : (a b : K) → cmp a b ≡ Equal → a ≡ b) where
    abbrev pub SoundFabric : Fabric K → Type 0
    SoundFabric s = EachGatewayIs cmp matching (IsSound cmp matching) s

    -- in a sound fabric of trees that agree, each plain face knows its tree where nothing waits
    faces_know : (s : Fabric K) → SoundFabric s → TreesAgree cmp matching s → FacesFormTrees s → are_links_empty s ≡ true → EachFace (λ n g f. is_plain s n f ≡ true → KnowsItsTree cmp matching s n f) s
    faces_know s sound agree trees quiet =
        let fine = sound.order in
        each_gateway_from (λ n (node : Node K). Each (λ f. is_plain s n f ≡ true → KnowsItsTree cmp matching s n f) node.rows.faces) 1 s.gateways
        (λ m node at_.
        let n_is : m + 1 ≡ 1 + m = omega arith in
        subst (λ n. Each (λ f. is_plain s n f ≡ true → KnowsItsTree cmp matching s n f) node.rows.faces) n_is
        (let n = m + 1 in
        let gateway = gateway_in_order cmp matching s n node at_ fine in
        each_both (λ f. find_face f.number node.rows ≡ Some f) (λ f. is_placed n f.number s.faces ≡ true) (λ f. is_plain s n f ≡ true → KnowsItsTree cmp matching s n f)
        (λ f found placed plain.
        let k = number_from 1 n f.number s.faces in
        let k_is : k + 1 - 1 ≡ k = omega arith in
        let place_ : nth k s.faces ≡ Some (record { gateway = n; face = f.number }) = ap (λ j. nth j s.faces) (sym k_is) ∙ nth_of_number 1 n f.number s.faces placed in
        plain_face_knows cmp matching s fine agree trees (sound_gateways_keep cmp matching s sound) quiet equal_is_same k (record { gateway = n; rows = node.rows; face = f }) (numbered s k (record { gateway = n; face = f.number }) node f place_ at_ found) plain)
        node.rows.faces (found_by_number 1 node.rows.faces gateway.rows.lists.faces_rise) gateway.placed))

    turn_knows : (s : Fabric K) (t : Turn K) → t.after ≡ as_shown s → SoundFabric s → TreesAgree cmp matching s → FacesFormTrees s → KnowsTrees cmp matching t
    turn_knows s t is sound agree trees =
        subst (λ (u : Fabric K). are_links_empty u ≡ true → EachFace (λ n g f. is_plain u n f ≡ true → holds_both cmp matching f ≡ true → KnowsItsTree cmp matching u n f) u) (sym is)
        (λ quiet.
        each_gateway_changed (λ n (node : Node K). Each (λ f. is_plain s n f ≡ true → KnowsItsTree cmp matching s n f) node.rows.faces) (λ n (node : Node K). Each (λ f. is_plain s n f ≡ true → holds_both cmp matching f ≡ true → KnowsItsTree cmp matching (as_shown s) n f) node.rows.faces) node_shown
        (λ n node all. each_weaker (λ f. is_plain s n f ≡ true → KnowsItsTree cmp matching s n f) (λ f. is_plain s n f ≡ true → holds_both cmp matching f ≡ true → KnowsItsTree cmp matching (as_shown s) n f) (λ f knows plain both. knows_shown s n f (knows plain)) node.rows.faces all)
        1 s.gateways (faces_know s sound agree trees quiet))

    pub not_spent : (e : PlainEntry K) → (let b : Bool = elim e [ Ok ms ↦ false | Err r ↦ number_of r == 24 ] in b) ≡ false → e ≢ Err refusal.IdsSpent
    not_spent e fails is = never (ap (λ (x : PlainEntry K). (let b : Bool = elim x [ Ok ms ↦ false | Err r ↦ number_of r == 24 ] in b)) is) fails

    -- Knowledge after each turn, from a sound fabric of trees that agree.
    pub turns_know : (lines : List (PlainLine K)) (s : Fabric K) → Each HasFirstIds lines → SoundFabric s → TreesAgree cmp matching s
        → (let turns = turns_from cmp matching lines (entries_from cmp matching lines s) (as_shown s) in Each (LeavesTrees cmp matching) turns → Each (KnowsTrees cmp matching) turns)
    unfolding turns_from entries_from
    turns_know [] s real sound agree = λ trees. tt
    turns_know (line ∷ lines) s real sound agree =
        let entry = entry_of cmp matching line s in
        let next = fabric_after cmp matching line entry s in
        let is = fabric_is_shown cmp matching total line s sound.order in
        λ trees.
        let here : FacesFormTrees next = tree_unshown next (subst FacesFormTrees is trees.0.0) in
        let sound_next = sound_after_line cmp matching total equal_is_same line s real.0 sound in
        let agree_next = trees_after_each cmp matching total equal_is_same s sound.order agree line real.0 (not_spent entry trees.0.1) here in (
          turn_knows next (record { line = line; entry = entry; before = as_shown s; after = fabric_shown cmp matching line entry (as_shown s) }) is sound_next agree_next here,
          subst (λ (after : Fabric K). (let turns = turns_from cmp matching lines (entries_from cmp matching lines next) after in Each (LeavesTrees cmp matching) turns → Each (KnowsTrees cmp matching) turns)) (sym is) (turns_know lines next real.1 sound_next agree_next) trees.1,
        )

    -- Where gateways list client regions alone and refuse no pairs, after each turn, faces form trees.
    pub turns_form_trees : (lines : List (PlainLine K)) (s : Fabric K) → Each HasFirstIds lines → SoundFabric s → TreesAgree cmp matching s
        → (let turns = turns_from cmp matching lines (entries_from cmp matching lines s) (as_shown s) in Each (IsTreeTurn cmp matching) turns → Each (LeavesTrees cmp matching) turns)
    unfolding turns_from entries_from
    turns_form_trees [] s real sound agree = λ trees. tt
    turns_form_trees (line ∷ lines) s real sound agree =
        let entry = entry_of cmp matching line s in
        let next = fabric_after cmp matching line entry s in
        let is = fabric_is_shown cmp matching total line s sound.order in
        λ trees.
        let here : IsTreeFabric next = regions_unshown next (subst IsTreeFabric is trees.0.0) in
        let sound_next = sound_after_line cmp matching total equal_is_same line s real.0 sound in
        let agree_next = trees_after_any cmp matching total equal_is_same s sound.order agree line real.0 (not_spent entry trees.0.1) (may_by_regions next here) in (
          (subst FacesFormTrees (sym is) (tree_shown next (formed_by_regions cmp matching next agree_next here)), trees.0.1),
          subst (λ (after : Fabric K). (let turns = turns_from cmp matching lines (entries_from cmp matching lines next) after in Each (IsTreeTurn cmp matching) turns → Each (LeavesTrees cmp matching) turns)) (sym is) (turns_form_trees lines next real.1 sound_next agree_next) trees.1,
        )
