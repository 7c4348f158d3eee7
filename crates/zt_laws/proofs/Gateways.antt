-- The printed messages of a call change the rows of its gateway as the call's sends do, and no other rows.
use Rattle.std.proofs.Common.{◌≡◌, ◌≢◌, ℕ, ◌+◌, ◌-◌, ◌≤◌, ◌<◌, true, cond, ◌==◌, List, [], ◌∷◌, map, Some, refl, sym, ap, ◌∙◌, subst, arith, eqb-true}
use Rattle.std.proofs.lemmas.Bool.{eqb-false}
use Rattle.std.specs.declared.cmp.Ordering.{Ordering}
use Rattle.zt_protocol.specs.declared.entries.Sent.{Sent}
use Rattle.zt_model.specs.Fabric.{Fabric, Node, Place, after_hearing, at_nth, gateways_after_hearing, number_from, number_of_place, printed_for, rows_after_hearing, sorted_by_face, with_rows}
use Rattle.zt_model.specs.Hearing.{heard_all, messages_for, rows_heard}
use Rattle.zt_model.specs.Lists.{nth}
use Rattle.zt_model.specs.Rows.{Face, Rows}
use Rattle.zt_model.specs.Says.{Sends}
use Rattle.zt_model.specs.Transcript.{Each}
use Rattle.zt_laws.specs.Sound.{EachFrom, is_placed}
use Rattle.zt_laws.proofs.Lists.{by_test, each_always, each_weaker, map_alike, map_same}
use Rattle.zt_laws.proofs.Numbered.{nth_real}
use Rattle.zt_laws.proofs.Sorting.{printed, printed_for_other, printed_for_own, printed_sorted}

-- the faces of a gateway's rows have numbers in scripts
abbrev pub FacesArePlaced : {K : Type 0} → List Place → ℕ → Rows K → Type 0
FacesArePlaced places n g = Each (λ f. is_placed n f.number places ≡ true) g.faces

-- The messages `ms` are those that the n-th gateway sends by `ss`, with their numbers in scripts.
pub record PrintsSends {K : Type 0} (places : List Place) (n : ℕ) (ss : Sends K) (ms : List (Sent K)) : Type 0 where
  pub own : (f : ℕ) → is_placed n f places ≡ true → printed_for (number_from 1 n f places) ms ≡ messages_for f ss
  pub other : (m f : ℕ) → m ≢ n → is_placed m f places ≡ true → printed_for (number_from 1 m f places) ms ≡ []

pub prints_map : {K : Type 0} (places : List Place) (n : ℕ) (ss : Sends K) → PrintsSends places n ss (map (printed places n) ss)
prints_map places n ss = record { own = λ f there. printed_for_own places n f ss there; other = λ m f apart there. printed_for_other places n m f ss apart there }

-- sorted or not
pub prints_sorted : {K : Type 0} (places : List Place) (n : ℕ) (ss : Sends K) → PrintsSends places n ss (sorted_by_face (map (printed places n) ss))
prints_sorted places n ss = record {
  own = λ f there. printed_sorted (number_from 1 n f places) (map (printed places n) ss) ∙ printed_for_own places n f ss there;
  other = λ m f apart there. printed_sorted (number_from 1 m f places) (map (printed places n) ss) ∙ printed_for_other places n m f ss apart there;
}

module _ {K : Type 0} (cmp : K → K → Ordering) where
  -- ---- nothing is heard

  gateways_hear_nothing : (s : Fabric K) (k : ℕ) (gs : List (Node K)) → gateways_after_hearing cmp s [] k gs ≡ gs
  unfolding gateways_after_hearing printed_for heard_all
  gateways_hear_nothing s k [] = refl
  gateways_hear_nothing s k (node ∷ gs) =
      let first : map (λ f. f) node.rows.faces ≡ node.rows.faces = map_same (λ f. f) node.rows.faces (each_always (λ f. f ≡ f) (λ f. refl) node.rows.faces) in
      ap (λ (fs : List (Face K)). record node { rows = record node.rows { faces = fs } } ∷ gateways_after_hearing cmp s [] (k + 1) gs) first
      ∙ ap (λ rest. node ∷ rest) (gateways_hear_nothing s (k + 1) gs)

  pub after_hearing_nothing : (s : Fabric K) → after_hearing cmp [] s ≡ s
  after_hearing_nothing s = ap (λ (gs : List (Node K)). record s { gateways = gs }) (gateways_hear_nothing s 1 s.gateways)

  -- ---- one gateway's messages are heard

  module _ (s : Fabric K) (n : ℕ) (ss : Sends K) (ms : List (Sent K)) (prints : PrintsSends s.faces n ss ms) where
    heard_own : (g : Rows K) → FacesArePlaced s.faces n g → rows_after_hearing cmp s ms n g ≡ rows_heard cmp ss g
    unfolding rows_heard
    heard_own g placed =
        ap (λ (fs : List (Face K)). record g { faces = fs })
        (map_alike (λ f. heard_all cmp g.moment (printed_for (number_of_place s n f.number) ms) f) (λ f. heard_all cmp g.moment (messages_for f.number ss) f) g.faces
        (each_weaker (λ f. is_placed n f.number s.faces ≡ true) (λ f. heard_all cmp g.moment (printed_for (number_of_place s n f.number) ms) f ≡ heard_all cmp g.moment (messages_for f.number ss) f)
        (λ f there. ap (λ xs. heard_all cmp g.moment xs f) (prints.own f.number there)) g.faces placed))

    heard_other : (m : ℕ) (g : Rows K) → m ≢ n → FacesArePlaced s.faces m g → rows_after_hearing cmp s ms m g ≡ g
    unfolding heard_all
    heard_other m g apart placed =
        ap (λ (fs : List (Face K)). record g { faces = fs })
        (map_same (λ f. heard_all cmp g.moment (printed_for (number_of_place s m f.number) ms) f) g.faces
        (each_weaker (λ f. is_placed m f.number s.faces ≡ true) (λ f. heard_all cmp g.moment (printed_for (number_of_place s m f.number) ms) f ≡ f)
        (λ f there. ap (λ xs. heard_all cmp g.moment xs f) (prints.other m f.number apart there)) g.faces placed))

    heard_beyond : (k : ℕ) (gs : List (Node K)) → n < k → EachFrom (λ j (node : Node K). FacesArePlaced s.faces j node.rows) k gs → gateways_after_hearing cmp s ms k gs ≡ gs
    unfolding gateways_after_hearing
    heard_beyond k [] beyond placed = refl
    heard_beyond k (node ∷ gs) beyond placed =
        ap (λ (g : Rows K). record node { rows = g } ∷ gateways_after_hearing cmp s ms (k + 1) gs) (heard_other k node.rows (λ e. omega arith) placed.0)
        ∙ ap (λ rest. node ∷ rest) (heard_beyond (k + 1) gs (omega arith) placed.1)

    heard_at : (change : Rows K → Rows K) (k m : ℕ) (gs : List (Node K)) → 1 ≤ m → k + m ≡ n + 1
        → ((node : Node K) → nth m gs ≡ Some node → FacesArePlaced s.faces n (change node.rows))
        → EachFrom (λ j (node : Node K). FacesArePlaced s.faces j node.rows) k gs
        → gateways_after_hearing cmp s ms k (at_nth m (λ node. record node { rows = change node.rows }) gs) ≡ at_nth m (λ node. record node { rows = rows_heard cmp ss (change node.rows) }) gs
    unfolding gateways_after_hearing
    heard_at change k m [] real count changed placed = refl
    heard_at change k m (node ∷ gs) real count changed placed =
        by_test (m == 1)
        (λ here.
        let one : m ≡ 1 = eqb-true m 1 here in
        let number_ : n ≡ k = omega arith in
        let at_node : nth m (node ∷ gs) ≡ Some node = ap (λ b. cond b (Some node) (nth (m - 1) gs)) here in
        rw here
        (ap (λ j. record node { rows = rows_after_hearing cmp s ms j (change node.rows) } ∷ gateways_after_hearing cmp s ms (k + 1) gs) (sym number_)
        ∙ ap (λ (g : Rows K). record node { rows = g } ∷ gateways_after_hearing cmp s ms (k + 1) gs) (heard_own (change node.rows) (changed node at_node))
        ∙ ap (λ rest. record node { rows = rows_heard cmp ss (change node.rows) } ∷ rest) (heard_beyond (k + 1) gs (omega arith) placed.1)))
        (λ here.
        let more : m ≡ 1 → ⊥ = eqb-false m 1 here in
        let real_ : 1 ≤ m - 1 = omega arith in
        rw here
        (ap (λ (g : Rows K). record node { rows = g } ∷ gateways_after_hearing cmp s ms (k + 1) (at_nth (m - 1) (λ node. record node { rows = change node.rows }) gs)) (heard_other k node.rows (λ e. more (omega arith)) placed.0)
        ∙ ap (λ rest. node ∷ rest) (heard_at change (k + 1) (m - 1) gs real_ (omega arith) (λ x at_. changed x (ap (λ b. cond b (Some node) (nth (m - 1) gs)) here ∙ at_)) placed.1)))

    -- The fabric after the messages of a call of the n-th gateway: that gateway's rows hear what was sent, and no
    -- other rows change.
    pub after_hearing_sends : (change : Rows K → Rows K) (node : Node K) → nth n s.gateways ≡ Some node
        → FacesArePlaced s.faces n (change node.rows)
        → EachFrom (λ j (node : Node K). FacesArePlaced s.faces j node.rows) 1 s.gateways
        → after_hearing cmp ms (with_rows n change s) ≡ with_rows n (λ g. rows_heard cmp ss (change g)) s
    unfolding gateways_after_hearing
    after_hearing_sends change node at_ changed placed =
        ap (λ (gs : List (Node K)). record s { gateways = gs })
        (gateways_alike 1 (at_nth n (λ node. record node { rows = change node.rows }) s.gateways)
        ∙ heard_at change 1 n s.gateways (nth_real n s.gateways node at_) (omega arith)
        (λ other is. let e : Some node ≡ Some other = sym at_ ∙ is in let same_ : node ≡ other = cc in subst (λ (x : Node K). FacesArePlaced s.faces n (change x.rows)) same_ changed)
        placed)
      where
        gateways_alike : (k : ℕ) (gs : List (Node K)) → gateways_after_hearing cmp (with_rows n change s) ms k gs ≡ gateways_after_hearing cmp s ms k gs
        gateways_alike k gs = refl
