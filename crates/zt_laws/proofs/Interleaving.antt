-- Messages that are the same for each face change the same, in whatever order faces stand.
use Rattle.std.proofs.Common.{◌≡◌, ℕ, ◌+◌, ◌<◌, false, cond, ◌==◌, nat_le, List, [], ◌∷◌, ◌++◌, filter, refl, ap, ◌∙◌, arith, eqb-true, ne_eqb, leb-false}
use Rattle.std.specs.declared.cmp.Ordering.{Ordering}
use Rattle.zt_protocol.specs.declared.entries.Sent.{Sent}
use Rattle.zt_protocol.specs.declared.messages.Message.{Message}
use Rattle.zt_model.specs.Fabric.{Fabric, Node, after_hearing, gateways_after_hearing, number_of_place, printed_for, rows_after_hearing, sorted_by_face, with_sent, with_waiting}
use Rattle.zt_model.specs.Hearing.{heard_all, messages_for, rows_heard}
use Rattle.zt_model.specs.Rows.{ById, Face, Rows}
use Rattle.zt_model.specs.Says.{Sends}
use Rattle.zt_laws.proofs.Lists.{by_test, each_always, map_alike}

module _ {K : Type 0} where
  filter_with_sent : (n : ℕ) (m : Sent K) (ms : List (Sent K)) → filter (λ x. n == x.face) (with_sent m ms) ≡ filter (λ x. n == x.face) (m ∷ ms)
  unfolding with_sent
  filter_with_sent n m [] = refl
  filter_with_sent n m (x ∷ xs) =
      by_test (nat_le m.face x.face)
      (λ here. rw here refl)
      (λ here.
      let less : x.face < m.face = leb-false m.face x.face here in
      rw here
      (ap (λ rest. cond (n == x.face) (x ∷ rest) rest) (filter_with_sent n m xs)
      ∙ by_test (n == m.face)
      (λ own.
      let is : n ≡ m.face = eqb-true n m.face own in
      let miss : (n == x.face) ≡ false = ne_eqb n x.face (λ e. omega arith) in
      rw (own, miss) refl)
      (λ own. rw own refl)))

  -- the messages of a face are the same, in the same order
  pub filter_sorted : (n : ℕ) (ms : List (Sent K)) → filter (λ x. n == x.face) (sorted_by_face ms) ≡ filter (λ x. n == x.face) ms
  unfolding sorted_by_face
  filter_sorted n [] = refl
  filter_sorted n (m ∷ ms) = filter_with_sent n m (sorted_by_face ms) ∙ ap (λ rest. cond (n == m.face) (m ∷ rest) rest) (filter_sorted n ms)

  pub waiting_alike : (ms ns : List (Sent K)) (s : Fabric K) → ((n : ℕ) → printed_for n ms ≡ printed_for n ns) → with_waiting ms s ≡ with_waiting ns s
  waiting_alike ms ns s same_ =
      ap (λ (rows : ById (List (Message K))). record s { waiting = rows })
      (map_alike (λ row. (row.0, row.1 ++ printed_for row.0 ms)) (λ row. (row.0, row.1 ++ printed_for row.0 ns)) s.waiting
      (each_always (λ row. (row.0, row.1 ++ printed_for row.0 ms) ≡ (row.0, row.1 ++ printed_for row.0 ns)) (λ row. ap (λ xs. (row.0, row.1 ++ xs)) (same_ row.0)) s.waiting))

module _ {K : Type 0} (cmp : K → K → Ordering) where
  pub rows_alike : (ss ts : Sends K) (g : Rows K) → ((n : ℕ) → messages_for n ss ≡ messages_for n ts) → rows_heard cmp ss g ≡ rows_heard cmp ts g
  unfolding rows_heard
  rows_alike ss ts g same_ =
      ap (λ (fs : List (Face K)). record g { faces = fs })
      (map_alike (λ f. heard_all cmp g.moment (messages_for f.number ss) f) (λ f. heard_all cmp g.moment (messages_for f.number ts) f) g.faces
      (each_always (λ f. heard_all cmp g.moment (messages_for f.number ss) f ≡ heard_all cmp g.moment (messages_for f.number ts) f) (λ f. ap (λ ms. heard_all cmp g.moment ms f) (same_ f.number)) g.faces))

  module _ (ms ns : List (Sent K)) (s : Fabric K) (same_ : (n : ℕ) → printed_for n ms ≡ printed_for n ns) where
    gateway_alike : (k : ℕ) (g : Rows K) → rows_after_hearing cmp s ms k g ≡ rows_after_hearing cmp s ns k g
    gateway_alike k g =
        ap (λ (fs : List (Face K)). record g { faces = fs })
        (map_alike (λ f. heard_all cmp g.moment (printed_for (number_of_place s k f.number) ms) f) (λ f. heard_all cmp g.moment (printed_for (number_of_place s k f.number) ns) f) g.faces
        (each_always (λ f. heard_all cmp g.moment (printed_for (number_of_place s k f.number) ms) f ≡ heard_all cmp g.moment (printed_for (number_of_place s k f.number) ns) f)
        (λ f. ap (λ xs. heard_all cmp g.moment xs f) (same_ (number_of_place s k f.number))) g.faces))

    gateways_alike : (k : ℕ) (gs : List (Node K)) → gateways_after_hearing cmp s ms k gs ≡ gateways_after_hearing cmp s ns k gs
    unfolding gateways_after_hearing
    gateways_alike k [] = refl
    gateways_alike k (node ∷ gs) =
        ap (λ (g : Rows K). record node { rows = g } ∷ gateways_after_hearing cmp s ms (k + 1) gs) (gateway_alike k node.rows)
        ∙ ap (λ rest. record node { rows = rows_after_hearing cmp s ns k node.rows } ∷ rest) (gateways_alike (k + 1) gs)

    pub hearing_alike : after_hearing cmp ms s ≡ after_hearing cmp ns s
    hearing_alike = ap (λ (gs : List (Node K)). record s { gateways = gs }) (gateways_alike 1 s.gateways)
