-- The ask of an id at a face, as parts of calls change it.
use Rattle.std.proofs.Common.{◌≡◌, ℕ, Bool, true, false, not, ◌==◌, List, [], ◌∷◌, ◌++◌, map, Option, Some, None, refl, sym, ap, ◌∙◌, subst, eqb-true}
use Rattle.std.specs.declared.cmp.Ordering.{Ordering}
use Rattle.zt_protocol.specs.declared.messages.Message.{Message}
use Rattle.zt_protocol.specs.declared.messages.Message.TheVariants as message
use Rattle.zt_model.specs.Closing.{without_face}
use Rattle.zt_model.specs.Hearing.{heard, heard_all, messages_for, rows_heard, with_answer}
use Rattle.zt_model.specs.Lists.{first_where}
use Rattle.zt_model.specs.Rows.{Ask, Face, Rows}
use Rattle.zt_model.specs.Says.{Sends, find_face, to_each, to_face}
use Rattle.zt_model.specs.Transcript.{Each}
use Rattle.zt_laws.specs.Order.{HasRowsInOrder, RowsAreInOrder}
use Rattle.zt_laws.specs.Sound.{RiseFrom}
use Rattle.zt_laws.proofs.Hearing.{find_each, find_none, find_passes, heard_all-number, messages_for_each, messages_for_none}
use Rattle.zt_laws.proofs.Lists.{by_test, of_cond, rise_filter, rise_map}
use Rattle.zt_laws.proofs.PartsOrder.{each_message_for, rise_without_id}
use Rattle.zt_theorem_finals.proofs.Asks.{LeavesAsks}
use Rattle.zt_theorem_finals.proofs.Closing.{find_filtered}
use Rattle.zt_theorem_finals.proofs.Initial.{to_face_none, to_face_own}
use Rattle.zt_theorem_replies.proofs.Due.{IsSilent, answered_at, are_due, heard_state, silent_state, state_after}

-- a face that is found among changed ones was found before
pub mapped_back : {K : Type 0} (n : ℕ) (change : Face K → Face K) (fs : List (Face K)) (k : Face K) → ((f : Face K) → (change f).number ≡ f.number) → first_where (λ f. n == f.number) (map change fs) ≡ Some k
    → (f : Face K) × (first_where (λ f. n == f.number) fs ≡ Some f) × (change f ≡ k)
mapped_back n change [] k number_ found = cc
mapped_back n change (f ∷ fs) k number_ found =
    let same_ : (n == (change f).number) ≡ (n == f.number) = ap (λ j. n == j) (number_ f) in
    by_test (n == f.number)
    (λ here.
    let there : (n == (change f).number) ≡ true = same_ ∙ here in
    let e : Some (change f) ≡ Some k = rw there at found in
    (f, rw here refl, cc))
    (λ here.
    let there : (n == (change f).number) ≡ false = same_ ∙ here in
    let later = mapped_back n change fs k number_ (rw there at found) in
    (later.0, rw here later.1, later.2))

-- asks stay in order of id
asks_rise_heard : {K : Type 0} (cmp : K → K → Ordering) (now : ℕ) (ms : List (Message K)) (f : Face K) → RiseFrom (λ row. row.0) 0 f.asks → RiseFrom (λ row. row.0) 0 (heard_all cmp now ms f).asks
unfolding heard_all
asks_rise_heard cmp now [] f rises = rises
asks_rise_heard {K} cmp now (m ∷ ms) f rises = asks_rise_heard cmp now ms (heard cmp now m f) (one m)
  where
    one : (m : Message K) → RiseFrom (λ row. row.0) 0 (heard cmp now m f).asks
    one (message.DeclareToken number e None node) = rises
    one (message.DeclareToken number e (Some i) node) =
        rise_map (λ row. row.0) 0 (with_answer cmp i e) f.asks (λ row. of_cond (λ (r : ℕ × Ask K). r.0 ≡ row.0) _ (row.0, record row.1 { answered = row.1.answered ++ e ∷ [] }) row (λ _. refl) (λ _. refl)) rises
    one (message.UndeclareToken number e node) = rises
    one (message.DeclareFinal i) = rise_without_id i f.asks rises
    one (message.Interest number mode options e) = rises
    one (message.InterestFinal number) = rises
    one (message.DeclareSubscriber number e i) = rises
    one (message.DeclareQueryable number e info i) = rises

module _ {K : Type 0} (cmp : K → K → Ordering) (matching : K → K → Bool) (n id : ℕ) where
  -- where the face is open, its ask of the id was answered so
  pub record AskIs (s : Option (List K)) (g : Rows K) : Type 0 where
    pub rises : RiseFrom (λ f. f.number) 1 g.faces
    pub own : (f : Face K) → find_face n g ≡ Some f → (answered_at cmp id f.asks ≡ s) × RiseFrom (λ row. row.0) 0 f.asks

  -- what the ask of the id was answered
  abbrev pub state_in : Rows K → Option (List K)
  state_in g = elim (find_face n g) [ None ↦ None | Some f ↦ answered_at cmp id f.asks ]

  pub ask_in : (g : Rows K) → RowsAreInOrder cmp matching g → AskIs (state_in g) g
  ask_in g ordered = record {
    rises = ordered.lists.faces_rise;
    own = λ f found. (
      sym (ap (λ (o : Option (Face K)). (let s : Option (List K) = elim o [ None ↦ None | Some f ↦ answered_at cmp id f.asks ] in s)) found),
      (find_each HasRowsInOrder (λ f. n == f.number) g.faces f ordered.lists.rows found).asks,
    );
  }

  -- messages
  pub ask_heard : (s : Option (List K)) (ss : Sends K) (g : Rows K) → AskIs s g → AskIs (state_after cmp id (messages_for n ss) s) (rows_heard cmp ss g)
  unfolding rows_heard
  ask_heard s ss g is = record { rises = rise_map (λ f. f.number) 1 hears g.faces number_ is.rises; own = own }
    where
      hears : Face K → Face K
      hears f = heard_all cmp g.moment (messages_for f.number ss) f

      number_ : (f : Face K) → (hears f).number ≡ f.number
      number_ f = heard_all-number cmp g.moment (messages_for f.number ss) f

      own : (k : Face K) → first_where (λ f. n == f.number) (map hears g.faces) ≡ Some k → (answered_at cmp id k.asks ≡ state_after cmp id (messages_for n ss) s) × RiseFrom (λ row. row.0) 0 k.asks
      own k found =
          let back = mapped_back n hears g.faces k number_ found in
          let f = back.0 in
          let before = is.own f back.1 in
          let is_n : f.number ≡ n = sym (eqb-true n f.number (find_passes (λ f. n == f.number) g.faces f back.1)) in (
            ap (λ (x : Face K). answered_at cmp id x.asks) (sym back.2)
                ∙ heard_state cmp id g.moment (messages_for f.number ss) f
                ∙ ap (λ j. state_after cmp id (messages_for j ss) (answered_at cmp id f.asks)) is_n
                ∙ ap (state_after cmp id (messages_for n ss)) before.0,
            subst (λ (x : Face K). RiseFrom (λ row. row.0) 0 x.asks) back.2 (asks_rise_heard cmp g.moment (messages_for f.number ss) f before.1),
          )

  pub ask_heard_silent : (s : Option (List K)) (ss : Sends K) (g : Rows K) → Each (λ t. IsSilent cmp id t.1) ss → AskIs s g → AskIs s (rows_heard cmp ss g)
  ask_heard_silent s ss g silent is =
      subst (λ t. AskIs t (rows_heard cmp ss g)) (silent_state cmp id (messages_for n ss) s (each_message_for cmp (IsSilent cmp id) n ss silent)) (ask_heard s ss g is)

  -- changes that leave asks
  pub ask_left : (but : ℕ → Bool) (s : Option (List K)) (g h : Rows K) → but n ≡ false → LeavesAsks cmp but g h → AskIs s g → AskIs s h
  ask_left but s g h apart leaves is = record {
    rises = subst (RiseFrom (λ (f : Face K). f.number) 1) (sym leaves.faces) (rise_map (λ f. f.number) 1 leaves.change g.faces leaves.number is.rises);
    own = λ k found.
        let back = mapped_back n leaves.change g.faces k leaves.number (subst (λ (fs : List (Face K)). first_where (λ f. n == f.number) fs ≡ Some k) leaves.faces found) in
        let f = back.0 in
        let before = is.own f back.1 in
        let is_n : n ≡ f.number = eqb-true n f.number (find_passes (λ f. n == f.number) g.faces f back.1) in
        let asks_ : f.asks ≡ k.asks = sym (leaves.asks f (ap but (sym is_n) ∙ apart)) ∙ ap (λ (x : Face K). x.asks) back.2 in
        (ap (answered_at cmp id) (sym asks_) ∙ before.0, subst (RiseFrom (λ row. row.0) 0) asks_ before.1);
  }

  -- another face goes
  pub ask_without : (k : ℕ) (s : Option (List K)) (g : Rows K) → (k == n) ≡ false → AskIs s g → AskIs s (without_face k g)
  ask_without k s g other is = record {
    rises = rise_filter (λ f. f.number) 1 (λ f. not (k == f.number)) g.faces is.rises;
    own = λ f found. is.own f (sym (find_filtered k n g.faces other) ∙ found);
  }

  -- ---- what the face is sent by rules

  pub each_due : (s : Option (List K)) (rule : Face K → List (Message K)) (g : Rows K) → AskIs s g
      → ((f : Face K) → answered_at cmp id f.asks ≡ s → RiseFrom (λ row. row.0) 0 f.asks → are_due cmp id (rule f) s ≡ true)
      → are_due cmp id (messages_for n (to_each rule g.faces)) s ≡ true
  each_due s rule g is one = cases (find_face n g) refl
    where
      cases : (o : Option (Face K)) → find_face n g ≡ o → are_due cmp id (messages_for n (to_each rule g.faces)) s ≡ true
      cases None found = ap (λ (ms : List (Message K)). are_due cmp id ms s) (messages_for_none n rule g.faces (find_none (λ f. n == f.number) g.faces found))
      cases (Some f) found =
          let asks = is.own f found in
          let is_n : n ≡ f.number = eqb-true n f.number (find_passes (λ f. n == f.number) g.faces f found) in
          ap (λ (ms : List (Message K)). are_due cmp id ms s)
          (ap (λ j. messages_for j (to_each rule g.faces)) is_n ∙ find_each (λ f. messages_for f.number (to_each rule g.faces) ≡ rule f) (λ f. n == f.number) g.faces f (messages_for_each 1 rule g.faces is.rises) found)
          ∙ one f asks.0 asks.1

  pub face_due : (s : Option (List K)) (k : ℕ) (rule : Face K → List (Message K)) (g : Rows K) → AskIs s g
      → ((f : Face K) → (n == k) ≡ true → answered_at cmp id f.asks ≡ s → are_due cmp id (rule f) s ≡ true)
      → are_due cmp id (messages_for n (to_face k rule g)) s ≡ true
  unfolding to_face messages_for
  face_due s k rule g is one =
      by_test (n == k)
      (λ own. subst (λ j. are_due cmp id (messages_for n (to_face j rule g)) s ≡ true) (eqb-true n k own) (mine own (find_face n g) refl))
      (λ other. ap (λ (ms : List (Message K)). are_due cmp id ms s) (to_face_none n k rule g other))
    where
      mine : (n == k) ≡ true → (o : Option (Face K)) → find_face n g ≡ o → are_due cmp id (messages_for n (to_face n rule g)) s ≡ true
      mine own None found = ap (λ (o : Option (Face K)). (let ss : Sends K = elim o [ None ↦ [] | Some f ↦ map (λ m. (n, m)) (rule f) ] in are_due cmp id (messages_for n ss) s)) found
      mine own (Some f) found = ap (λ (ms : List (Message K)). are_due cmp id ms s) (to_face_own n rule g f found) ∙ one f own (is.own f found).0
