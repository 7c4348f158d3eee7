-- Each final of a turn is that of an ask, or that of a new mutual peer.
use Rattle.std.proofs.Common.{◌≡◌, ◌≢◌, ℕ, ◌+◌, ◌≤◌, ◌<◌, Bool, true, false, not, ◌&&◌, ◌||◌, ◌==◌, List, [], ◌∷◌, ◌++◌, length, map, filter, Option, Some, None, is_some, refl, sym, ap, ◌∙◌, subst, arith, append-nil, eqb-true, eq-eqb, ne_eqb}
use Rattle.std.proofs.lemmas.Bool.{not-true}
use Rattle.std.specs.Cmp.{IsTotalOrder}
use Rattle.std.specs.List.{list_any}
use Rattle.std.specs.declared.cmp.Ordering.{Ordering}
use Rattle.zt_region.specs.declared.region.Bound.{Bound}
use Rattle.zt_region.specs.declared.region.Region.{Region}
use Rattle.zt_region.specs.declared.region.WhatAmI.{WhatAmI}
use Rattle.zt_region.specs.declared.region.Zid.{Zid}
use Rattle.zt_protocol.specs.Plain.{PlainCall, NewSession, NewTransport, CloseFace, PlainLine}
use Rattle.zt_protocol.specs.declared.entries.Sent.{Sent}
use Rattle.zt_protocol.specs.declared.messages.Message.{Message}
use Rattle.zt_protocol.specs.declared.messages.Message.TheVariants as message
use Rattle.zt_model.specs.Closing.{closing}
use Rattle.zt_model.specs.Fabric.{CallAt, Fabric, Node, Place, after_hearing, both_ends, closed_ends, entries_from, next_face, number_from, number_of_place, opened_ends, printed_for, rows_after_hearing, said_closing, said_opening, sorted_by_face, with_place, with_rows}
use Rattle.zt_model.specs.Hearing.{heard_all, messages_for, rows_heard}
use Rattle.zt_model.specs.Linking.{link_ends}
use Rattle.zt_model.specs.Lists.{has_id, is_some_and, nth}
use Rattle.zt_model.specs.Promises.{IsFinalOfSome, Turn, finals_in, is_final_of, is_open_face, printed, turns_from, with_line}
use Rattle.zt_model.specs.Routing.{face_opened, interests_from, opened, opening_final, opening_interests, opening_tokens, tokens_from}
use Rattle.zt_model.specs.Rows.{Face, Rows}
use Rattle.zt_model.specs.Says.{Part, Sends, altered, altered_by, find_face, parts_of, said, said_by, to_face}
use Rattle.zt_model.specs.Transcript.{Each, FaceAt, face_numbered}
use Rattle.zt_laws.specs.Order.{FabricIsInOrder, RowsAreInOrder}
use Rattle.zt_laws.specs.Shown.{as_shown, node_shown, without_own}
use Rattle.zt_laws.specs.Sound.{HasFirstIds, is_placed, opens_face, rows_after_call}
use Rattle.zt_laws.proofs.AllLines.{starts_real}
use Rattle.zt_laws.proofs.CallsOrder.{altered_faces}
use Rattle.zt_laws.proofs.Entries.{found_where}
use Rattle.zt_laws.proofs.Gateways.{prints_sorted}
use Rattle.zt_laws.proofs.Hearing.{each_ruled_one, find_each, find_passes, heard_all-number, heard_all_leaves, messages_for-append}
use Rattle.zt_laws.proofs.LinesOrder.{faces_placed, faces_still_placed, gateway_in_order, opened_faces}
use Rattle.zt_laws.proofs.Lists.{by_test, each_always, each_append, each_both, each_filter, each_from_weaker, each_map, each_passes, each_weaker, never}
use Rattle.zt_laws.proofs.Numbered.{each_from_nth, nth_within}
use Rattle.zt_laws.proofs.PartsOrder.{each_message_for, each_of_map}
use Rattle.zt_laws.proofs.Places.{number_of_nth, placed_new, placed_still}
use Rattle.zt_laws.proofs.Sorting.{printed as printed_at, sorted_each}
use Rattle.zt_laws.proofs.ToldFrom.{found_by_number}
use Rattle.zt_laws.proofs.Unlinking.{each_from_always, each_from_both}
use Rattle.zt_theorem_soundness.specs.Ran.{ran}
use Rattle.zt_theorem_soundness.proofs.ById.{find_mapped}
use Rattle.zt_theorem_soundness.proofs.CallsRun.{call_runs}
use Rattle.zt_theorem_visibility.proofs.Calls.{IsOfCalls, IsShownTurn, messages_at, turns_show}
use Rattle.zt_theorem_visibility.proofs.Faces.{FacesHave, faces_called}
use Rattle.zt_theorem_visibility.proofs.Future.{nth_map}
use Rattle.zt_theorem_visibility.proofs.Opened.{linked_go_on}
use Rattle.zt_theorem_visibility.proofs.Printed.{unlinked_go_on}
use Rattle.zt_theorem_visibility.proofs.Saying.{interests_say, tokens_say}
use Rattle.zt_theorem_transcript.proofs.Open.{IsOpen, call_said_open, closings_said_open, ends_said_open, keep_heard, opening_said_open}
use Rattle.zt_theorem_finals.proofs.Asks.{NoFinal, finals-append, none_final}
use Rattle.zt_theorem_finals.proofs.Calls.{closing_away}
use Rattle.zt_theorem_finals.proofs.Initial.{find_new, from_nth, heard-initial, heard_numbers, to_face_own}
use Rattle.zt_theorem_finals.proofs.Linked.{asks_are, asks_of, closed_asks, heard_back, opening_beyond, opening_speaks, openings_beyond, printed_beyond}
use Rattle.zt_theorem_finals.proofs.Silent.{Absent, Names, call_names, silent_closing}

no_ask : (a b : Bool) → (a || b) ≡ false → a ≡ false
no_ask true b none_ = never refl none_
no_ask false b none_ = refl

module _ {K : Type 0} where
  messages_none : (k n : ℕ) (ss : Sends K) → (k == n) ≡ false → Each (λ s. s.0 ≡ n) ss → messages_for k ss ≡ []
  unfolding messages_for
  messages_none k n [] apart all = refl
  messages_none k n (s ∷ ss) apart all = let miss : (k == s.0) ≡ false = ap (λ j. k == j) all.0 ∙ apart in rw miss (messages_none k n ss apart all.1)

  -- what is printed for a face has each of its messages
  printed_has : (ms : List (Sent K)) → Each (λ m. (id : ℕ) → finals_in id (printed_for m.face ms) ≡ 0 → is_final_of id m.message ≡ false) ms
  unfolding printed_for
  printed_has [] = tt
  printed_has (m ∷ ms) = (first, each_weaker (λ x. (id : ℕ) → finals_in id (printed_for x.face ms) ≡ 0 → is_final_of id x.message ≡ false) (λ x. (id : ℕ) → finals_in id (printed_for x.face (m ∷ ms)) ≡ 0 → is_final_of id x.message ≡ false) later ms (printed_has ms))
    where
      none_first : (id : ℕ) (x : Message K) (xs : List (Message K)) → finals_in id (x ∷ xs) ≡ 0 → (is_final_of id x ≡ false) × (finals_in id xs ≡ 0)
      none_first id x xs none_ =
          by_test (is_final_of id x)
          (λ here. let more : length (x ∷ filter (is_final_of id) xs) ≡ 0 = rw here at none_ in absurd (omega (arith, more)))
          (λ here. (here, rw here at none_))

      first : (id : ℕ) → finals_in id (printed_for m.face (m ∷ ms)) ≡ 0 → is_final_of id m.message ≡ false
      first id none_ = let own : (m.face == m.face) ≡ true = eq-eqb m.face m.face refl in (none_first id m.message (printed_for m.face ms) (rw own at none_)).0

      later : (x : Sent K) → ((id : ℕ) → finals_in id (printed_for x.face ms) ≡ 0 → is_final_of id x.message ≡ false) → (id : ℕ) → finals_in id (printed_for x.face (m ∷ ms)) ≡ 0 → is_final_of id x.message ≡ false
      later x one id none_ =
          by_test (x.face == m.face)
          (λ here. one id (none_first id m.message (printed_for x.face ms) (rw here at none_)).1)
          (λ here. one id (rw here at none_))

  -- an open face was made
  open_within : (s : Fabric K) (k : ℕ) → is_open_face (as_shown s) k ≡ true → k ≤ length s.faces
  unfolding face_numbered
  open_within s k open_ = by_place (nth k s.faces) refl
    where
      by_place : (o : Option Place) → nth k s.faces ≡ o → k ≤ length s.faces
      by_place None at_ =
          never open_
          (ap (λ (o : Option Place). is_some (let x : Option (FaceAt K) = elim o [
            | None ↦ None
            | Some p ↦ elim (nth p.gateway (map node_shown s.gateways)) [ None ↦ None | Some node ↦ elim (find_face p.face node.rows) [ None ↦ None | Some f ↦ Some (record { gateway = p.gateway; rows = node.rows; face = f }) ] ]
          ] in x)) at_)
      by_place (Some p) at_ = nth_within k s.faces p at_

  -- finals of the id 0 alone, and where the face has an initial interest
  abbrev Initial : ℕ → Rows K → Face K → List (Message K) → Type 0
  Initial j g f xs = (i : ℕ) → ((i == 0) && is_some f.initial) ≡ false → finals_in i xs ≡ 0

  -- a final of the id is one of an ask, or of a new mutual peer
  abbrev is_of_some : Fabric K → List Place → ℕ → Face K → ℕ → Bool
  is_of_some s places j f i = has_id i f.asks || ((i == 0) && (is_some f.initial && not (is_open_face (as_shown s) (number_from 1 j f.number places))))

  abbrev Named : Fabric K → List Place → ℕ → Rows K → Face K → List (Message K) → Type 0
  Named s places j g f xs = (i : ℕ) → is_of_some s places j f i ≡ false → finals_in i xs ≡ 0

  -- what is printed for new faces alone
  from_new : (s : Fabric K) (places : List Place) (ms : List (Sent K)) (ws : List (Node K)) → Each (λ m. length s.faces < m.face) ms → FacesHave Initial places ms ws → FacesHave (Named s places) places ms ws
  from_new s places ms ws beyond all =
      each_from_weaker (λ j (x : Node K). Each (λ f. Initial j x.rows f (printed_for (number_from 1 j f.number places) ms)) x.rows.faces) (λ j (x : Node K). Each (λ f. Named s places j x.rows f (printed_for (number_from 1 j f.number places) ms)) x.rows.faces)
      (λ j x own.
      each_weaker (λ f. Initial j x.rows f (printed_for (number_from 1 j f.number places) ms)) (λ f. Named s places j x.rows f (printed_for (number_from 1 j f.number places) ms))
      (λ f one i none_.
      let k = number_from 1 j f.number places in
      by_test (is_open_face (as_shown s) k)
      (λ open_. ap (finals_in i) (printed_beyond k (length s.faces) ms (open_within s k open_) beyond))
      (λ shut. one i (fresh (has_id i f.asks) (i == 0) (is_some f.initial) (is_open_face (as_shown s) k) shut none_)))
      x.rows.faces own) 1 ws all
    where
      fresh : (a b c d : Bool) → d ≡ false → (a || (b && (c && not d))) ≡ false → (b && c) ≡ false
      fresh true b c d shut none_ = never refl none_
      fresh false true true d shut none_ = never (ap not shut) none_
      fresh false true false d shut none_ = refl
      fresh false false c d shut none_ = refl

module _ {K : Type 0} (cmp : K → K → Ordering) (matching : K → K → Bool) where
  none_printed : (s : Fabric K) (places : List Place) (gs : List (Node K)) → FacesHave (Named s places) places [] gs
  unfolding printed_for
  none_printed s places gs = each_from_always (λ j (x : Node K). Each (λ f. Named s places j x.rows f []) x.rows.faces) (λ j x. each_always (λ f. Named s places j x.rows f []) (λ f i none_. refl) x.rows.faces) 1 gs

  -- ---- openings

  -- what an opening says
  opening_named : (zid : Zid) (whatami : WhatAmI) (region : Region) (bound : Bound) (first : ℕ) (g : Rows K) → RowsAreInOrder cmp matching g
      → (let c : PlainCall K = NewTransport zid whatami region bound first in Each (λ f. Initial 0 g f (messages_for f.number (said cmp matching c g))) (altered cmp matching c g).faces)
  unfolding parts_of altered_by said_by rows_heard
  opening_named zid whatami region bound first g ordered =
      each_append (λ f. Initial 0 g f (messages_for f.number ss)) g.faces (new_ ∷ [])
      (each_weaker (λ f. f.number ≤ g.made) (λ f. Initial 0 g f (messages_for f.number ss)) (λ f low i none_. ap (finals_in i) (messages_none f.number made ss (ne_eqb f.number made (λ e. omega (arith, e, low))) (opening_speaks cmp matching zid whatami region bound first g))) g.faces ordered.lists.faces_made)
      (newest, tt)
    where
      made : ℕ
      made = g.made + 1

      new_ : Face K
      new_ = face_opened zid whatami region bound first g

      one : Rows K
      one = opened zid whatami region bound first g

      s1 : Sends K
      s1 = to_face made (λ f. interests_from f.next (opening_interests cmp matching one f)) one

      h1 : Rows K
      h1 = rows_heard cmp s1 one

      s2 : Sends K
      s2 = to_face made (λ f. tokens_from f.next (opening_tokens cmp matching h1 f)) h1

      h2 : Rows K
      h2 = rows_heard cmp s2 h1

      s3 : Sends K
      s3 = to_face made (opening_final cmp matching) h2

      ss : Sends K
      ss = s1 ++ (s2 ++ (s3 ++ []))

      found : find_face made one ≡ Some new_
      found = find_new made g.faces new_ (each_weaker (λ f. f.number ≤ g.made) (λ f. (made == f.number) ≡ false) (λ f low. ne_eqb made f.number (λ e. omega arith)) g.faces ordered.lists.faces_made) (eq-eqb made made refl)

      x1 : Face K
      x1 = heard_all cmp g.moment (messages_for new_.number s1) new_

      x2 : Face K
      x2 = heard_all cmp g.moment (messages_for x1.number s2) x1

      found2 : find_face made h2 ≡ Some x2
      found2 =
          find_mapped made (λ f. heard_all cmp g.moment (messages_for f.number s2) f) h1.faces x1 (λ f. heard_all-number cmp g.moment (messages_for f.number s2) f)
          (find_mapped made (λ f. heard_all cmp g.moment (messages_for f.number s1) f) one.faces new_ (λ f. heard_all-number cmp g.moment (messages_for f.number s1) f) found)

      initial2 : x2.initial ≡ new_.initial
      initial2 = heard_all_leaves cmp (λ (k : Face K). k.initial) (heard-initial cmp matching) g.moment (messages_for x1.number s2) x1 ∙ heard_all_leaves cmp (λ (k : Face K). k.initial) (heard-initial cmp matching) g.moment (messages_for new_.number s1) new_

      final_is : (i : ℕ) (o : Option Bool) → ((i == 0) && is_some o) ≡ false → finals_in i (let ms : List (Message K) = elim o [ None ↦ [] | Some finalised ↦ message.DeclareFinal 0 ∷ [] ] in ms) ≡ 0
      final_is i None none_ = refl
      final_is i (Some finalised) none_ = let apart : (i == 0) ≡ false = by_test (i == 0) (λ here. never (rw here refl) none_) (λ here. here) in rw apart refl

      summed : (x y z : ℕ) → x ≡ 0 → y ≡ 0 → z ≡ 0 → x + (y + z) ≡ 0
      summed x y z a b c = omega (arith, a, b, c)

      newest : Initial 0 g new_ (messages_for made ss)
      newest i none_ =
          ap (finals_in i) (messages_for-append made s1 (s2 ++ (s3 ++ [])) ∙ ap (λ xs. messages_for made s1 ++ xs) (messages_for-append made s2 (s3 ++ []) ∙ ap (λ ts. messages_for made s2 ++ messages_for made ts) (append-nil s3)))
          ∙ finals-append i (messages_for made s1) (messages_for made s2 ++ messages_for made s3)
          ∙ ap (λ c. finals_in i (messages_for made s1) + c) (finals-append i (messages_for made s2) (messages_for made s3))
          ∙ summed (finals_in i (messages_for made s1)) (finals_in i (messages_for made s2)) (finals_in i (messages_for made s3))
          (none_final i (messages_for made s1) (each_message_for cmp NoFinal made s1 (each_ruled_one NoFinal made (λ f. interests_from f.next (opening_interests cmp matching one f)) one (λ f. interests_say cmp matching NoFinal (λ i mode options e j. refl) f.next (opening_interests cmp matching one f)))))
          (none_final i (messages_for made s2) (each_message_for cmp NoFinal made s2 (each_ruled_one NoFinal made (λ f. tokens_from f.next (opening_tokens cmp matching h1 f)) h1 (λ f. tokens_say cmp matching NoFinal (λ i e j. refl) f.next (opening_tokens cmp matching h1 f)))))
          (ap (finals_in i) (to_face_own made (opening_final cmp matching) h2 x2 found2) ∙ final_is i x2.initial (ap (λ (o : Option Bool). (i == 0) && is_some o) initial2 ∙ none_))

  -- and after what was printed before it
  opening_step : (n : ℕ) (zid : Zid) (whatami : WhatAmI) (region : Region) (bound : Bound) (first : ℕ) (g : Rows K) → 1 ≤ first → RowsAreInOrder cmp matching g → (before : ℕ → List (Message K)) → before (g.made + 1) ≡ [] → Each (λ f. Initial n g f (before f.number)) g.faces
      → (let c : PlainCall K = NewTransport zid whatami region bound first in
      let h = rows_after_call cmp matching c g in
      Each (λ f. Initial n h f (before f.number ++ messages_for f.number (said cmp matching c g))) h.faces)
  unfolding parts_of altered_by rows_heard
  opening_step n zid whatami region bound first g real ordered before none_ all =
      let c : PlainCall K = NewTransport zid whatami region bound first in
      let a = altered cmp matching c g in
      let ss = said cmp matching c g in
      let hears = λ (f : Face K). heard_all cmp a.moment (messages_for f.number ss) f in
      let new_ = face_opened zid whatami region bound first g in
      each_map (λ f. Initial n g f (before f.number ++ messages_for f.number ss)) hears a.faces
      (each_both (λ f. Initial n g f (before f.number)) (λ f. Initial 0 g f (messages_for f.number ss)) (λ f. Initial n g (hears f) (before (hears f).number ++ messages_for (hears f).number ss))
      (λ f one two i none_of.
      let number_ = heard_all-number cmp a.moment (messages_for f.number ss) f in
      let initial_ : (hears f).initial ≡ f.initial = heard_all_leaves cmp (λ (k : Face K). k.initial) (heard-initial cmp matching) a.moment (messages_for f.number ss) f in
      let none__ : ((i == 0) && is_some f.initial) ≡ false = sym (ap (λ (o : Option Bool). (i == 0) && is_some o) initial_) ∙ none_of in
      ap (λ k. finals_in i (before k ++ messages_for k ss)) number_ ∙ finals-append i (before f.number) (messages_for f.number ss) ∙ both (finals_in i (before f.number)) (finals_in i (messages_for f.number ss)) (one i none__) (two i none__))
      a.faces (each_append (λ f. Initial n g f (before f.number)) g.faces (new_ ∷ []) all ((λ i none_of. ap (finals_in i) none_), tt)) (opening_named zid whatami region bound first g ordered))
    where
      both : (x y : ℕ) → x ≡ 0 → y ≡ 0 → x + y ≡ 0
      both x y one two = omega (arith, one, two)

  module _ (total : IsTotalOrder cmp) where
    abbrev Comes : Fabric K → List (CallAt K) → List (Sent K) → List Place → List (Node K) → List (Node K) → Type 0
    Comes s calls ms places ws gs = FacesHave (Named s places) places ms ws × Each (IsOpen places ws) ms

    called : (n : ℕ) (node : Node K) (c : PlainCall K) (s : Fabric K) → nth n s.gateways ≡ Some node → opens_face c ≡ false → FabricIsInOrder cmp matching s
        → FacesHave (Named s s.faces) s.faces (messages_at cmp matching s.faces n c node) (with_rows n (altered cmp matching c) s).gateways
    called n node c s at_ still fine =
        let ss = said cmp matching c node.rows in
        let a = altered cmp matching c node.rows in
        let gateway = gateway_in_order cmp matching s n node at_ fine in
        let placed = altered_faces cmp matching total (λ k. is_placed n k s.faces ≡ true) c node.rows still gateway.rows.lists gateway.placed in
        faces_called (Named s s.faces) n node (altered cmp matching c) s.faces ss (messages_at cmp matching s.faces n c node) s.gateways (prints_sorted s.faces n ss) at_ placed.0
        (each_weaker (λ f. Names cmp matching (parts_of cmp matching c node.rows) node.rows f.number f.asks) (λ f. Named s s.faces n a f (messages_for f.number ss)) (λ f names i none_. names i (no_ask (has_id i f.asks) _ none_)) a.faces (call_names cmp matching c node.rows still gateway.rows))
        (faces_placed cmp matching s fine) (each_from_always (λ j (x : Node K). j ≢ n → Each (λ f. Named s s.faces j x.rows f []) x.rows.faces) (λ j x apart. each_always (λ f. Named s s.faces j x.rows f []) (λ f i none_. refl) x.rows.faces) 1 s.gateways)

    transported : (n : ℕ) (node : Node K) (zid : Zid) (whatami : WhatAmI) (region : Region) (bound : Bound) (first : ℕ) (s : Fabric K) → nth n s.gateways ≡ Some node → FabricIsInOrder cmp matching s
        → (let c : PlainCall K = NewTransport zid whatami region bound first in
        let places = (with_place n s).faces in FacesHave (Named s places) places (messages_at cmp matching places n c node) (with_rows n (altered cmp matching c) s).gateways)
    transported n node zid whatami region bound first s at_ fine =
        let c : PlainCall K = NewTransport zid whatami region bound first in
        let g = node.rows in
        let ss = said cmp matching c g in
        let a = altered cmp matching c g in
        let gateway = gateway_in_order cmp matching s n node at_ fine in
        let p : Place = record { gateway = n; face = next_face (nth n s.gateways) } in
        let places = s.faces ++ p ∷ [] in
        let p_face : p.face ≡ g.made + 1 = ap next_face at_ in
        let new_ : is_placed n (g.made + 1) places ≡ true = subst (λ k. is_placed n k places ≡ true) p_face (placed_new n p.face s.faces) in
        let placed = opened_faces cmp matching total (λ k. is_placed n k places ≡ true) c g refl new_ (each_weaker (λ f. is_placed n f.number s.faces ≡ true) (λ f. is_placed n f.number places ≡ true) (λ f there. placed_still n f.number s.faces p there) g.faces gateway.placed) in
        let ms = messages_at cmp matching places n c node in
        let ws = (with_rows n (altered cmp matching c) s).gateways in
        from_new s places ms ws (sorted_each (λ m. length s.faces < m.face) (map (printed_at places n) ss) (opening_beyond cmp matching n zid whatami region bound first node s at_ fine))
        (faces_called Initial n node (altered cmp matching c) places ss ms s.gateways (prints_sorted places n ss) at_ placed.0
        (each_weaker (λ f. Initial 0 g f (messages_for f.number ss)) (λ f. Initial n a f (messages_for f.number ss)) (λ f one. one) a.faces (opening_named zid whatami region bound first g gateway.rows)) (faces_still_placed cmp matching p s fine)
        (each_from_always (λ j (x : Node K). j ≢ n → Each (λ f. Initial j x.rows f []) x.rows.faces) (λ j x apart. each_always (λ f. Initial j x.rows f []) (λ f i none_. refl) x.rows.faces) 1 s.gateways))

    initial_first : (s : Fabric K) → FacesHave Initial s.faces [] s.gateways
    unfolding printed_for
    initial_first s = each_from_always (λ j (x : Node K). Each (λ f. Initial j x.rows f []) x.rows.faces) (λ j x. each_always (λ f. Initial j x.rows f []) (λ f i none_. refl) x.rows.faces) 1 s.gateways

    linked : (one two first back : ℕ) (s : Fabric K) → 1 ≤ first → 1 ≤ back → FabricIsInOrder cmp matching s
        → (let ends = link_ends s one two first back in
        let X = opened_ends cmp matching ends s in
        let ms = sorted_by_face (said_opening cmp matching ends s) in
        FacesHave (Named s X.faces) X.faces ms X.gateways)
    linked one two first back s real real_back fine =
        let ends = link_ends s one two first back in
        let X = opened_ends cmp matching ends s in
        let ms = sorted_by_face (said_opening cmp matching ends s) in
        let starts = starts_real cmp matching s one two first back real real_back in
        let Came = λ (j : ℕ) (y : Node K). Each (λ f. Initial j y.rows f (printed_for (number_from 1 j f.number X.faces) ms)) y.rows.faces in
        from_new s X.faces ms X.gateways (sorted_each (λ m. length s.faces < m.face) (said_opening cmp matching ends s) (openings_beyond cmp matching total (length s.faces) ends s (omega arith) starts fine))
        (each_from_weaker (λ j (x : Node K). Came j (record x { rows = rows_after_hearing cmp X ms j x.rows })) (λ j (x : Node K). Each (λ f. Initial j x.rows f (printed_for (number_from 1 j f.number X.faces) ms)) x.rows.faces)
        (λ j x own.
        let hears = λ (f : Face K). heard_all cmp x.rows.moment (printed_for (number_of_place X j f.number) ms) f in
        each_weaker (λ f. Initial j x.rows (hears f) (printed_for (number_from 1 j (hears f).number X.faces) ms)) (λ f. Initial j x.rows f (printed_for (number_from 1 j f.number X.faces) ms))
        (λ f one_ i none_.
        let xs = printed_for (number_of_place X j f.number) ms in
        ap (λ k. finals_in i (printed_for (number_from 1 j k X.faces) ms)) (sym (heard_all-number cmp x.rows.moment xs f))
        ∙ one_ i (ap (λ (o : Option Bool). (i == 0) && is_some o) (heard_all_leaves cmp (λ (k : Face K). k.initial) (heard-initial cmp matching) x.rows.moment xs f) ∙ none_))
        x.rows.faces (each_of_map (λ f. Initial j x.rows f (printed_for (number_from 1 j f.number X.faces) ms)) hears x.rows.faces own))
        1 X.gateways (heard_back cmp matching Came X ms 1 X.gateways (linked_go_on cmp matching total Initial opening_step ends s starts fine (initial_first s))))

    -- ---- closings

    -- no final is printed that isn't that of an ask, as they were
    abbrev OfAsks : Fabric K → ℕ → Rows K → Face K → List (Message K) → Type 0
    OfAsks s j g f xs = (i : ℕ) → has_id i (asks_of cmp matching s j f.number) ≡ false → Absent f.number i g × (finals_in i xs ≡ 0)

    closing_step : (s : Fabric K) (n k : ℕ) (g : Rows K) → RowsAreInOrder cmp matching g → Unit {0} → (before : ℕ → List (Message K)) → Each (λ f. OfAsks s n g f (before f.number)) g.faces
        → (let h = rows_after_call cmp matching (CloseFace k) g in Each (λ f. OfAsks s n h f (before f.number ++ messages_for f.number (said cmp matching (CloseFace k) g))) h.faces)
    unfolding parts_of altered_by ran said_by messages_for
    closing_step s n k g ordered _ before all =
        heard_numbers cmp matching (Left (rows_after_call cmp matching c g) (said cmp matching c g)) (said cmp matching c g) (altered cmp matching c g)
        (subst (λ (h : Rows K). Each (λ f. Left h (said cmp matching c g) f.number) (altered cmp matching c g).faces) (sym (call_runs cmp matching c g)) (by_face (find_face k g) refl (altered_faces cmp matching total Before c g refl ordered.lists all).0))
      where
        c : PlainCall K
        c = CloseFace k

        Before : ℕ → Type 0
        Before m = (i : ℕ) → has_id i (asks_of cmp matching s n m) ≡ false → Absent m i g × (finals_in i (before m) ≡ 0)

        Left : Rows K → Sends K → ℕ → Type 0
        Left h ss m = (i : ℕ) → has_id i (asks_of cmp matching s n m) ≡ false → Absent m i h × (finals_in i (before m ++ messages_for m ss) ≡ 0)

        both : (x y : ℕ) → x ≡ 0 → y ≡ 0 → x + y ≡ 0
        both x y one two = omega (arith, one, two)

        parts_for : Option (Face K) → List (Part K)
        parts_for o = elim o [ None ↦ [] | Some f ↦ closing cmp matching k g f ]

        by_face : (o : Option (Face K)) → find_face k g ≡ o → (let a = altered_by cmp matching (parts_for o) g in Each (λ f. Before f.number) a.faces) → (let a = altered_by cmp matching (parts_for o) g in Each (λ f. Left (ran cmp (parts_for o) g) (said_by cmp matching (parts_for o) g) f.number) a.faces)
        by_face None found before_ = each_weaker (λ f. Before f.number) (λ f. Left g [] f.number) (λ f own i none_. ((own i none_).0, ap (finals_in i) (append-nil (before f.number)) ∙ (own i none_).1)) g.faces before_
        by_face (Some from) found before_ =
            let parts = closing cmp matching k g from in
            let a = altered_by cmp matching parts g in
            each_both (λ f. (k == f.number) ≡ false) (λ f. Before f.number) (λ f. Left (ran cmp parts g) (said_by cmp matching parts g) f.number)
            (λ f apart own i none_.
            let was = own i none_ in
            let after = silent_closing cmp matching f.number i k from g apart g was.0 in
            (after.0, finals-append i (before f.number) (messages_for f.number (said_by cmp matching parts g)) ∙ both (finals_in i (before f.number)) (finals_in i (messages_for f.number (said_by cmp matching parts g))) was.1 after.1))
            a.faces (closing_away cmp matching k from g) before_

    of_asks_first : (s : Fabric K) → FabricIsInOrder cmp matching s → FacesHave (OfAsks s) s.faces [] s.gateways
    unfolding printed_for
    of_asks_first s fine =
        from_nth (λ j (x : Node K). Each (λ f. OfAsks s j x.rows f []) x.rows.faces) 0 s.gateways
        (λ m x at_.
        let e : m ≡ 0 + m = omega arith in
        let ordered = (gateway_in_order cmp matching s m x at_ fine).rows in
        subst (λ j. Each (λ f. OfAsks s j x.rows f []) x.rows.faces) e
        (each_both (λ f. asks_of cmp matching s m f.number ≡ f.asks) (λ f. find_face f.number x.rows ≡ Some f) (λ f. OfAsks s m x.rows f [])
        (λ f same_ found i none_. (record { face = f; rises = ordered.lists.faces_rise; found = found; none = sym (ap (has_id i) same_) ∙ none_ }, refl))
        x.rows.faces (asks_are cmp matching s m x at_ ordered) (found_by_number 1 x.rows.faces ordered.lists.faces_rise)))

    unlinked : (n : ℕ) (s : Fabric K) → FabricIsInOrder cmp matching s
        → (let fs = both_ends cmp matching s n in
        let X = closed_ends cmp matching fs s in
        let ms = sorted_by_face (filter (λ m. not (list_any (λ face. face == m.face) fs)) (said_closing cmp matching fs s)) in
        FacesHave (Named s X.faces) X.faces ms X.gateways)
    unlinked n s fine =
        let fs = both_ends cmp matching s n in
        let X = closed_ends cmp matching fs s in
        let ms = sorted_by_face (filter (λ m. not (list_any (λ face. face == m.face) fs)) (said_closing cmp matching fs s)) in
        let Came = λ (j : ℕ) (y : Node K). Each (λ f. OfAsks s j y.rows f (printed_for (number_from 1 j f.number X.faces) ms)) y.rows.faces in
        let Then = λ (j : ℕ) (k : ℕ). (i : ℕ) → has_id i (asks_of cmp matching s j k) ≡ false → finals_in i (printed_for (number_from 1 j k X.faces) ms) ≡ 0 in
        each_from_both (λ j (x : Node K). Came j (record x { rows = rows_after_hearing cmp X ms j x.rows })) (λ j (x : Node K). Each (λ f. f.asks ≡ asks_of cmp matching s j f.number) x.rows.faces) (λ j (x : Node K). Each (λ f. Named s X.faces j x.rows f (printed_for (number_from 1 j f.number X.faces) ms)) x.rows.faces)
        (λ j x own same_.
        let h = rows_after_hearing cmp X ms j x.rows in
        let hears = λ (f : Face K). heard_all cmp x.rows.moment (printed_for (number_of_place X j f.number) ms) f in
        each_both (λ f. OfAsks s j h (hears f) (printed_for (number_from 1 j (hears f).number X.faces) ms)) (λ f. f.asks ≡ asks_of cmp matching s j f.number) (λ f. Named s X.faces j x.rows f (printed_for (number_from 1 j f.number X.faces) ms))
        (λ f one is i none_.
        let then_ : Then j f.number = subst (Then j) (heard_all-number cmp x.rows.moment (printed_for (number_of_place X j f.number) ms) f) (λ m gone. (one m gone).1) in
        then_ i (sym (ap (has_id i) is) ∙ no_ask (has_id i f.asks) _ none_))
        x.rows.faces (each_of_map (λ f. OfAsks s j h f (printed_for (number_from 1 j f.number X.faces) ms)) hears x.rows.faces own) same_)
        1 X.gateways
        (heard_back cmp matching Came X ms 1 X.gateways (unlinked_go_on cmp matching total (λ g. Unit {0}) (OfAsks s) (λ k g ordered own. tt) (λ j k g ordered own before all. closing_step s j k g ordered own before all) fs s fine (each_always (λ (x : Node K). Unit {0}) (λ x. tt) s.gateways) (of_asks_first s fine)))
        (closed_asks cmp matching (λ j k asks. asks ≡ asks_of cmp matching s j k) fs s
        (from_nth (λ j (x : Node K). Each (λ f. f.asks ≡ asks_of cmp matching s j f.number) x.rows.faces) 0 s.gateways
        (λ m x at_.
        let e : m ≡ 0 + m = omega arith in
        subst (λ j. Each (λ f. f.asks ≡ asks_of cmp matching s j f.number) x.rows.faces) e (each_weaker (λ f. asks_of cmp matching s m f.number ≡ f.asks) (λ f. f.asks ≡ asks_of cmp matching s m f.number) (λ f is. sym is) x.rows.faces (asks_are cmp matching s m x at_ (gateway_in_order cmp matching s m x at_ fine).rows)))))

    -- ---- turns

    named_of_calls : IsOfCalls cmp matching (λ s. Unit {0}) Comes
    unfolding sorted_by_face parts_of said_by
    named_of_calls = record {
      nothing = λ s fine _. (none_printed s s.faces s.gateways, tt);
      gateway = λ mode zid regions timeout refused node s new_ fine _. (none_printed s s.faces (s.gateways ++ node ∷ []), tt);
      call = λ spent n node c s at_ still accepted fine _. (
        called n node c s at_ still fine,
        sorted_each (IsOpen s.faces (with_rows n (altered cmp matching c) s).gateways) (map (printed_at s.faces n) (said cmp matching c node.rows)) (call_said_open cmp matching total n node c (altered cmp matching c) s at_ still fine (λ k there. there)),
      );
      session = λ n first node s at_ real fine _. (none_printed s (with_place n s).faces (with_rows n (altered cmp matching (NewSession first)) s).gateways, tt);
      transport = λ spent n node zid whatami region bound first s at_ real accepted fine _.
          let c : PlainCall K = NewTransport zid whatami region bound first in (
            transported n node zid whatami region bound first s at_ fine,
            sorted_each (IsOpen (with_place n s).faces (with_rows n (altered cmp matching c) s).gateways) (map (printed_at (with_place n s).faces n) (said cmp matching c node.rows)) (opening_said_open cmp matching total n node c (altered cmp matching c) s at_ refl fine (λ k there. there)),
          );
      link = λ spent one two first back s real real_back accepted fine _.
          let ends = link_ends s one two first back in
          let X = opened_ends cmp matching ends s in (
            linked one two first back s real real_back fine,
            sorted_each (IsOpen X.faces X.gateways) (said_opening cmp matching ends s) (ends_said_open cmp matching total ends s (starts_real cmp matching s one two first back real real_back) fine),
          );
      unlink = λ n s fine _.
          let fs = both_ends cmp matching s n in
          let X = closed_ends cmp matching fs s in
          let ns = said_closing cmp matching fs s in
          let away = λ (m : Sent K). list_any (λ face. face == m.face) fs in
          let kept = filter (λ m. not (away m)) ns in (
            unlinked n s fine,
            sorted_each (IsOpen X.faces X.gateways) kept
                (each_both (λ m. not (away m) ≡ true) (λ m. away m ≡ false → IsOpen X.faces X.gateways m) (IsOpen X.faces X.gateways) (λ m passes is. is (not-true (away m) passes)) kept
                (each_passes (λ m. not (away m)) ns)
                (each_filter (λ m. away m ≡ false → IsOpen X.faces X.gateways m) (λ m. not (away m)) ns (closings_said_open cmp matching total fs s fine))),
          );
    }

    named_shown : (s : Fabric K) (t : Turn K) → FabricIsInOrder cmp matching s → Unit {0} → IsShownTurn cmp matching total (λ s. Unit {0}) Comes named_of_calls s t → Each (λ m. IsFinalOfSome cmp matching t m.face m.message) (printed t)
    unfolding face_numbered
    named_shown s t fine _ is = each_both (IsOpen places ws) (λ m. (id : ℕ) → finals_in id (printed_for m.face ms) ≡ 0 → is_final_of id m.message ≡ false) (λ m. IsFinalOfSome cmp matching t m.face m.message) (λ m open_ has. by_message m m.message refl open_ has) ms is.comes.1 (printed_has ms)
      where
        ms : List (Sent K)
        ms = printed t

        Z : Fabric K
        Z = is.changed

        places : List Place
        places = Z.faces

        ws : List (Node K)
        ws = Z.gateways

        of_some : ℕ → ℕ → FaceAt K → Bool
        of_some k id x = has_id id x.face.asks || ((id == 0) && (is_some x.face.initial && not (is_open_face t.before k)))

        final : (m : Sent K) (id : ℕ) → m.message ≡ message.DeclareFinal id → IsOpen places ws m → ((i : ℕ) → finals_in i (printed_for m.face ms) ≡ 0 → is_final_of i m.message ≡ false) → is_some_and (face_numbered (with_line cmp matching t) m.face) (of_some m.face id) ≡ true
        final m id is_final open_ has =
            ap (λ (X : Fabric K). is_some_and (face_numbered X m.face) (of_some m.face id)) is.with_is
            ∙ ap (λ (o : Option Place). is_some_and (at_place o) (of_some m.face id)) open_.place_is
            ∙ ap (λ (o : Option (Node K)). is_some_and (at_node o) (of_some m.face id)) (nth_map node_shown p.gateway ws ∙ ap (λ (o : Option (Node K)). (let y : Option (Node K) = elim o [ None ↦ None | Some z ↦ Some (node_shown z) ] in y)) open_.node_is)
            ∙ ap (λ (o : Option (Face K)). is_some_and (at_face o) (of_some m.face id)) found.1
            ∙ by_test (of_some m.face id (record { gateway = p.gateway; rows = without_own x.rows; face = f })) (λ yes_. yes_)
            (λ no_.
            let none_ : finals_in id (printed_for m.face ms) ≡ 0 = sym (ap (λ k. finals_in id (printed_for k ms)) number_) ∙ named id (ap (λ (X : Fabric K). has_id id f.asks || ((id == 0) && (is_some f.initial && not (is_open_face X (number_from 1 p.gateway f.number places))))) (sym is.before_is) ∙ ap (λ k. has_id id f.asks || ((id == 0) && (is_some f.initial && not (is_open_face t.before k)))) number_ ∙ no_) in
            never (ap (is_final_of id) is_final ∙ eq-eqb id id refl) (has id none_))
          where
            p : Place
            p = open_.place

            x : Node K
            x = open_.node

            found : (f : Face K) × (find_face p.face x.rows ≡ Some f)
            found = found_where (λ f. p.face == f.number) x.rows.faces open_.there

            f : Face K
            f = found.0

            at_face : Option (Face K) → Option (FaceAt K)
            at_face o = elim o [ None ↦ None | Some k ↦ Some (record { gateway = p.gateway; rows = without_own x.rows; face = k }) ]

            at_node : Option (Node K) → Option (FaceAt K)
            at_node o = elim o [ None ↦ None | Some y ↦ elim (find_face p.face y.rows) [ None ↦ None | Some k ↦ Some (record { gateway = p.gateway; rows = y.rows; face = k }) ] ]

            at_place : Option Place → Option (FaceAt K)
            at_place o =
                elim o [
                  | None ↦ None
                  | Some q ↦ elim (nth q.gateway (map node_shown ws)) [ None ↦ None | Some y ↦ elim (find_face q.face y.rows) [ None ↦ None | Some k ↦ Some (record { gateway = q.gateway; rows = y.rows; face = k }) ] ]
                ]

            face_is : p.face ≡ f.number
            face_is = eqb-true p.face f.number (find_passes (λ k. p.face == k.number) x.rows.faces f found.1)

            number_ : number_from 1 p.gateway f.number places ≡ m.face
            number_ =
                let kept = keep_heard cmp matching Z ms 1 ws p.gateway x open_.node_is in
                let gateway = gateway_in_order cmp matching (after_hearing cmp ms Z) p.gateway kept.0 kept.1 is.after_order in
                ap (λ k. number_from 1 p.gateway k places) (sym face_is) ∙ number_of_nth m.face places p gateway.places_rise open_.place_is

            named : Named s places p.gateway x.rows f (printed_for (number_from 1 p.gateway f.number places) ms)
            named =
                find_each (λ k. Named s places p.gateway x.rows k (printed_for (number_from 1 p.gateway k.number places) ms)) (λ k. p.face == k.number) x.rows.faces f
                (each_from_nth (λ j (y : Node K). Each (λ k. Named s places j y.rows k (printed_for (number_from 1 j k.number places) ms)) y.rows.faces) 1 p.gateway p.gateway ws x (omega arith) is.comes.0 open_.node_is) found.1

        by_message : (m : Sent K) (x : Message K) → m.message ≡ x → IsOpen places ws m → ((i : ℕ) → finals_in i (printed_for m.face ms) ≡ 0 → is_final_of i m.message ≡ false) → IsFinalOfSome cmp matching t m.face x
        by_message m (message.DeclareToken id e interest node) is_ open_ has = tt
        by_message m (message.UndeclareToken id e node) is_ open_ has = tt
        by_message m (message.DeclareFinal id) is_ open_ has = final m id is_ open_ has
        by_message m (message.Interest id mode options e) is_ open_ has = tt
        by_message m (message.InterestFinal id) is_ open_ has = tt
        by_message m (message.DeclareSubscriber number e id) is_ open_ has = tt
        by_message m (message.DeclareQueryable number e info id) is_ open_ has = tt

    -- Each final of a turn is that of an ask, or that of a new mutual peer.
    pub turns_name_asks : (lines : List (PlainLine K)) (s : Fabric K) → Each HasFirstIds lines → FabricIsInOrder cmp matching s
        → Each (λ t. Each (λ m. IsFinalOfSome cmp matching t m.face m.message) (printed t)) (turns_from cmp matching lines (entries_from cmp matching lines s) (as_shown s))
    turns_name_asks lines s real fine =
        turns_show cmp matching total (λ s. Unit {0}) Comes named_of_calls (λ t. Each (λ m. IsFinalOfSome cmp matching t m.face m.message) (printed t)) named_shown (λ line x first ordered _. tt) lines s real fine tt
