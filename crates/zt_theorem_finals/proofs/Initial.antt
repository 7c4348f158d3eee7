-- Each turn of a transcript finishes the initial interests of the faces that its line opens, and no others.
use Rattle.std.proofs.Common.{◌≡◌, ◌≢◌, ℕ, ◌+◌, ◌-◌, ◌≤◌, Bool, true, false, not, ◌==◌, if◌then◌else◌, List, [], ◌∷◌, ◌++◌, map, filter, Option, Some, None, is_some, refl, sym, ap, ◌∙◌, subst, append-nil, arith, eq-eqb, ne_eqb, eqb-true}
use Rattle.std.proofs.lemmas.Bool.{or_left, or_right}
use Rattle.std.specs.Cmp.{IsTotalOrder}
use Rattle.std.specs.List.{list_any}
use Rattle.std.specs.declared.cmp.Ordering.{Ordering}
use Rattle.zt_region.specs.declared.region.Bound.{Bound}
use Rattle.zt_region.specs.declared.region.Region.{Region}
use Rattle.zt_region.specs.declared.region.WhatAmI.{WhatAmI}
use Rattle.zt_region.specs.declared.region.Zid.{Zid}
use Rattle.zt_protocol.specs.Plain.{PlainCall, NewSession, NewTransport, CloseFace, PlainLine}
use Rattle.zt_protocol.specs.declared.entries.Sent.{Sent}
use Rattle.zt_protocol.specs.declared.messages.Message.{Message}
use Rattle.zt_protocol.specs.declared.messages.Message.TheVariants as message
use Rattle.zt_model.specs.Fabric.{CallAt, Fabric, Node, Place, altered_at, both_ends, closed_ends, closing_call, entries_from, next_face, number_from, number_of_place, opened_at, opened_ends, opening_at, printed_for, said_closing, sorted_by_face, with_place, with_rows}
use Rattle.zt_model.specs.Hearing.{heard, heard_all, messages_for, rows_heard}
use Rattle.zt_model.specs.Linking.{LinkEnd, link_ends}
use Rattle.zt_model.specs.Lists.{first_where, is_some_and, nth}
use Rattle.zt_model.specs.Promises.{FinishesInitial, Turn, finals_in, is_final_of, is_open_face, printed, printed_to, turns_from}
use Rattle.zt_model.specs.Routing.{face_opened, interests_from, opened, opening_final, opening_interests, opening_tokens, tokens_from}
use Rattle.zt_model.specs.Rows.{Face, Rows}
use Rattle.zt_model.specs.Says.{Sends, altered, altered_by, find_face, parts_of, said, said_by, to_face}
use Rattle.zt_model.specs.Transcript.{Each, FaceAt, face_numbered}
use Rattle.zt_laws.specs.Order.{FabricIsInOrder, RowsAreInOrder}
use Rattle.zt_laws.specs.Shown.{as_shown, node_shown}
use Rattle.zt_laws.specs.Sound.{EachFrom, HasFirstIds, is_placed, opens_face, rows_after_call}
use Rattle.zt_laws.proofs.AllLines.{starts_real}
use Rattle.zt_laws.proofs.CallsOrder.{altered_faces}
use Rattle.zt_laws.proofs.Entries.{nth_of_number}
use Rattle.zt_laws.proofs.Gateways.{prints_sorted}
use Rattle.zt_laws.proofs.Hearing.{each_ruled_one, find_each, find_passes, heard_all-number, heard_all_leaves, messages_for-append, messages_for_other, messages_for_own}
use Rattle.zt_laws.proofs.LinesOrder.{faces_placed, faces_still_placed, gateway_in_order, heard_faces_placed, opened_faces}
use Rattle.zt_laws.proofs.Lists.{by_test, each_always, each_append, each_from_weaker, each_map, each_weaker, never}
use Rattle.zt_laws.proofs.Numbered.{each_from_nth, nth_real}
use Rattle.zt_laws.proofs.PartsOrder.{each_message_for}
use Rattle.zt_laws.proofs.Places.{number_still, placed_new, placed_still}
use Rattle.zt_theorem_soundness.proofs.ById.{find_mapped}
use Rattle.zt_theorem_visibility.proofs.Calls.{IsOfCalls, IsShownTurn, messages_at, turns_show}
use Rattle.zt_theorem_visibility.proofs.Faces.{FacesHave, each_face_weaker, faces_called, faces_shown, faces_weaker}
use Rattle.zt_theorem_visibility.proofs.Future.{nth_map}
use Rattle.zt_theorem_visibility.proofs.Opened.{linked_go_on}
use Rattle.zt_theorem_visibility.proofs.Printed.{unlinked_go_on}
use Rattle.zt_theorem_visibility.proofs.Saying.{interests_say, tokens_say}
use Rattle.zt_theorem_finals.proofs.Last.{NoFinal}

-- a fact of each at its place
pub from_nth : {A : Type 0} (P : ℕ → A → Type 0) (i : ℕ) (xs : List A) → ((m : ℕ) (x : A) → nth m xs ≡ Some x → P (i + m) x) → EachFrom P (i + 1) xs
from_nth P i [] one = tt
from_nth {A = A} P i (x ∷ xs) one = (one 1 x refl, from_nth P (i + 1) xs later)
  where
    later : (m : ℕ) (y : A) → nth m xs ≡ Some y → P ((i + 1) + m) y
    later m y there =
        let real : 1 ≤ m = nth_real m xs y there in
        let miss : ((m + 1) == 1) ≡ false = ne_eqb (m + 1) 1 (λ e. omega arith) in
        let back : (m + 1) - 1 ≡ m = omega arith in
        let at_ : nth (m + 1) (x ∷ xs) ≡ Some y = rw miss (ap (λ k. nth k xs) back ∙ there) in
        let e : i + (m + 1) ≡ (i + 1) + m = omega arith in
        subst (λ k. P k y) e (one (m + 1) y at_)

each_from_push : {A : Type 0} (P : ℕ → A → Type 0) (i : ℕ) (xs : List A) (y : A) → EachFrom P i xs → ((k : ℕ) → P k y) → EachFrom P i (xs ++ y ∷ [])
each_from_push P i [] y all last = (last i, tt)
each_from_push P i (x ∷ xs) y all last = (all.0, each_from_push P (i + 1) xs y all.1 last)

some_where : {A : Type 0} (p : A → Bool) (xs : List A) → is_some (first_where p xs) ≡ list_any p xs
some_where p [] = refl
some_where p (x ∷ xs) = by_test (p x) (λ here. rw here refl) (λ here. rw here (some_where p xs))

module _ {K : Type 0} where
  -- each face is found
  any_own : (fs : List (Face K)) → Each (λ f. list_any (λ (k : Face K). f.number == k.number) fs ≡ true) fs
  any_own [] = tt
  any_own (x ∷ fs) = (
    or_left (x.number == x.number) (list_any (λ (k : Face K). x.number == k.number) fs) (eq-eqb x.number x.number refl),
    each_weaker (λ f. list_any (λ (k : Face K). f.number == k.number) fs ≡ true) (λ f. list_any (λ (k : Face K). f.number == k.number) (x ∷ fs) ≡ true) (λ f there. or_right (f.number == x.number) (list_any (λ (k : Face K). f.number == k.number) fs) there) fs (any_own fs),
  )

  each_found : (g : Rows K) → Each (λ f. is_some (find_face f.number g) ≡ true) g.faces
  each_found g = each_weaker (λ f. list_any (λ (k : Face K). f.number == k.number) g.faces ≡ true) (λ f. is_some (find_face f.number g) ≡ true) (λ f there. some_where (λ (k : Face K). f.number == k.number) g.faces ∙ there) g.faces (any_own g.faces)

  -- a new face is found behind others
  pub find_new : (n : ℕ) (fs : List (Face K)) (x : Face K) → Each (λ f. (n == f.number) ≡ false) fs → (n == x.number) ≡ true → first_where (λ f. n == f.number) (fs ++ x ∷ []) ≡ Some x
  find_new n [] x apart own = rw own refl
  find_new n (f ∷ fs) x apart own = let miss : (n == f.number) ≡ false = apart.0 in rw miss (find_new n fs x apart.1 own)

  -- finals come behind what has none
  pub finals_after : (xs ys : List (Message K)) → Each NoFinal xs → finals_in 0 (xs ++ ys) ≡ finals_in 0 ys
  finals_after [] ys none_ = refl
  finals_after (x ∷ xs) ys none_ = let miss : is_final_of 0 x ≡ false = none_.0 0 in rw miss (finals_after xs ys none_.1)

  pub to_face_none : (k n : ℕ) (rule : Face K → List (Message K)) (g : Rows K) → (k == n) ≡ false → messages_for k (to_face n rule g) ≡ []
  unfolding to_face messages_for
  to_face_none k n rule g miss = cases (find_face n g)
    where
      cases : (o : Option (Face K)) → messages_for k (elim o [ None ↦ [] | Some f ↦ map (λ m. (n, m)) (rule f) ]) ≡ []
      cases None = refl
      cases (Some f) = messages_for_other k n (rule f) miss

  pub to_face_own : (n : ℕ) (rule : Face K → List (Message K)) (g : Rows K) (f : Face K) → find_face n g ≡ Some f → messages_for n (to_face n rule g) ≡ rule f
  unfolding to_face
  to_face_own n rule g f found = ap (λ (o : Option (Face K)). (let ss : Sends K = elim o [ None ↦ [] | Some h ↦ map (λ m. (n, m)) (rule h) ] in messages_for n ss)) found ∙ messages_for_own n (rule f)

  -- an initial interest gets one final
  abbrev Finished : Face K → List (Message K) → Type 0
  Finished f xs = finals_in 0 xs ≡ (if is_some f.initial then 1 else 0)

  -- the face was open before
  abbrev was_open : Fabric K → ℕ → ℕ → Bool
  was_open s j k = is_some_and (nth j s.gateways) (λ (x : Node K). is_some (find_face k x.rows))

  abbrev New : Fabric K → ℕ → Rows K → Face K → List (Message K) → Type 0
  New s j g f xs = was_open s j f.number ≡ false → Finished f xs

  abbrev OldFace : Fabric K → ℕ → Rows K → Face K → List (Message K) → Type 0
  OldFace s j g f xs = was_open s j f.number ≡ true

  abbrev Old : Fabric K → List (Node K) → Type 0
  Old s gs = EachFrom (λ j (x : Node K). Each (λ f. was_open s j f.number ≡ true) x.rows.faces) 1 gs

  all_old : (s : Fabric K) → Old s s.gateways
  all_old s =
      from_nth (λ j (x : Node K). Each (λ f. was_open s j f.number ≡ true) x.rows.faces) 0 s.gateways
      (λ m x at_.
      let e : m ≡ 0 + m = omega arith in
      subst (λ j. Each (λ f. was_open s j f.number ≡ true) x.rows.faces) e
      (each_weaker (λ f. is_some (find_face f.number x.rows) ≡ true) (λ f. was_open s m f.number ≡ true) (λ f found. ap (λ (o : Option (Node K)). is_some_and o (λ (y : Node K). is_some (find_face f.number y.rows))) at_ ∙ found) x.rows.faces (each_found x.rows)))

  old_have : (s : Fabric K) (places : List Place) (ms : List (Sent K)) (gs : List (Node K)) → Old s gs → FacesHave (New s) places ms gs
  old_have s places ms gs old =
      each_from_weaker (λ j (x : Node K). Each (λ f. was_open s j f.number ≡ true) x.rows.faces) (λ j (x : Node K). Each (λ f. New s j x.rows f (printed_for (number_from 1 j f.number places) ms)) x.rows.faces)
      (λ j x own. each_weaker (λ f. was_open s j f.number ≡ true) (λ f. New s j x.rows f (printed_for (number_from 1 j f.number places) ms)) (λ f there fresh. never there fresh) x.rows.faces own) 1 gs old

module _ {K : Type 0} (cmp : K → K → Ordering) (matching : K → K → Bool) where
  pub heard-initial : (now : ℕ) (m : Message K) (f : Face K) → (heard cmp now m f).initial ≡ f.initial
  heard-initial now (message.DeclareToken id e interest node) f = refl
  heard-initial now (message.UndeclareToken id e node) f = refl
  heard-initial now (message.DeclareFinal id) f = refl
  heard-initial now (message.Interest id mode options e) f = refl
  heard-initial now (message.InterestFinal id) f = refl
  heard-initial now (message.DeclareSubscriber number e id) f = refl
  heard-initial now (message.DeclareQueryable number e info id) f = refl

  pub heard_numbers : (Q : ℕ → Type 0) (ss : Sends K) (g : Rows K) → Each (λ f. Q f.number) g.faces → Each (λ f. Q f.number) (rows_heard cmp ss g).faces
  unfolding rows_heard
  heard_numbers Q ss g all =
      let hears = λ (f : Face K). heard_all cmp g.moment (messages_for f.number ss) f in
      each_map (λ f. Q f.number) hears g.faces (each_weaker (λ f. Q f.number) (λ f. Q (hears f).number) (λ f one. subst Q (sym (heard_all-number cmp g.moment (messages_for f.number ss) f)) one) g.faces all)

  opening_final_is : (f : Face K) → Finished f (opening_final cmp matching f)
  opening_final_is f = cases f.initial
    where
      cases : (o : Option Bool) → (let ms : List (Message K) = elim o [ None ↦ [] | Some finalised ↦ message.DeclareFinal 0 ∷ [] ] in finals_in 0 ms ≡ (if is_some o then 1 else 0))
      cases None = refl
      cases (Some finalised) = refl

  -- an opening, after what was printed before it
  opening_step : (s : Fabric K) (n : ℕ) (zid : Zid) (whatami : WhatAmI) (region : Region) (bound : Bound) (first : ℕ) (g : Rows K) → 1 ≤ first → RowsAreInOrder cmp matching g → (before : ℕ → List (Message K)) → before (g.made + 1) ≡ [] → Each (λ f. New s n g f (before f.number)) g.faces
      → (let c : PlainCall K = NewTransport zid whatami region bound first in
      let h = rows_after_call cmp matching c g in
      Each (λ f. New s n h f (before f.number ++ messages_for f.number (said cmp matching c g))) h.faces)
  unfolding parts_of altered_by said_by rows_heard
  opening_step s n zid whatami region bound first g real ordered before none_ all =
      each_map After hears (g.faces ++ new_ ∷ [])
      (each_append (λ f. After (hears f)) g.faces (new_ ∷ []) (olds g.faces all (each_weaker (λ f. f.number ≤ g.made) (λ f. (f.number == made) ≡ false) (λ f low. ne_eqb f.number made (λ e. omega arith)) g.faces ordered.lists.faces_made)) (still new_ (λ _. newest), tt))
    where
      made : ℕ
      made = g.made + 1

      new_ : Face K
      new_ = face_opened zid whatami region bound first g

      one : Rows K
      one = opened zid whatami region bound first g

      r1 : Rows K → Face K → List (Message K)
      r1 h f = interests_from f.next (opening_interests cmp matching h f)

      r2 : Rows K → Face K → List (Message K)
      r2 h f = tokens_from f.next (opening_tokens cmp matching h f)

      s1 : Sends K
      s1 = to_face made (r1 one) one

      h1 : Rows K
      h1 = rows_heard cmp s1 one

      s2 : Sends K
      s2 = to_face made (r2 h1) h1

      h2 : Rows K
      h2 = rows_heard cmp s2 h1

      s3 : Sends K
      s3 = to_face made (opening_final cmp matching) h2

      ss : Sends K
      ss = s1 ++ (s2 ++ (s3 ++ []))

      hears : Face K → Face K
      hears f = heard_all cmp g.moment (messages_for f.number ss) f

      After : Face K → Type 0
      After f = New s n (rows_after_call cmp matching (NewTransport zid whatami region bound first) g) f (before f.number ++ messages_for f.number ss)

      parts : (k : ℕ) → messages_for k ss ≡ messages_for k s1 ++ (messages_for k s2 ++ (messages_for k s3))
      parts k =
          messages_for-append k s1 (s2 ++ (s3 ++ []))
          ∙ ap (λ xs. messages_for k s1 ++ xs) (messages_for-append k s2 (s3 ++ []) ∙ ap (λ ts. messages_for k s2 ++ messages_for k ts) (append-nil s3))

      still : (f : Face K) → (was_open s n f.number ≡ false → Finished f (before f.number ++ messages_for f.number ss)) → After (hears f)
      still f own =
          λ fresh.
          let number_ = heard_all-number cmp g.moment (messages_for f.number ss) f in
          let initial_ : (hears f).initial ≡ f.initial = heard_all_leaves cmp (λ (k : Face K). k.initial) heard-initial g.moment (messages_for f.number ss) f in
          ap (λ k. finals_in 0 (before k ++ messages_for k ss)) number_ ∙ own (ap (was_open s n) (sym number_) ∙ fresh) ∙ ap (λ (o : Option Bool). if is_some o then 1 else 0) (sym initial_)

      none_for : (k : ℕ) → (k == made) ≡ false → messages_for k ss ≡ []
      none_for k miss =
          parts k
          ∙ ap (λ xs. xs ++ (messages_for k s2 ++ messages_for k s3)) (to_face_none k made (r1 one) one miss)
          ∙ ap (λ xs. xs ++ messages_for k s3) (to_face_none k made (r2 h1) h1 miss)
          ∙ to_face_none k made (opening_final cmp matching) h2 miss

      olds : (fs : List (Face K)) → Each (λ f. New s n g f (before f.number)) fs → Each (λ f. (f.number == made) ≡ false) fs → Each (λ f. After (hears f)) fs
      olds [] own apart = tt
      olds (f ∷ fs) own apart = (
        still f (λ fresh. ap (λ xs. finals_in 0 (before f.number ++ xs)) (none_for f.number apart.0) ∙ ap (λ xs. finals_in 0 xs) (append-nil (before f.number)) ∙ own.0 fresh),
        olds fs own.1 apart.1,
      )

      found : find_face made one ≡ Some new_
      found = find_new made g.faces new_ (each_weaker (λ f. f.number ≤ g.made) (λ f. (made == f.number) ≡ false) (λ f low. ne_eqb made f.number (λ e. omega arith)) g.faces ordered.lists.faces_made) (eq-eqb made made refl)

      x1 : Face K
      x1 = heard_all cmp g.moment (messages_for new_.number s1) new_

      x2 : Face K
      x2 = heard_all cmp g.moment (messages_for x1.number s2) x1

      found2 : find_face made h2 ≡ Some x2
      found2 =
          find_mapped made (λ f. heard_all cmp g.moment (messages_for f.number s2) f) h1.faces x1 (λ f. heard_all-number cmp g.moment (messages_for f.number s2) f)
          (find_mapped made (λ f. heard_all cmp g.moment (messages_for f.number s1) f) one.faces new_ (λ f. heard_all-number cmp g.moment (messages_for f.number s1) f) found)

      initial2 : x2.initial ≡ new_.initial
      initial2 = heard_all_leaves cmp (λ (k : Face K). k.initial) heard-initial g.moment (messages_for x1.number s2) x1 ∙ heard_all_leaves cmp (λ (k : Face K). k.initial) heard-initial g.moment (messages_for new_.number s1) new_

      newest : Finished new_ (before made ++ messages_for made ss)
      newest =
          ap (λ xs. finals_in 0 (xs ++ messages_for made ss)) none_
          ∙ ap (λ xs. finals_in 0 xs) (parts made)
          ∙ finals_after (messages_for made s1) (messages_for made s2 ++ messages_for made s3) (each_message_for cmp NoFinal made s1 (each_ruled_one NoFinal made (r1 one) one (λ f. interests_say cmp matching NoFinal (λ i mode options e j. refl) f.next (opening_interests cmp matching one f))))
          ∙ finals_after (messages_for made s2) (messages_for made s3) (each_message_for cmp NoFinal made s2 (each_ruled_one NoFinal made (r2 h1) h1 (λ f. tokens_say cmp matching NoFinal (λ i e j. refl) f.next (opening_tokens cmp matching h1 f))))
          ∙ ap (λ xs. finals_in 0 xs) (to_face_own made (opening_final cmp matching) h2 x2 found2)
          ∙ opening_final_is x2
          ∙ ap (λ (o : Option Bool). if is_some o then 1 else 0) initial2

  -- places stay where they are
  abbrev Stay : Fabric K → List Place → Type 0
  Stay s places = (j k : ℕ) → is_placed j k s.faces ≡ true → number_from 1 j k places ≡ number_from 1 j k s.faces

  pub opened_stay : (ends : List (LinkEnd K)) (X : Fabric K) (j k : ℕ) → is_placed j k X.faces ≡ true → number_from 1 j k (opened_ends cmp matching ends X).faces ≡ number_from 1 j k X.faces
  unfolding opened_ends
  opened_stay [] X j k there = refl
  opened_stay (end ∷ ends) X j k there = let one = cases (opening_at cmp matching X end) in opened_stay ends (opened_at cmp matching (opening_at cmp matching X end) X) j k one.0 ∙ one.1
    where
      cases : (o : Option (CallAt K)) → (let Y = opened_at cmp matching o X in (is_placed j k Y.faces ≡ true) × (number_from 1 j k Y.faces ≡ number_from 1 j k X.faces))
      cases None = (there, refl)
      cases (Some at) = let p : Place = record { gateway = at.gateway; face = next_face (nth at.gateway X.gateways) } in (placed_still j k X.faces p there, number_still 1 j k X.faces p there)

  closed_stay : (fs : List ℕ) (X : Fabric K) → (closed_ends cmp matching fs X).faces ≡ X.faces
  unfolding closed_ends
  closed_stay [] X = refl
  closed_stay (face ∷ fs) X = closed_stay fs (altered_at cmp matching X (closing_call X face)) ∙ cases (closing_call X face)
    where
      cases : (o : Option (CallAt K)) → (altered_at cmp matching X o).faces ≡ X.faces
      cases None = refl
      cases (Some at) = refl

  -- ---- turns

  module _ (total : IsTotalOrder cmp) where
    abbrev Comes : Fabric K → List (CallAt K) → List (Sent K) → List Place → List (Node K) → List (Node K) → Type 0
    Comes s calls ms places ws gs = FacesHave (New s) places ms gs × Stay s places

    node_old : (s : Fabric K) (n : ℕ) (node : Node K) → nth n s.gateways ≡ Some node → Each (λ f. was_open s n f.number ≡ true) node.rows.faces
    node_old s n node at_ = each_from_nth (λ j (x : Node K). Each (λ f. was_open s j f.number ≡ true) x.rows.faces) 1 n n s.gateways node (omega arith) (all_old s) at_

    others : (s : Fabric K) (n : ℕ) → EachFrom (λ j (x : Node K). j ≢ n → Each (λ f. New s j x.rows f []) x.rows.faces) 1 s.gateways
    others s n =
        each_from_weaker (λ j (x : Node K). Each (λ f. was_open s j f.number ≡ true) x.rows.faces) (λ j (x : Node K). j ≢ n → Each (λ f. New s j x.rows f []) x.rows.faces)
        (λ j x own _. each_weaker (λ f. was_open s j f.number ≡ true) (λ f. New s j x.rows f []) (λ f there fresh. never there fresh) x.rows.faces own) 1 s.gateways (all_old s)

    called : (n : ℕ) (node : Node K) (c : PlainCall K) (s : Fabric K) → nth n s.gateways ≡ Some node → opens_face c ≡ false → FabricIsInOrder cmp matching s
        → FacesHave (New s) s.faces (messages_at cmp matching s.faces n c node) (with_rows n (rows_after_call cmp matching c) s).gateways
    called n node c s at_ still fine =
        let g = node.rows in
        let ss = said cmp matching c g in
        let h = rows_after_call cmp matching c g in
        let gateway = gateway_in_order cmp matching s n node at_ fine in
        let placed = altered_faces cmp matching total (λ k. is_placed n k s.faces ≡ true) c g still gateway.rows.lists gateway.placed in
        let old = altered_faces cmp matching total (λ k. was_open s n k ≡ true) c g still gateway.rows.lists (node_old s n node at_) in
        faces_called (New s) n node (rows_after_call cmp matching c) s.faces ss (messages_at cmp matching s.faces n c node) s.gateways (prints_sorted s.faces n ss) at_ (heard_faces_placed cmp matching s.faces n ss (altered cmp matching c g) placed.0)
        (each_weaker (λ f. was_open s n f.number ≡ true) (λ f. New s n h f (messages_for f.number ss)) (λ f there fresh. never there fresh) h.faces (heard_numbers (λ k. was_open s n k ≡ true) ss (altered cmp matching c g) old.0))
        (faces_placed cmp matching s fine) (others s n)

    -- a call that opens a face
    opens : (n : ℕ) (node : Node K) (c : PlainCall K) (s : Fabric K) → nth n s.gateways ≡ Some node → opens_face c ≡ true → FabricIsInOrder cmp matching s
        → (let h = rows_after_call cmp matching c node.rows in
        let places = (with_place n s).faces in
        Each (λ f. New s n h f (messages_for f.number (said cmp matching c node.rows))) h.faces → FacesHave (New s) places (messages_at cmp matching places n c node) (with_rows n (rows_after_call cmp matching c) s).gateways)
    opens n node c s at_ opens_ fine own =
        let g = node.rows in
        let ss = said cmp matching c g in
        let gateway = gateway_in_order cmp matching s n node at_ fine in
        let p : Place = record { gateway = n; face = next_face (nth n s.gateways) } in
        let places = s.faces ++ p ∷ [] in
        let p_face : p.face ≡ g.made + 1 = ap next_face at_ in
        let new_ : is_placed n (g.made + 1) places ≡ true = subst (λ k. is_placed n k places ≡ true) p_face (placed_new n p.face s.faces) in
        let placed = opened_faces cmp matching total (λ k. is_placed n k places ≡ true) c g opens_ new_ (each_weaker (λ f. is_placed n f.number s.faces ≡ true) (λ f. is_placed n f.number places ≡ true) (λ f there. placed_still n f.number s.faces p there) g.faces gateway.placed) in
        faces_called (New s) n node (rows_after_call cmp matching c) places ss (messages_at cmp matching places n c node) s.gateways (prints_sorted places n ss) at_ (heard_faces_placed cmp matching places n ss (altered cmp matching c g) placed.0)
        own (faces_still_placed cmp matching p s fine) (others s n)

    node_new : (s : Fabric K) (n : ℕ) (node : Node K) → nth n s.gateways ≡ Some node → Each (λ f. New s n node.rows f []) node.rows.faces
    node_new s n node at_ = each_weaker (λ f. was_open s n f.number ≡ true) (λ f. New s n node.rows f []) (λ f there fresh. never there fresh) node.rows.faces (node_old s n node at_)

    session_own : (s : Fabric K) (n first : ℕ) (node : Node K) → nth n s.gateways ≡ Some node
        → (let h = rows_after_call cmp matching (NewSession first) node.rows in Each (λ f. New s n h f (messages_for f.number (said cmp matching (NewSession first) node.rows))) h.faces)
    unfolding parts_of altered_by said_by rows_heard messages_for heard_all
    session_own s n first node at_ = each_map (λ f. New s n (rows_after_call cmp matching (NewSession first) node.rows) f []) (λ (f : Face K). f) (node.rows.faces ++ _ ∷ []) (each_append (λ f. New s n node.rows f []) node.rows.faces (_ ∷ []) (node_new s n node at_) ((λ _. refl), tt))

    placed_stay : (n : ℕ) (s : Fabric K) → Stay s (with_place n s).faces
    placed_stay n s j k there = number_still 1 j k s.faces (record { gateway = n; face = next_face (nth n s.gateways) }) there

    initial_of_calls : IsOfCalls cmp matching (λ s. Unit {0}) Comes
    unfolding sorted_by_face parts_of said_by
    initial_of_calls = record {
      nothing = λ s fine _. (old_have s s.faces [] s.gateways (all_old s), λ j k there. refl);
      gateway = λ mode zid regions timeout refused node s new_ fine _. (
        old_have s s.faces [] (s.gateways ++ node ∷ []) (each_from_push (λ j (x : Node K). Each (λ f. was_open s j f.number ≡ true) x.rows.faces) 1 s.gateways node (all_old s) (λ k. subst (λ (g : Rows K). Each (λ f. was_open s k f.number ≡ true) g.faces) (sym new_) tt)),
        λ j k there. refl,
      );
      call = λ spent n node c s at_ still accepted fine _. (called n node c s at_ still fine, λ j k there. refl);
      session = λ n first node s at_ real fine _. (opens n node (NewSession first) s at_ refl fine (session_own s n first node at_), placed_stay n s);
      transport = λ spent n node zid whatami region bound first s at_ real accepted fine _. (
        opens n node (NewTransport zid whatami region bound first) s at_ refl fine (opening_step s n zid whatami region bound first node.rows real (gateway_in_order cmp matching s n node at_ fine).rows (λ k. []) refl (node_new s n node at_)),
        placed_stay n s,
      );
      link = λ spent one two first back s real real_back accepted fine _.
          let ends = link_ends s one two first back in
          (linked_go_on cmp matching total (New s) (opening_step s) ends s (starts_real cmp matching s one two first back real real_back) fine (old_have s s.faces [] s.gateways (all_old s)), opened_stay ends s);
      unlink = λ n s fine _.
          let fs = both_ends cmp matching s n in
          let X = closed_ends cmp matching fs s in
          let ms = sorted_by_face (filter (λ m. not (list_any (λ face. face == m.face) fs)) (said_closing cmp matching fs s)) in (
            faces_weaker (OldFace s) (New s) X.faces ms (λ j g f xs there fresh. never there fresh) 1 _
                (unlinked_go_on cmp matching total (λ g. Unit {0}) (OldFace s) (λ k g ordered own. tt)
                (λ j k g ordered own before all.
                let old = altered_faces cmp matching total (λ i. was_open s j i ≡ true) (CloseFace k) g refl ordered.lists all in
                heard_numbers (λ i. was_open s j i ≡ true) (said cmp matching (CloseFace k) g) (altered cmp matching (CloseFace k) g) old.0)
                fs s fine (each_always (λ (x : Node K). Unit {0}) (λ x. tt) s.gateways) (all_old s)),
            λ j k there. ap (number_from 1 j k) (closed_stay fs s),
          );
    }

    -- a face that was open is open in what a transcript shows
    shown_open : (s : Fabric K) (j k : ℕ) → FabricIsInOrder cmp matching s → was_open s j k ≡ true → (is_placed j k s.faces ≡ true) × (is_open_face (as_shown s) (number_from 1 j k s.faces) ≡ true)
    unfolding face_numbered
    shown_open s j k fine open_ = by_node (nth j s.gateways) refl
      where
        at_node : Option (Node K) → Option (FaceAt K)
        at_node o = elim o [ None ↦ None | Some x ↦ elim (find_face k x.rows) [ None ↦ None | Some f ↦ Some (record { gateway = j; rows = x.rows; face = f }) ] ]

        at_place : Option Place → Option (FaceAt K)
        at_place o =
            elim o [
              | None ↦ None
              | Some q ↦
                  elim (nth q.gateway (map node_shown s.gateways)) [
                    | None ↦ None
                    | Some x ↦ elim (find_face q.face x.rows) [ None ↦ None | Some f ↦ Some (record { gateway = q.gateway; rows = x.rows; face = f }) ]
                  ]
            ]

        by_face : (x : Node K) → nth j s.gateways ≡ Some x → (o : Option (Face K)) → find_face k x.rows ≡ o → is_some o ≡ true → (is_placed j k s.faces ≡ true) × (is_open_face (as_shown s) (number_from 1 j k s.faces) ≡ true)
        by_face x at_ None found some_ = never some_ refl
        by_face x at_ (Some f) found some_ =
            let gateway = gateway_in_order cmp matching s j x at_ fine in
            let number_ : k ≡ f.number = eqb-true k f.number (find_passes (λ y. k == y.number) x.rows.faces f found) in
            let placed : is_placed j k s.faces ≡ true = subst (λ i. is_placed j i s.faces ≡ true) (sym number_) (find_each (λ y. is_placed j y.number s.faces ≡ true) (λ y. k == y.number) x.rows.faces f gateway.placed found) in
            let back : number_from 1 j k s.faces + 1 - 1 ≡ number_from 1 j k s.faces = omega arith in
            let place_ : nth (number_from 1 j k s.faces) s.faces ≡ Some (record { gateway = j; face = k }) = sym (ap (λ i. nth i s.faces) back) ∙ nth_of_number 1 j k s.faces placed in
            let node_ : nth j (map node_shown s.gateways) ≡ Some (node_shown x) = nth_map node_shown j s.gateways ∙ ap (λ (o : Option (Node K)). (let y : Option (Node K) = elim o [ None ↦ None | Some z ↦ Some (node_shown z) ] in y)) at_ in
            (placed, ap (λ o. is_some (at_place o)) place_ ∙ ap (λ o. is_some (at_node o)) node_ ∙ ap (λ (o : Option (Face K)). (let y : Option (FaceAt K) = elim o [ None ↦ None | Some z ↦ Some (record { gateway = j; rows = (node_shown x).rows; face = z }) ] in is_some y)) found)

        by_node : (o : Option (Node K)) → nth j s.gateways ≡ o → (is_placed j k s.faces ≡ true) × (is_open_face (as_shown s) (number_from 1 j k s.faces) ≡ true)
        by_node None at_ = never (sym (ap (λ (o : Option (Node K)). is_some_and o (λ (y : Node K). is_some (find_face k y.rows))) at_) ∙ open_) refl
        by_node (Some x) at_ = by_face x at_ (find_face k x.rows) refl (sym (ap (λ (o : Option (Node K)). is_some_and o (λ (y : Node K). is_some (find_face k y.rows))) at_) ∙ open_)

    finished_shown : (s : Fabric K) (t : Turn K) → FabricIsInOrder cmp matching s → Unit {0} → IsShownTurn cmp matching total (λ s. Unit {0}) Comes initial_of_calls s t → FinishesInitial cmp matching t
    finished_shown s t fine _ is =
        each_face_weaker (λ n g f. New s n g f (printed_to t n f)) (λ n g f. is_open_face t.before (number_of_place t.after n f.number) ≡ false → finals_in 0 (printed_to t n f) ≡ (if is_some f.initial then 1 else 0))
        (λ n g f one closed. one (fresh n f.number closed)) 1 t.after.gateways
        (faces_shown (New s) (New s) (λ j g f xs one. one) is.changed.faces t.after.faces (printed t) _ t.after.gateways is.after_places is.after_gateways is.comes.0)
      where
        fresh : (n k : ℕ) → is_open_face t.before (number_of_place t.after n k) ≡ false → was_open s n k ≡ false
        fresh n k closed =
            by_test (was_open s n k)
            (λ open_.
            let both = shown_open s n k fine open_ in
            let number_ : number_from 1 n k t.after.faces ≡ number_from 1 n k s.faces = ap (number_from 1 n k) is.after_places ∙ is.comes.1 n k both.0 in
            let shut : is_open_face (as_shown s) (number_from 1 n k s.faces) ≡ false = sym (ap (λ (X : Fabric K). is_open_face X (number_from 1 n k s.faces)) is.before_is) ∙ sym (ap (is_open_face t.before) number_) ∙ closed in
            never both.1 shut)
            (λ shut. shut)

    -- Each turn of a transcript finishes initial interests.
    pub turns_finish_initial : (lines : List (PlainLine K)) (s : Fabric K) → Each HasFirstIds lines → FabricIsInOrder cmp matching s
        → Each (FinishesInitial cmp matching) (turns_from cmp matching lines (entries_from cmp matching lines s) (as_shown s))
    turns_finish_initial lines s real fine =
        turns_show cmp matching total (λ s. Unit {0}) Comes initial_of_calls (FinishesInitial cmp matching) finished_shown (λ line x first ordered _. tt) lines s real fine tt
