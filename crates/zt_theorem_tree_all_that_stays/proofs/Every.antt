-- Every line that doesn't disturb an ask leaves what calls and steps leave, and what lines leave that make something.
use Rattle.std.proofs.Common.{◌≡◌, ◌≢◌, ℕ, ◌≤◌, Bool, true, false, ◌&&◌, ◌==◌, List, [], Option, Some, None, Ok, Err, is_none, refl, sym, ap, ◌∙◌, subst, eq-eqb}
use Rattle.std.proofs.lemmas.Bool.{and_from}
use Rattle.std.specs.Cmp.{IsTotalOrder}
use Rattle.std.specs.declared.cmp.Ordering.{Ordering}
use Rattle.std.specs.declared.cmp.Ordering.TheVariants.{Equal}
use Rattle.zt_region.specs.declared.region.Bound.{Bound}
use Rattle.zt_region.specs.declared.region.Region.{Region}
use Rattle.zt_region.specs.declared.region.WhatAmI.{WhatAmI}
use Rattle.zt_region.specs.declared.region.Zid.{Zid}
use Rattle.zt_region.specs.South.{PlainSouth}
use Rattle.zt_protocol.specs.Interest.{is_future}
use Rattle.zt_protocol.specs.Plain.{PlainCall, NewSession, NewTransport, DeclareToken, UndeclareToken, Interest, InterestFinal, DeclareFinal, CloseFace, Expire, SetTrees, SetEntities, PlainEntry, PlainLine, Gateway, Session, Face as FaceLine, Link as LinkLine, Unlink, Step, Speak, Moment, SetTreesAt}
use Rattle.zt_protocol.specs.declared.entries.Sent.{Sent}
use Rattle.zt_protocol.specs.declared.errors.Refusal.{Refusal}
use Rattle.zt_protocol.specs.declared.errors.Refusal.TheVariants as refusal
use Rattle.zt_model.specs.Fabric.{CallAt, Fabric, Node, after_hearing, after_refusal, altered_by_line, line_causes, call_of, entry_by, entry_of, fabric_after, line_causes, line_spends_ids, new_rows, opened_at, said_at, said_by_line, sorted_by_face, with_gateway, with_place, with_session, with_waiting}
use Rattle.zt_model.specs.Lists.{nth}
use Rattle.zt_model.specs.Promises.{is_accepted}
use Rattle.zt_model.specs.Refusals.{first_cause}
use Rattle.zt_model.specs.Rows.{InterestRow}
use Rattle.zt_model.specs.Says.{altered_by, parts_of, said, said_by}
use Rattle.zt_model.specs.Transcript.{FaceAt, face_numbered, messages_of}
use Rattle.zt_model.specs.TreePromises.{disturbs}
use Rattle.zt_laws.specs.Order.{FabricIsInOrder}
use Rattle.zt_laws.specs.Sound.{HasFirstIds}
use Rattle.zt_laws.proofs.Calls.{no_cause}
use Rattle.zt_laws.proofs.Gateways.{prints_map, prints_sorted}
use Rattle.zt_laws.proofs.Lists.{by_test, never}
use Rattle.zt_laws.proofs.LinesOrder.{called_at}
use Rattle.zt_theorem_tree_invariant.specs.Facts.{TreesAgree}
use Rattle.zt_theorem_tree_invariant.specs.Trees.{FacesFormTrees}
use Rattle.zt_theorem_tree_invariant.proofs.Lasting.{LineSaid}
use Rattle.zt_theorem_tree_invariant.proofs.Lines.{same_number}
use Rattle.zt_theorem_tree_invariant.proofs.Making.{opened_is}
use Rattle.zt_theorem_tree_invariant.proofs.Members.{is_there}
use Rattle.zt_theorem_tree_knowledge.proofs.Linking.{link_comes_to}
use Rattle.zt_theorem_tree_knowledge.proofs.Plain.{nothing_said}
use Rattle.zt_theorem_tree_all_that_stays.proofs.Carrying.{expires}
use Rattle.zt_theorem_tree_all_that_stays.proofs.Framing.{IsFrame, frame_gateway, frame_itself, frame_opened}
use Rattle.zt_theorem_tree_all_that_stays.proofs.Linking.{frame_link}
use Rattle.zt_theorem_tree_all_that_stays.proofs.Speaking.{LeftByDropped, LeftBySpoken, spoken_after}

module _ {K : Type 0} (cmp : K → K → Ordering) (matching : K → K → Bool) (total : IsTotalOrder cmp) (equal_is_same : (a b : K) → cmp a b ≡ Equal → a ≡ b) (s : Fabric K) (fine : FabricIsInOrder cmp matching s) (agree : TreesAgree cmp matching s) (i : InterestRow K) (k id : ℕ) where
  -- the call lets no time go on, and doesn't end the ask by its interest
  pub record IsCalmCall (j : ℕ) (c : PlainCall K) : Type 0 where
    pub timeless : expires c ≡ false
    pub held : (z : FaceAt K) → face_numbered s k ≡ Some z → z.gateway ≡ j → c ≡ InterestFinal z.face.number id → is_future i.mode ≡ false

  module _ (P : List (Sent K) → Fabric K → Type 0) (dropped : LeftByDropped cmp matching total equal_is_same s fine agree P) (calls : LeftBySpoken cmp matching total equal_is_same s fine agree IsCalmCall (Unit {0}) P) (framed : (t : Fabric K) (ms : List (Sent K)) → IsFrame s t ms → P ms t) where
    itself : P [] s
    itself = framed s [] (frame_itself cmp matching total equal_is_same s fine agree)

    abbrev Entry : PlainLine K → PlainEntry K
    Entry line = entry_of cmp matching line s

    abbrev After : PlainLine K → Fabric K
    After line = fabric_after cmp matching line (Entry line) s

    abbrev Leaves : PlainLine K → Type 0
    Leaves line = P (messages_of (Entry line)) (After line)

    abbrev Then : PlainLine K → Fabric K
    Then line = with_waiting (sorted_by_face (said_by_line cmp matching line s)) (after_hearing cmp (sorted_by_face (said_by_line cmp matching line s)) (altered_by_line cmp matching line s))

    -- a refused line leaves the fabric
    refused : (line : PlainLine K) → ((r : Refusal) → after_refusal cmp matching line r s ≡ s) → (entry : PlainEntry K) → is_accepted entry ≡ false → P (messages_of entry) (fabric_after cmp matching line entry s)
    unfolding fabric_after
    refused line still (Ok ms) no_ = never refl no_
    refused line still (Err r) no_ = subst (P []) (sym (still r)) itself

    by_entry : (line : PlainLine K) → ((r : Refusal) → after_refusal cmp matching line r s ≡ s) → (first_cause (line_causes cmp matching (line_spends_ids cmp matching line s) line s) ≡ None → FacesFormTrees (Then line) → P (sorted_by_face (said_by_line cmp matching line s)) (Then line)) → FacesFormTrees (After line) → Leaves line
    unfolding fabric_after entry_of
    by_entry line still accepted_ trees = cases (first_cause (line_causes cmp matching (line_spends_ids cmp matching line s) line s)) refl trees
      where
        entry : Option Refusal → PlainEntry K
        entry o = entry_by cmp matching o (sorted_by_face (said_by_line cmp matching line s))

        cases : (o : Option Refusal) → first_cause (line_causes cmp matching (line_spends_ids cmp matching line s) line s) ≡ o → FacesFormTrees (fabric_after cmp matching line (entry o) s) → P (messages_of (entry o)) (fabric_after cmp matching line (entry o) s)
        cases None accepted trees_ = accepted_ accepted trees_
        cases (Some r) refused_ trees_ = subst (P []) (sym (still r)) itself

    -- ---- lines that make something

    gateway_leaves : (mode : WhatAmI) (zid : Zid) (regions : List Region) (south : PlainSouth) (name : Option (List ℕ)) (timeout : ℕ) (pairs : List (Region × Region)) → (let line : PlainLine K = Gateway mode zid regions south name timeout pairs in P (sorted_by_face (said_by_line cmp matching line s)) (Then line))
    unfolding call_of said_by_line altered_by_line sorted_by_face
    gateway_leaves mode zid regions south name timeout pairs =
        let node : Node K = record { rows = new_rows mode zid regions timeout pairs; south = south; name = name } in
        subst (P []) (sym (nothing_said cmp matching total equal_is_same s fine agree (with_gateway node s))) (framed (with_gateway node s) [] (frame_gateway cmp matching total equal_is_same s fine agree node))

    session_leaves : (n first : ℕ) → first_cause (line_causes cmp matching (line_spends_ids cmp matching (Session n first) s) (Session n first) s) ≡ None → (let line : PlainLine K = Session n first in P (sorted_by_face (said_by_line cmp matching line s)) (Then line))
    unfolding line_causes call_of said_by_line altered_by_line parts_of said_by altered_by sorted_by_face
    session_leaves n first accepted = cases (nth n s.gateways) refl (no_cause _ _ _ accepted).0
      where
        G : Option (CallAt K) → Type 0
        G at = P (sorted_by_face (said_at cmp matching s at)) (with_waiting (sorted_by_face (said_at cmp matching s at)) (after_hearing cmp (sorted_by_face (said_at cmp matching s at)) (with_session n first s)))

        cases : (o : Option (Node K)) → nth n s.gateways ≡ o → is_none o ≡ false → G (elim o [ None ↦ None | Some node ↦ Some (record { gateway = n; rows = node.rows; call = NewSession first }) ])
        cases None at_ known = never refl known
        cases (Some node) at_ known =
            let prints = prints_map (with_place n s).faces n (said cmp matching (NewSession first) node.rows) in
            subst (P []) (sym (opened_is cmp matching total s fine agree n node at_ (NewSession first) refl [] prints)) (framed _ [] (frame_opened cmp matching total equal_is_same s fine agree n node at_ (NewSession first) refl [] prints))

    face_leaves : (n : ℕ) (mode : WhatAmI) (zid : Zid) (region : Region) (bound : Bound) (first : ℕ) → (let line : PlainLine K = FaceLine n mode zid region bound first in P (sorted_by_face (said_by_line cmp matching line s)) (Then line))
    unfolding call_of said_by_line altered_by_line sorted_by_face
    face_leaves n mode zid region bound first =
        let c : PlainCall K = NewTransport zid mode region bound first in
        let T = λ (at : Option (CallAt K)). P (sorted_by_face (said_at cmp matching (opened_at cmp matching at s) at)) (with_waiting (sorted_by_face (said_at cmp matching (opened_at cmp matching at s) at)) (after_hearing cmp (sorted_by_face (said_at cmp matching (opened_at cmp matching at s) at)) (opened_at cmp matching at s))) in
        called_at T s n c (subst (P []) (sym (nothing_said cmp matching total equal_is_same s fine agree s)) itself)
        (λ node at_.
        let prints = prints_sorted (with_place n s).faces n (said cmp matching c node.rows) in
        let ms = sorted_by_face (said_at cmp matching (opened_at cmp matching (Some (record { gateway = n; rows = node.rows; call = c })) s) (Some (record { gateway = n; rows = node.rows; call = c }))) in
        subst (P ms) (sym (opened_is cmp matching total s fine agree n node at_ c refl ms prints)) (framed _ ms (frame_opened cmp matching total equal_is_same s fine agree n node at_ c refl ms prints)))

    link_leaves : (one two first back : ℕ) → 1 ≤ first → 1 ≤ back → (let line : PlainLine K = LinkLine one two first back in first_cause (line_causes cmp matching (line_spends_ids cmp matching line s) line s) ≡ None → FacesFormTrees (Then line) → P (sorted_by_face (said_by_line cmp matching line s)) (Then line))
    link_leaves one two first back real1 real2 accepted trees =
        let line : PlainLine K = LinkLine one two first back in
        framed (Then line) (sorted_by_face (said_by_line cmp matching line s))
        (frame_link cmp matching total s fine one two first back real1 real2 (link_comes_to cmp matching total equal_is_same s fine agree one two first back real1 real2 (line_spends_ids cmp matching line s) accepted trees))

    -- ---- calls

    abbrev Said : PlainLine K → Type 0
    Said line = LineSaid cmp matching total equal_is_same s fine agree IsCalmCall line

    is_same : {A : Type 0} {u v : A} → Some u ≡ Some v → u ≡ v
    is_same h = cc

    -- the call of a face ends the ask only where the line says so
    speech_calm : (call : PlainCall K) → ((f x : ℕ) → call ≡ InterestFinal f x → (is_future i.mode && ((k == f) && (id == x))) ≡ false) → Said (Speak call)
    speech_calm (InterestFinal f x) calm = λ place n n_is at_ plain. record {
      timeless = refl;
      held = λ z z_is here is.
          let n_f : f ≡ n = is_same n_is in
          let numbers : (let d : PlainCall K = InterestFinal place.face x in d) ≡ InterestFinal z.face.number id = is in
          let face_ : place.face ≡ z.face.number = cc in
          let id_ : x ≡ id = cc in
          let th = is_there s k z z_is in
          let k_is : k ≡ n = same_number cmp matching total s fine agree n k place z at_ z_is here (sym face_) th.node (ap (λ g. nth g s.gateways) (sym here) ∙ th.node_is) in
          by_test (is_future i.mode)
          (λ later. never (and_from (is_future i.mode) ((k == f) && (id == x)) later (and_from (k == f) (id == x) (eq-eqb k f (k_is ∙ sym n_f)) (eq-eqb id x (sym id_)))) (calm f x refl))
          (λ h. h);
    }
    speech_calm (DeclareToken f x e node interest) calm = λ place n n_is at_ plain. record { timeless = refl; held = λ z z_is here is. cc }
    speech_calm (UndeclareToken f x given node) calm = λ place n n_is at_ plain. record { timeless = refl; held = λ z z_is here is. cc }
    speech_calm (Interest f x mode options e) calm = λ place n n_is at_ plain. record { timeless = refl; held = λ z z_is here is. cc }
    speech_calm (DeclareFinal f x) calm = λ place n n_is at_ plain. record { timeless = refl; held = λ z z_is here is. cc }
    speech_calm (CloseFace f) calm = λ place n n_is at_ plain. record { timeless = refl; held = λ z z_is here is. cc }
    speech_calm (SetEntities f subscribers queryables) calm = λ place n n_is at_ plain. record { timeless = refl; held = λ z z_is here is. cc }
    speech_calm (NewSession first) calm = λ place n n_is at_ plain. cc
    speech_calm (NewTransport zid whatami region bound first) calm = λ place n n_is at_ plain. cc
    speech_calm (Expire now) calm = λ place n n_is at_ plain. cc
    speech_calm (SetTrees region t) calm = λ place n n_is at_ plain. cc

    -- ---- every line

    abbrev pub Calm : PlainLine K → Type 0
    Calm line = (before after : Fabric K) → disturbs cmp matching k id i (record { line = line; entry = Entry line; before = before; after = after }) ≡ false

    speech_leaves : (call : PlainCall K) → Entry (Speak call) ≢ Err refusal.IdsSpent → ((f x : ℕ) → call ≡ InterestFinal f x → (is_accepted (Entry (Speak call)) && (is_future i.mode && ((k == f) && (id == x)))) ≡ false) → Leaves (Speak call)
    speech_leaves call other calm =
        by_test (is_accepted (Entry (Speak call)))
        (λ yes. spoken_after cmp matching total equal_is_same s fine agree IsCalmCall (Unit {0}) P itself dropped calls (Speak call) (speech_calm call (λ f x is. ap (λ b. b && (is_future i.mode && ((k == f) && (id == x)))) (sym yes) ∙ calm f x is)) refl other)
        (λ no_. refused (Speak call) (λ r. refl) (Entry (Speak call)) no_)

    calm_speech : (call : PlainCall K) → Calm (Speak call) → (f x : ℕ) → call ≡ InterestFinal f x → (is_accepted (Entry (Speak call)) && (is_future i.mode && ((k == f) && (id == x)))) ≡ false
    calm_speech (InterestFinal f2 x2) calm f x is =
        let numbers : (let d : PlainCall K = InterestFinal f2 x2 in d) ≡ InterestFinal f x = is in
        let f_is : f2 ≡ f = cc in
        let x_is : x2 ≡ x = cc in
        ap (λ n. is_accepted (Entry (Speak (InterestFinal f2 x2))) && (is_future i.mode && ((k == n) && (id == x)))) (sym f_is) ∙ ap (λ n. is_accepted (Entry (Speak (InterestFinal f2 x2))) && (is_future i.mode && ((k == f2) && (id == n)))) (sym x_is) ∙ calm s s
    calm_speech (DeclareToken f2 x2 e node interest) calm f x is = cc
    calm_speech (UndeclareToken f2 x2 given node) calm f x is = cc
    calm_speech (Interest f2 x2 mode options e) calm f x is = cc
    calm_speech (DeclareFinal f2 x2) calm f x is = cc
    calm_speech (CloseFace f2) calm f x is = cc
    calm_speech (SetEntities f2 subscribers queryables) calm f x is = cc
    calm_speech (NewSession first) calm f x is = cc
    calm_speech (NewTransport zid whatami region bound first) calm f x is = cc
    calm_speech (Expire now) calm f x is = cc
    calm_speech (SetTrees region t) calm f x is = cc

    not_accepted : (b : Bool) → (b && true) ≡ false → b ≡ false
    not_accepted true h = never refl h
    not_accepted false h = refl

    pub every_line : (line : PlainLine K) → HasFirstIds line → Entry line ≢ Err refusal.IdsSpent → FacesFormTrees (After line) → Calm line → Leaves line
    every_line (Step n back) real other trees calm = spoken_after cmp matching total equal_is_same s fine agree IsCalmCall (Unit {0}) P itself dropped calls (Step n back) tt refl other
    every_line (Speak call) real other trees calm = speech_leaves call other (calm_speech call calm)
    every_line (SetTreesAt n region t) real other trees calm = spoken_after cmp matching total equal_is_same s fine agree IsCalmCall (Unit {0}) P itself dropped calls (SetTreesAt n region t) (record { timeless = refl; held = λ z z_is here is. cc }) refl other
    every_line (Moment n now) real other trees calm = refused (Moment n now) (λ r. refl) (Entry (Moment n now)) (not_accepted (is_accepted (Entry (Moment n now))) (calm s s))
    every_line (Unlink n) real other trees calm = refused (Unlink n) (λ r. refl) (Entry (Unlink n)) (not_accepted (is_accepted (Entry (Unlink n))) (calm s s))
    every_line (Gateway mode zid regions south name timeout pairs) real other trees calm = by_entry (Gateway mode zid regions south name timeout pairs) (λ r. refl) (λ accepted _. gateway_leaves mode zid regions south name timeout pairs) trees
    every_line (Session n first) real other trees calm = by_entry (Session n first) (λ r. refl) (λ accepted _. session_leaves n first accepted) trees
    every_line (FaceLine n mode zid region bound first) real other trees calm = by_entry (FaceLine n mode zid region bound first) (λ r. refl) (λ accepted _. face_leaves n mode zid region bound first) trees
    every_line (LinkLine one two first back) real other trees calm = by_entry (LinkLine one two first back) (λ r. refl) (λ accepted trees_. link_leaves one two first back real.0 real.1 accepted trees_) trees
