-- The node ids that each turn of a transcript prints are given by tables.
use Rattle.std.proofs.Common.{◌≡◌, ◌≢◌, ℕ, ◌+◌, ◌≤◌, Bool, true, false, not, ◌==◌, List, [], ◌∷◌, ◌++◌, filter, Option, Some, None, refl, sym, ap, subst}
use Rattle.std.specs.Cmp.{IsTotalOrder}
use Rattle.std.specs.List.{list_any}
use Rattle.std.specs.declared.cmp.Ordering.{Ordering}
use Rattle.zt_region.specs.declared.region.Bound.{Bound}
use Rattle.zt_region.specs.declared.region.Region.{Region}
use Rattle.zt_region.specs.declared.region.WhatAmI.{WhatAmI}
use Rattle.zt_region.specs.declared.region.Zid.{Zid}
use Rattle.zt_protocol.specs.Plain.{PlainCall, NewSession, NewTransport, CloseFace, PlainLine}
use Rattle.zt_protocol.specs.declared.entries.Sent.{Sent}
use Rattle.zt_protocol.specs.declared.messages.Message.{Message}
use Rattle.zt_protocol.specs.declared.messages.Message.TheVariants as message
use Rattle.zt_model.specs.Fabric.{CallAt, Fabric, Node, Place, after_hearing, both_ends, closed_ends, entries_from, next_face, opened_ends, said_closing, said_opening, sorted_by_face, with_place, with_rows}
use Rattle.zt_model.specs.Hearing.{messages_for}
use Rattle.zt_model.specs.Linking.{link_ends}
use Rattle.zt_model.specs.Lists.{nth}
use Rattle.zt_model.specs.Promises.{Turn, printed, turns_from}
use Rattle.zt_model.specs.Rows.{Face, Rows}
use Rattle.zt_model.specs.Says.{altered, said}
use Rattle.zt_model.specs.Transcript.{Each, FaceAt, face_numbered}
use Rattle.zt_model.specs.Trees.{table_of}
use Rattle.zt_laws.specs.Order.{FabricIsInOrder, RowsAreInOrder}
use Rattle.zt_laws.specs.Shown.{as_shown, without_own}
use Rattle.zt_laws.specs.Sound.{EachFrom, HasFirstIds, is_placed, rows_after_call}
use Rattle.zt_laws.proofs.AllLines.{starts_real}
use Rattle.zt_laws.proofs.CallsOrder.{altered_faces, transport_in_order}
use Rattle.zt_laws.proofs.Gateways.{prints_sorted}
use Rattle.zt_laws.proofs.LinesOrder.{faces_placed, faces_still_placed, gateway_in_order, heard_faces_placed, opened_faces}
use Rattle.zt_laws.proofs.Lists.{each_always, each_append, each_both, each_weaker, never}
use Rattle.zt_laws.proofs.Places.{placed_new, placed_still}
use Rattle.zt_laws.proofs.Unlinking.{each_from_always}
use Rattle.zt_theorem_visibility.proofs.Calls.{IsOfCalls, IsShownTurn, messages_at, turns_show}
use Rattle.zt_theorem_visibility.proofs.Faces.{FacesHave, faces_called, faces_hear_nothing, faces_weaker}
use Rattle.zt_theorem_visibility.proofs.Opened.{linked_go_on}
use Rattle.zt_theorem_visibility.proofs.Printed.{messages_judged, unlinked_go_on}
use Rattle.zt_theorem_exact_messages.specs.Nodes.{HasGivenNode, PrintsGivenNodes}
use Rattle.zt_theorem_exact_messages.proofs.Given.{Given, given_more, stands}
use Rattle.zt_theorem_exact_messages.proofs.NodeCalls.{call_given, closing_given, closing_holds, opening_given, opening_holds}

module _ {K : Type 0} (cmp : K → K → Ordering) (matching : K → K → Bool) where
  -- what is printed for a face is given to it
  abbrev IsGiven : ℕ → Rows K → Face K → List (Message K) → Type 0
  IsGiven j g f xs = Each (Given cmp matching g.mode g.trees (stands cmp matching g) f.region f.zid) xs

  -- and is no token by trees
  abbrev nobody : Region → K → Zid → Bool
  nobody region e zid = false

  abbrev IsPlain : ℕ → Rows K → Face K → List (Message K) → Type 0
  IsPlain j g f xs = Each (Given cmp matching g.mode g.trees nobody f.region f.zid) xs

  given_if_plain : (places : List Place) (ms : List (Sent K)) (gs : List (Node K)) → FacesHave IsPlain places ms gs → FacesHave IsGiven places ms gs
  given_if_plain places ms gs all =
      faces_weaker IsPlain IsGiven places ms
      (λ j g f xs own. each_weaker (Given cmp matching g.mode g.trees nobody f.region f.zid) (Given cmp matching g.mode g.trees (stands cmp matching g) f.region f.zid)
      (λ m one. given_more cmp matching g.mode g.trees nobody (stands cmp matching g) f.region f.zid m (λ e z never_. never never_ refl) one) xs own) 1 gs all

  nothing_plain : (places : List Place) (gs : List (Node K)) → FacesHave IsPlain places [] gs
  nothing_plain places gs = faces_hear_nothing IsPlain places gs (each_from_always (λ j (x : Node K). Each (λ f. Unit {0}) x.rows.faces) (λ j x. each_always (λ f. Unit {0}) (λ f. tt) x.rows.faces) 1 gs)

  nothing_given : (places : List Place) (gs : List (Node K)) → FacesHave IsGiven places [] gs
  nothing_given places gs = given_if_plain places [] gs (nothing_plain places gs)

  module _ (total : IsTotalOrder cmp) where
    -- a face is opened, after what was printed before
    opening_step : (n : ℕ) (zid : Zid) (whatami : WhatAmI) (region : Region) (bound : Bound) (first : ℕ) (g : Rows K) → 1 ≤ first → RowsAreInOrder cmp matching g → (before : ℕ → List (Message K)) → before (g.made + 1) ≡ [] → Each (λ f. IsPlain n g f (before f.number)) g.faces
        → (let c : PlainCall K = NewTransport zid whatami region bound first in
        let h = rows_after_call cmp matching c g in
        Each (λ f. IsPlain n h f (before f.number ++ messages_for f.number (said cmp matching c g))) h.faces)
    opening_step n zid whatami region bound first g real ordered before nothing all =
        let c : PlainCall K = NewTransport zid whatami region bound first in
        let h = rows_after_call cmp matching c g in
        each_both (λ f. Each (Given cmp matching h.mode h.trees nobody f.region f.zid) (before f.number)) (λ f. Each (Given cmp matching h.mode h.trees nobody f.region f.zid) (messages_for f.number (said cmp matching c g))) (λ f. IsPlain n h f (before f.number ++ messages_for f.number (said cmp matching c g)))
        (λ f one two. each_append (Given cmp matching h.mode h.trees nobody f.region f.zid) (before f.number) (messages_for f.number (said cmp matching c g)) one two) h.faces
        (opening_holds cmp matching total (λ w trees u. Each (Given cmp matching w trees nobody u.region u.zid) (before u.number)) zid whatami region bound first g all (subst (Each (Given cmp matching g.mode g.trees nobody region zid)) (sym nothing) tt))
        (opening_given cmp matching total (λ x. nobody) zid whatami region bound first g (transport_in_order cmp matching total zid whatami region bound first g real ordered).lists.faces_rise)

    -- and one is closed
    closing_step : (n k : ℕ) (g : Rows K) → RowsAreInOrder cmp matching g → Unit {0} → (before : ℕ → List (Message K)) → Each (λ f. IsPlain n g f (before f.number)) g.faces
        → (let h = rows_after_call cmp matching (CloseFace k) g in Each (λ f. IsPlain n h f (before f.number ++ messages_for f.number (said cmp matching (CloseFace k) g))) h.faces)
    closing_step n k g ordered _ before all =
        let h = rows_after_call cmp matching (CloseFace k) g in
        each_both (λ f. Each (Given cmp matching h.mode h.trees nobody f.region f.zid) (before f.number)) (λ f. Each (Given cmp matching h.mode h.trees nobody f.region f.zid) (messages_for f.number (said cmp matching (CloseFace k) g))) (λ f. IsPlain n h f (before f.number ++ messages_for f.number (said cmp matching (CloseFace k) g)))
        (λ f one two. each_append (Given cmp matching h.mode h.trees nobody f.region f.zid) (before f.number) (messages_for f.number (said cmp matching (CloseFace k) g)) one two) h.faces
        (closing_holds cmp matching total (λ w trees u. Each (Given cmp matching w trees nobody u.region u.zid) (before u.number)) k g ordered.lists.faces_rise all)
        (closing_given cmp matching total nobody k g ordered.lists.faces_rise)

    abbrev Comes : Fabric K → List (CallAt K) → List (Sent K) → List Place → List (Node K) → List (Node K) → Type 0
    Comes s calls ms places ws gs = FacesHave IsGiven places ms gs

    opened_given : (n : ℕ) (node : Node K) (zid : Zid) (whatami : WhatAmI) (region : Region) (bound : Bound) (first : ℕ) (s : Fabric K) → nth n s.gateways ≡ Some node → 1 ≤ first → FabricIsInOrder cmp matching s
        → (let c : PlainCall K = NewTransport zid whatami region bound first in FacesHave IsGiven (with_place n s).faces (messages_at cmp matching (with_place n s).faces n c node) (with_rows n (rows_after_call cmp matching c) s).gateways)
    opened_given n node zid whatami region bound first s at_ real fine =
        let c : PlainCall K = NewTransport zid whatami region bound first in
        let ss = said cmp matching c node.rows in
        let gateway = gateway_in_order cmp matching s n node at_ fine in
        let p : Place = record { gateway = n; face = next_face (nth n s.gateways) } in
        let places = s.faces ++ p ∷ [] in
        let new_ : is_placed n (node.rows.made + 1) places ≡ true = subst (λ k. is_placed n k places ≡ true) (ap next_face at_) (placed_new n p.face s.faces) in
        let placed = opened_faces cmp matching total (λ k. is_placed n k places ≡ true) c node.rows refl new_ (each_weaker (λ f. is_placed n f.number s.faces ≡ true) (λ f. is_placed n f.number places ≡ true) (λ f there. placed_still n f.number s.faces p there) node.rows.faces gateway.placed) in
        faces_called IsGiven n node (rows_after_call cmp matching c) places ss (messages_at cmp matching places n c node) s.gateways (prints_sorted places n ss) at_ (heard_faces_placed cmp matching places n ss (altered cmp matching c node.rows) placed.0)
        (opening_given cmp matching total (stands cmp matching) zid whatami region bound first node.rows (transport_in_order cmp matching total zid whatami region bound first node.rows real gateway.rows).lists.faces_rise)
        (faces_still_placed cmp matching p s fine) (others_given n s.gateways)
      where
        others_given : (n : ℕ) (gs : List (Node K)) → EachFrom (λ j (x : Node K). j ≢ n → Each (λ f. IsGiven j x.rows f []) x.rows.faces) 1 gs
        others_given n gs = each_from_always (λ j (x : Node K). j ≢ n → Each (λ f. IsGiven j x.rows f []) x.rows.faces) (λ j x _. each_always (λ f. Unit {0}) (λ f. tt) x.rows.faces) 1 gs

    given_of_calls : IsOfCalls cmp matching (λ s. Unit {0}) Comes
    given_of_calls = record {
      nothing = λ s fine _. nothing_given s.faces s.gateways;
      gateway = λ mode zid regions timeout refused node s new_ fine _. nothing_given s.faces (s.gateways ++ node ∷ []);
      call = λ spent n node c s at_ still accepted fine _.
          let gateway = gateway_in_order cmp matching s n node at_ fine in
          let ss = said cmp matching c node.rows in
          let placed = altered_faces cmp matching total (λ k. is_placed n k s.faces ≡ true) c node.rows still gateway.rows.lists gateway.placed in
          faces_called IsGiven n node (rows_after_call cmp matching c) s.faces ss (messages_at cmp matching s.faces n c node) s.gateways (prints_sorted s.faces n ss) at_ (heard_faces_placed cmp matching s.faces n ss (altered cmp matching c node.rows) placed.0)
          (call_given cmp matching total spent c node.rows still accepted gateway.rows.lists.faces_rise) (faces_placed cmp matching s fine)
          (each_from_always (λ j (x : Node K). j ≢ n → Each (λ f. IsGiven j x.rows f []) x.rows.faces) (λ j x _. each_always (λ f. Unit {0}) (λ f. tt) x.rows.faces) 1 s.gateways);
      session = λ n first node s at_ real fine _. nothing_given (with_place n s).faces (with_rows n (rows_after_call cmp matching (NewSession first)) s).gateways;
      transport = λ spent n node zid whatami region bound first s at_ real accepted fine _. opened_given n node zid whatami region bound first s at_ real fine;
      link = λ spent one two first back s real real_back accepted fine _.
          let ends = link_ends s one two first back in
          let X = opened_ends cmp matching ends s in
          let ms = sorted_by_face (said_opening cmp matching ends s) in
          given_if_plain X.faces ms (after_hearing cmp ms X).gateways (linked_go_on cmp matching total IsPlain opening_step ends s (starts_real cmp matching s one two first back real real_back) fine (nothing_plain s.faces s.gateways));
      unlink = λ n s fine _.
          let fs = both_ends cmp matching s n in
          let X = closed_ends cmp matching fs s in
          let ms = sorted_by_face (filter (λ m. not (list_any (λ face. face == m.face) fs)) (said_closing cmp matching fs s)) in
          given_if_plain X.faces ms (after_hearing cmp ms X).gateways
          (unlinked_go_on cmp matching total (λ g. Unit {0}) IsPlain (λ k g ordered _. tt) closing_step fs s fine (each_always (λ (x : Node K). Unit {0}) (λ x. tt) s.gateways) (nothing_plain s.faces s.gateways));
    }

    -- as a turn has it
    abbrev GivenAt : Rows K → Face K → Message K → Type 0
    GivenAt g f m = HasGivenNode cmp m (Some (record { gateway = 0; rows = g; face = f }))

    given_at : (g : Rows K) (f : Face K) (m : Message K) → Given cmp matching g.mode g.trees (stands cmp matching g) f.region f.zid m → GivenAt (without_own g) f m
    unfolding table_of
    given_at g f (message.DeclareToken id e None node) own = own
    given_at g f (message.DeclareToken id e (Some interest) node) own = own
    given_at g f (message.UndeclareToken id None node) own = own
    given_at g f (message.UndeclareToken id (Some e) node) own = own
    given_at g f (message.DeclareFinal interest) own = own
    given_at g f (message.Interest id mode options e) own = own
    given_at g f (message.InterestFinal id) own = own
    given_at g f (message.DeclareSubscriber id e interest) own = own
    given_at g f (message.DeclareQueryable id e info interest) own = own

    has_given : (m : Message K) (o : Option (FaceAt K)) → ((x : FaceAt K) → o ≡ Some x → GivenAt x.rows x.face m) → HasGivenNode cmp m o
    has_given m None all = tt
    has_given m (Some x) all = shown m (all x refl)
      where
        shown : (m : Message K) → GivenAt x.rows x.face m → HasGivenNode cmp m (Some x)
        shown (message.DeclareToken id e None node) own = own
        shown (message.DeclareToken id e (Some interest) node) own = own
        shown (message.UndeclareToken id None node) own = own
        shown (message.UndeclareToken id (Some e) node) own = own
        shown (message.DeclareFinal interest) own = own
        shown (message.Interest id mode options e) own = own
        shown (message.InterestFinal id) own = own
        shown (message.DeclareSubscriber id e interest) own = own
        shown (message.DeclareQueryable id e info interest) own = own

    given_shown : (s : Fabric K) (t : Turn K) → FabricIsInOrder cmp matching s → Unit {0} → IsShownTurn cmp matching total (λ s. Unit {0}) Comes given_of_calls s t → PrintsGivenNodes cmp t
    given_shown s t fine _ is =
        let Z = after_hearing cmp (printed t) is.changed in
        each_weaker (λ m. (x : FaceAt K) → face_numbered t.after m.face ≡ Some x → GivenAt x.rows x.face m.message) (λ m. HasGivenNode cmp m.message (face_numbered t.after m.face))
        (λ m judged. has_given m.message (face_numbered t.after m.face) judged) (printed t)
        (messages_judged cmp matching (λ j g f m. GivenAt g f m) Z t.after (printed t) is.after_order is.after_places is.after_gateways
        (faces_weaker IsGiven (λ j g f xs. Each (GivenAt (without_own g) f) xs) is.changed.faces (printed t)
        (λ j g f xs all. each_weaker (Given cmp matching g.mode g.trees (stands cmp matching g) f.region f.zid) (GivenAt (without_own g) f) (λ m one. given_at g f m one) xs all) 1 Z.gateways is.comes))

    -- Each turn of a transcript prints given node ids.
    pub turns_give_nodes : (lines : List (PlainLine K)) (s : Fabric K) → Each HasFirstIds lines → FabricIsInOrder cmp matching s
        → Each (PrintsGivenNodes cmp) (turns_from cmp matching lines (entries_from cmp matching lines s) (as_shown s))
    turns_give_nodes lines s real fine =
        turns_show cmp matching total (λ s. Unit {0}) Comes given_of_calls (PrintsGivenNodes cmp) given_shown (λ line x first ordered _. tt) lines s real fine tt
