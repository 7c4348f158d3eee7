-- Each turn of a transcript tells by expression that a token is gone only where it can't be seen.
use Rattle.std.proofs.Common.{◌≡◌, ◌≢◌, ℕ, Bool, true, List, [], ◌∷◌, ◌++◌, map, Option, Some, None, refl, ◌∙◌}
use Rattle.std.specs.Cmp.{IsTotalOrder}
use Rattle.std.specs.declared.cmp.Ordering.{Ordering}
use Rattle.std.specs.declared.cmp.Ordering.TheVariants.{Equal}
use Rattle.zt_region.specs.declared.region.Region.{Region}
use Rattle.zt_protocol.specs.Plain.{PlainCall, NewSession, NewTransport, CloseFace, PlainLine}
use Rattle.zt_protocol.specs.declared.entries.Sent.{Sent}
use Rattle.zt_protocol.specs.declared.messages.Message.{Message}
use Rattle.zt_protocol.specs.declared.messages.Message.TheVariants as message
use Rattle.zt_model.specs.Fabric.{CallAt, Fabric, Node, Place, after_hearing, both_ends, entries_from, opened_ends, printed_for, said_opening, sorted_by_face, with_place, with_rows}
use Rattle.zt_model.specs.Hearing.{messages_for}
use Rattle.zt_model.specs.Linking.{link_ends}
use Rattle.zt_model.specs.Promises.{IsGone, Turn, UndeclaresWhatIsGone, printed, turns_from}
use Rattle.zt_model.specs.Rows.{Face, Rows}
use Rattle.zt_model.specs.Says.{altered, said}
use Rattle.zt_model.specs.Transcript.{Each, FaceAt, face_numbered}
use Rattle.zt_laws.specs.Order.{FabricIsInOrder, RowsAreInOrder}
use Rattle.zt_laws.specs.Shown.{as_shown, without_own}
use Rattle.zt_laws.specs.Sound.{HasFirstIds, is_placed, rows_after_call}
use Rattle.zt_laws.proofs.CallsOrder.{altered_faces}
use Rattle.zt_laws.proofs.Gateways.{prints_sorted}
use Rattle.zt_laws.proofs.LinesOrder.{faces_placed, gateway_in_order, heard_faces_placed}
use Rattle.zt_laws.proofs.Lists.{each_always, each_append, each_both, each_map, each_weaker}
use Rattle.zt_laws.proofs.Seen.{seen_is}
use Rattle.zt_laws.proofs.Sorting.{printed as printed_at}
use Rattle.zt_laws.proofs.Unlinking.{each_from_always}
use Rattle.zt_theorem_visibility.proofs.Calls.{IsOfCalls, IsShownTurn, messages_at, turns_show}
use Rattle.zt_theorem_visibility.proofs.Exact.{visible_shown}
use Rattle.zt_theorem_visibility.proofs.Faces.{FacesHave, faces_any, faces_called, faces_hear_nothing, faces_weaker}
use Rattle.zt_theorem_visibility.proofs.Printed.{messages_judged, unlinked_go_on}
use Rattle.zt_theorem_visibility.proofs.Saying.{opening_says, openings_say, printed_sorted_each}
use Rattle.zt_theorem_sparing.proofs.Gone.{GoneFor, TellsNoneGone, call_gone, closing_fades_all, each_gone_still, none_gone}

module _ {K : Type 0} (cmp : K → K → Ordering) (matching : K → K → Bool) where
  abbrev Gone : ℕ → Rows K → Face K → List (Message K) → Type 0
  Gone j g f xs = Each (GoneFor cmp matching g f.region) xs

  nothing_gone : (places : List Place) (gs : List (Node K)) → FacesHave Gone places [] gs
  nothing_gone places gs = faces_hear_nothing Gone places gs (each_from_always (λ j (x : Node K). Each (λ f. Gone j x.rows f []) x.rows.faces) (λ j x. each_always (λ f. Unit {0}) (λ f. tt) x.rows.faces) 1 gs)

  any_gone : (places : List Place) (ms : List (Sent K)) (gs : List (Node K)) → ((k : ℕ) → Each (TellsNoneGone cmp matching) (printed_for k ms)) → FacesHave Gone places ms gs
  any_gone places ms gs none_ = faces_any Gone places ms gs (λ j k g f. each_weaker (TellsNoneGone cmp matching) (GoneFor cmp matching g f.region) (λ m one. none_gone cmp matching g f.region m one) (printed_for k ms) (none_ k))

  -- own rows aside
  gone_shown : (g : Rows K) (own : Region) (m : Message K) → GoneFor cmp matching g own m → GoneFor cmp matching (without_own g) own m
  gone_shown g own (message.UndeclareToken id (Some e) node) gone = λ plain. visible_shown cmp matching g own e ∙ gone plain
  gone_shown g own (message.UndeclareToken id None node) gone = tt
  gone_shown g own (message.DeclareToken id e interest node) gone = tt
  gone_shown g own (message.DeclareFinal interest) gone = tt
  gone_shown g own (message.Interest id mode options e) gone = tt
  gone_shown g own (message.InterestFinal id) gone = tt
  gone_shown g own (message.DeclareSubscriber id e interest) gone = tt
  gone_shown g own (message.DeclareQueryable id e info interest) gone = tt

  -- as a turn has it
  is_gone : (m : Message K) (o : Option (FaceAt K)) → ((x : FaceAt K) → o ≡ Some x → GoneFor cmp matching x.rows x.face.region m) → IsGone cmp matching m o
  is_gone (message.UndeclareToken id (Some e) node) (Some x) gone = λ plain. seen_is cmp x.rows x.face.region e ∙ gone x refl plain
  is_gone (message.UndeclareToken id (Some e) node) None gone = tt
  is_gone (message.UndeclareToken id None node) o gone = tt
  is_gone (message.DeclareToken id e interest node) o gone = tt
  is_gone (message.DeclareFinal interest) o gone = tt
  is_gone (message.Interest id mode options e) o gone = tt
  is_gone (message.InterestFinal id) o gone = tt
  is_gone (message.DeclareSubscriber id e interest) o gone = tt
  is_gone (message.DeclareQueryable id e info interest) o gone = tt

  module _ (total : IsTotalOrder cmp) (equal_is_same : (a b : K) → cmp a b ≡ Equal → a ≡ b) where
    abbrev Comes : Fabric K → List (CallAt K) → List (Sent K) → List Place → List (Node K) → List (Node K) → Type 0
    Comes s calls ms places ws gs = FacesHave Gone places ms gs

    -- a closing, after what was printed before it
    closing_step : (n k : ℕ) (g : Rows K) → RowsAreInOrder cmp matching g → Unit {0} → (before : ℕ → List (Message K)) → Each (λ f. Gone n g f (before f.number)) g.faces
        → (let h = rows_after_call cmp matching (CloseFace k) g in Each (λ f. Gone n h f (before f.number ++ messages_for f.number (said cmp matching (CloseFace k) g))) h.faces)
    closing_step n k g ordered _ before all =
        let h = rows_after_call cmp matching (CloseFace k) g in
        each_both (λ f. Each (GoneFor cmp matching h f.region) (before f.number)) (λ f. Each (GoneFor cmp matching h f.region) (messages_for f.number (said cmp matching (CloseFace k) g))) (λ f. Gone n h f (before f.number ++ messages_for f.number (said cmp matching (CloseFace k) g)))
        (λ f one two. each_append (GoneFor cmp matching h f.region) (before f.number) (messages_for f.number (said cmp matching (CloseFace k) g)) one two) h.faces
        (each_gone_still cmp matching g h before (closing_fades_all cmp matching k g) all) (call_gone cmp matching equal_is_same (CloseFace k) g ordered.lists.faces_rise)

    gone_of_calls : IsOfCalls cmp matching (λ s. Unit {0}) Comes
    gone_of_calls = record {
      nothing = λ s fine _. nothing_gone s.faces s.gateways;
      gateway = λ mode zid regions timeout refused node s new_ fine _. nothing_gone s.faces (s.gateways ++ node ∷ []);
      call = λ spent n node c s at_ still accepted fine _.
          let gateway = gateway_in_order cmp matching s n node at_ fine in
          let ss = said cmp matching c node.rows in
          let placed = altered_faces cmp matching total (λ k. is_placed n k s.faces ≡ true) c node.rows still gateway.rows.lists gateway.placed in
          faces_called Gone n node (rows_after_call cmp matching c) s.faces ss (messages_at cmp matching s.faces n c node) s.gateways (prints_sorted s.faces n ss) at_ (heard_faces_placed cmp matching s.faces n ss (altered cmp matching c node.rows) placed.0)
          (call_gone cmp matching equal_is_same c node.rows gateway.rows.lists.faces_rise) (faces_placed cmp matching s fine)
          (each_from_always (λ j (x : Node K). j ≢ n → Each (λ f. Gone j x.rows f []) x.rows.faces) (λ j x _. each_always (λ f. Unit {0}) (λ f. tt) x.rows.faces) 1 s.gateways);
      session = λ n first node s at_ real fine _. nothing_gone (with_place n s).faces (with_rows n (rows_after_call cmp matching (NewSession first)) s).gateways;
      transport = λ spent n node zid whatami region bound first s at_ real accepted fine _.
          let c : PlainCall K = NewTransport zid whatami region bound first in
          any_gone (with_place n s).faces (messages_at cmp matching (with_place n s).faces n c node) (with_rows n (rows_after_call cmp matching c) s).gateways
          (λ k. printed_sorted_each cmp matching (TellsNoneGone cmp matching) k (map (printed_at (with_place n s).faces n) (said cmp matching c node.rows))
          (each_map (λ (m : Sent K). TellsNoneGone cmp matching m.message) (printed_at (with_place n s).faces n) (said cmp matching c node.rows) (opening_says cmp matching (TellsNoneGone cmp matching) (λ i mode options e. tt) (λ i e. tt) (λ i. tt) zid whatami region bound first node.rows)));
      link = λ spent one two first back s real real_back accepted fine _.
          let ends = link_ends s one two first back in
          let X = opened_ends cmp matching ends s in
          let ms = sorted_by_face (said_opening cmp matching ends s) in
          any_gone X.faces ms (after_hearing cmp ms X).gateways (λ k. printed_sorted_each cmp matching (TellsNoneGone cmp matching) k (said_opening cmp matching ends s) (openings_say cmp matching (TellsNoneGone cmp matching) (λ i mode options e. tt) (λ i e. tt) (λ i. tt) ends s));
      unlink = λ n s fine _.
          unlinked_go_on cmp matching total (λ g. Unit {0}) Gone (λ k g ordered _. tt) closing_step (both_ends cmp matching s n) s fine (each_always (λ (x : Node K). Unit {0}) (λ x. tt) s.gateways) (nothing_gone s.faces s.gateways);
    }

    gone_shows : (s : Fabric K) (t : Turn K) → FabricIsInOrder cmp matching s → Unit {0} → IsShownTurn cmp matching total (λ s. Unit {0}) Comes gone_of_calls s t → UndeclaresWhatIsGone cmp matching t
    gone_shows s t fine _ is =
        let Z = after_hearing cmp (printed t) is.changed in
        each_weaker (λ m. (x : FaceAt K) → face_numbered t.after m.face ≡ Some x → GoneFor cmp matching x.rows x.face.region m.message) (λ m. IsGone cmp matching m.message (face_numbered t.after m.face))
        (λ m judged. is_gone m.message (face_numbered t.after m.face) judged) (printed t)
        (messages_judged cmp matching (λ j g f m. GoneFor cmp matching g f.region m) Z t.after (printed t) is.after_order is.after_places is.after_gateways
        (faces_weaker Gone (λ j g f xs. Each (GoneFor cmp matching (without_own g) f.region) xs) is.changed.faces (printed t)
        (λ j g f xs all. each_weaker (GoneFor cmp matching g f.region) (GoneFor cmp matching (without_own g) f.region) (λ m one. gone_shown g f.region m one) xs all) 1 Z.gateways is.comes))

    -- Each turn of a transcript tells of what is gone.
    pub turns_untell : (lines : List (PlainLine K)) (s : Fabric K) → Each HasFirstIds lines → FabricIsInOrder cmp matching s
        → Each (UndeclaresWhatIsGone cmp matching) (turns_from cmp matching lines (entries_from cmp matching lines s) (as_shown s))
    turns_untell lines s real fine =
        turns_show cmp matching total (λ s. Unit {0}) Comes gone_of_calls (UndeclaresWhatIsGone cmp matching) gone_shows (λ line x first ordered _. tt) lines s real fine tt
