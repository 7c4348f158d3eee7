-- Each line, accepted or refused, leaves the gateways of a fabric in order.
use Rattle.std.proofs.Common.{◌≡◌, ℕ, ◌≤◌, Bool, false, ◌==◌, not, nat_lt, List, [], ◌∷◌, map, filter, Option, Some, None, is_none, refl, sym, ap, ◌∙◌, subst}
use Rattle.std.specs.Cmp.{IsTotalOrder}
use Rattle.std.specs.List.{list_any}
use Rattle.std.specs.declared.cmp.Ordering.{Ordering}
use Rattle.zt_protocol.specs.Plain.{PlainCall, NewSession, NewTransport, Expire, SetTrees, PlainLine, Gateway, Session, Face as FaceLine, Link as LinkLine, Unlink, Step, Speak, Moment, SetTreesAt}
use Rattle.zt_protocol.specs.Refusal.{number_of}
use Rattle.zt_protocol.specs.declared.entries.Sent.{Sent}
use Rattle.zt_protocol.specs.declared.errors.Refusal.{Refusal}
use Rattle.zt_protocol.specs.declared.messages.Message.{Message}
use Rattle.zt_model.specs.Fabric.{CallAt, Fabric, Node, after_hearing, after_refusal, altered_at, altered_by_line, at_nth, both_ends, call_of_step, new_rows, line_causes, call_of, closed_ends, entry_by, entry_of, fabric_after, gateways_after_hearing, line_causes, line_spends_ids, opened_at, opened_ends, said_at, said_by_line, said_closing, said_opening, sorted_by_face, table_at, with_place, with_rows, with_session, with_waiting, without_message}
use Rattle.zt_model.specs.Linking.{LinkEnd, link_ends, sending_end, with_link, with_taken, without_link}
use Rattle.zt_model.specs.Lists.{nth, without_id}
use Rattle.zt_model.specs.Places.{Link}
use Rattle.zt_model.specs.Refusals.{first_cause}
use Rattle.zt_model.specs.Rows.{ById}
use Rattle.zt_model.specs.Says.{altered, altered_by, parts_of, said, said_by}
use Rattle.zt_model.specs.Transcript.{Each}
use Rattle.zt_laws.specs.Order.{FabricIsInOrder}
use Rattle.zt_laws.specs.Sound.{HasFirstIds, opens_face}
use Rattle.zt_laws.proofs.Calls.{no_cause}
use Rattle.zt_laws.proofs.Ends.{ends_in_order, opened_elsewhere}
use Rattle.zt_laws.proofs.Gateways.{after_hearing_nothing, prints_map, prints_sorted}
use Rattle.zt_laws.proofs.Interleaving.{hearing_alike}
use Rattle.zt_laws.proofs.LinesOrder.{called_at, called_by_speaker, called_by_step, in_order_called, in_order_gateway, in_order_opened}
use Rattle.zt_laws.proofs.Lists.{of_cond}
use Rattle.zt_laws.proofs.Sorting.{printed, printed_sorted}
use Rattle.zt_laws.proofs.Unlinking.{unlinked_in_order}

module _ {K : Type 0} (cmp : K → K → Ordering) (matching : K → K → Bool) where
  -- links and what waits say nothing of order
  in_order_elsewhere : (links : List Link) (waiting : ById (List (Message K))) (s : Fabric K) → FabricIsInOrder cmp matching s → FabricIsInOrder cmp matching (record s { links = links; waiting = waiting })
  in_order_elsewhere links waiting s fine = record { gateways = fine.gateways; places_exist = fine.places_exist }

  still_in_order : (ms : List (Sent K)) (s : Fabric K) → ms ≡ [] → FabricIsInOrder cmp matching s → FabricIsInOrder cmp matching (after_hearing cmp ms s)
  still_in_order ms s none_ fine = subst (FabricIsInOrder cmp matching) (sym (ap (λ xs. after_hearing cmp xs s) none_ ∙ after_hearing_nothing cmp s)) fine

  sorted_or_not : (ms : List (Sent K)) (s : Fabric K) → FabricIsInOrder cmp matching (after_hearing cmp ms s) → FabricIsInOrder cmp matching (after_hearing cmp (sorted_by_face ms) s)
  sorted_or_not ms s fine = subst (FabricIsInOrder cmp matching) (sym (hearing_alike cmp (sorted_by_face ms) ms s (λ n. printed_sorted n ms))) fine

  -- hearing looks at no link
  heard_elsewhere : (ms : List (Sent K)) (links : List Link) (waiting : ById (List (Message K))) (s : Fabric K) → FabricIsInOrder cmp matching (after_hearing cmp ms s) → FabricIsInOrder cmp matching (after_hearing cmp ms (record s { links = links; waiting = waiting }))
  unfolding gateways_after_hearing
  heard_elsewhere ms links waiting s fine = record { gateways = fine.gateways; places_exist = fine.places_exist }

  without_link_in_order : (n : ℕ) (ms : List (Sent K)) (s : Fabric K) → FabricIsInOrder cmp matching (after_hearing cmp ms s) → FabricIsInOrder cmp matching (after_hearing cmp ms (without_link n s))
  without_link_in_order n ms s fine = cases (nth n s.links)
    where
      cases : (o : Option Link) → FabricIsInOrder cmp matching (after_hearing cmp ms (elim o [ None ↦ s | Some link ↦ record s { links = at_nth n (λ l. record l { is_open = false }) s.links; waiting = without_id link.one (without_id link.two s.waiting) } ]))
      cases None = fine
      cases (Some link) = heard_elsewhere ms (at_nth n (λ l. record l { is_open = false }) s.links) (without_id link.one (without_id link.two s.waiting)) s fine

  -- a message was taken from its link
  pub without_message_is : (n : ℕ) (back : Bool) (s : Fabric K) → (waiting : ById (List (Message K))) × (without_message n back s ≡ record s { waiting = waiting })
  without_message_is n back s = cases (nth n s.links)
    where
      cases : (o : Option Link) → (waiting : ById (List (Message K))) × ((let after : Fabric K = elim o [ None ↦ s | Some link ↦ with_taken (sending_end link back) s ] in after) ≡ record s { waiting = waiting })
      cases None = (s.waiting, refl)
      cases (Some link) = ((with_taken (sending_end link back) s).waiting, refl)

  -- the ends of a link have the line's first ids
  pub starts_real : (s : Fabric K) (one two first back : ℕ) → 1 ≤ first → 1 ≤ back → Each (λ end. 1 ≤ end.first) (link_ends s one two first back)
  starts_real s one two first back here there = cases (nth one s.gateways) (nth two s.gateways)
    where
      cases : (a b : Option (Node K)) → (let ends : List (LinkEnd K) = elim a [
        | None ↦ []
        | Some a ↦
            elim b [
              | None ↦ []
              | Some b ↦ record { gateway = one; node = a; beyond = two; other = b; first = first } ∷ record { gateway = two; node = b; beyond = one; other = a; first = back } ∷ []
            ]
      ] in Each (λ (end : LinkEnd K). 1 ≤ end.first) ends)
      cases None b = tt
      cases (Some a) None = tt
      cases (Some a) (Some b) = (here, (there, tt))

  module _ (total : IsTotalOrder cmp) where
    -- a call that is made at its gateway, with a fabric of other waiting messages
    called_in_order : (n : ℕ) (node : Node K) (c : PlainCall K) (s : Fabric K) (waiting : ById (List (Message K))) → nth n s.gateways ≡ Some node → opens_face c ≡ false → FabricIsInOrder cmp matching s
        → (let at : Option (CallAt K) = Some (record { gateway = n; rows = node.rows; call = c }) in FabricIsInOrder cmp matching (after_hearing cmp (sorted_by_face (said_at cmp matching s at)) (altered_at cmp matching (record s { waiting = waiting }) at)))
    called_in_order n node c s waiting at_ still fine =
        heard_elsewhere (sorted_by_face (said_at cmp matching s (Some (record { gateway = n; rows = node.rows; call = c })))) s.links waiting (with_rows n (altered cmp matching c) s)
        (in_order_called cmp matching total n node c s (sorted_by_face (said_at cmp matching s (Some (record { gateway = n; rows = node.rows; call = c })))) (prints_sorted s.faces n (said cmp matching c node.rows)) at_ still fine)

    abbrev Called : Fabric K → Option (CallAt K) → Type 0
    Called s at = FabricIsInOrder cmp matching (after_hearing cmp (sorted_by_face (said_at cmp matching s at)) (altered_at cmp matching s at))

    line_heard : (spent : Bool) (line : PlainLine K) (s : Fabric K) → HasFirstIds line → first_cause (line_causes cmp matching spent line s) ≡ None → FabricIsInOrder cmp matching s
        → FabricIsInOrder cmp matching (after_hearing cmp (sorted_by_face (said_by_line cmp matching line s)) (altered_by_line cmp matching line s))
    unfolding altered_by_line said_by_line line_causes call_of sorted_by_face parts_of said_by altered_by
    line_heard spent (Gateway mode zid regions south name timeout refused) s real accepted fine =
        still_in_order [] _ refl (in_order_gateway cmp matching (record { rows = new_rows mode zid regions timeout refused; south = south; name = name }) mode zid regions timeout refused s refl fine)
    line_heard spent (Session n first) s real accepted fine = cases (nth n s.gateways) refl (no_cause _ _ _ accepted).0
      where
        G : Option (CallAt K) → Type 0
        G at = FabricIsInOrder cmp matching (after_hearing cmp (sorted_by_face (said_at cmp matching s at)) (with_session n first s))

        cases : (o : Option (Node K)) → nth n s.gateways ≡ o → is_none o ≡ false → G (elim o [ None ↦ None | Some node ↦ Some (record { gateway = n; rows = node.rows; call = NewSession first }) ])
        cases None at_ known = cc
        cases (Some node) at_ known = in_order_opened cmp matching total n node (NewSession first) s [] (prints_map (with_place n s).faces n (said cmp matching (NewSession first) node.rows)) at_ refl real fine
    line_heard spent (FaceLine n mode zid region bound first) s real accepted fine =
        let c : PlainCall K = NewTransport zid mode region bound first in
        called_at (λ at. FabricIsInOrder cmp matching (after_hearing cmp (sorted_by_face (said_at cmp matching (opened_at cmp matching at s) at)) (opened_at cmp matching at s))) s n c (still_in_order [] s refl fine)
        (λ node at_. in_order_opened cmp matching total n node c s (sorted_by_face (map (printed (with_place n s).faces n) (said cmp matching c node.rows))) (prints_sorted (with_place n s).faces n (said cmp matching c node.rows)) at_ refl real fine)
    line_heard spent (LinkLine one two first back) s real accepted fine =
        let ends = link_ends s one two first back in
        let ms = said_opening cmp matching ends s in
        let linked = with_link s in
        subst (λ (t : Fabric K). FabricIsInOrder cmp matching (after_hearing cmp (sorted_by_face ms) t)) (sym (opened_elsewhere cmp matching total ends linked.links linked.waiting s))
        (heard_elsewhere (sorted_by_face ms) linked.links linked.waiting (opened_ends cmp matching ends s) (sorted_or_not ms (opened_ends cmp matching ends s) (ends_in_order cmp matching total ends s (starts_real s one two first back real.0 real.1) fine)))
    line_heard spent (Unlink link) s real accepted fine =
        let fs = both_ends cmp matching s link in
        let ms = filter (λ m. not (list_any (λ face. face == m.face) fs)) (said_closing cmp matching fs s) in
        without_link_in_order link (sorted_by_face ms) (closed_ends cmp matching fs s) (sorted_or_not ms (closed_ends cmp matching fs s) (unlinked_in_order cmp matching total fs s fine))
    line_heard spent (Step link back) s real accepted fine =
        let taken = without_message_is link back s in
        subst (λ (t : Fabric K). FabricIsInOrder cmp matching (after_hearing cmp (sorted_by_face (said_at cmp matching s (call_of_step s back (nth link s.links)))) (altered_at cmp matching t (call_of_step s back (nth link s.links))))) (sym taken.1)
        (called_by_step (λ at. FabricIsInOrder cmp matching (after_hearing cmp (sorted_by_face (said_at cmp matching s at)) (altered_at cmp matching (record s { waiting = taken.0 }) at))) s back (nth link s.links)
        (still_in_order [] (record s { waiting = taken.0 }) refl (in_order_elsewhere s.links taken.0 s fine))
        (λ n node c at_ still. called_in_order n node c s taken.0 at_ still fine))
    line_heard spent (Speak c) s real accepted fine = called_by_speaker (Called s) s c (still_in_order [] s refl fine) (λ n node c at_ still. called_in_order n node c s s.waiting at_ still fine)
    line_heard spent (Moment n now) s real accepted fine = called_at (Called s) s n (Expire now) (still_in_order [] s refl fine) (λ node at_. called_in_order n node (Expire now) s s.waiting at_ refl fine)
    line_heard spent (SetTreesAt n region t) s real accepted fine =
        called_at (Called s) s n (SetTrees region (table_at s n t)) (still_in_order [] s refl fine) (λ node at_. called_in_order n node (SetTrees region (table_at s n t)) s s.waiting at_ refl fine)

    -- a refused line changes no gateway
    refused_in_order : (line : PlainLine K) (r : Refusal) (s : Fabric K) → FabricIsInOrder cmp matching s → FabricIsInOrder cmp matching (after_refusal cmp matching line r s)
    refused_in_order (Step link back) r s fine =
        let taken = without_message_is link back s in
        of_cond (FabricIsInOrder cmp matching) (nat_lt 3 (number_of r)) (without_message link back s) s (λ _. subst (FabricIsInOrder cmp matching) (sym taken.1) (in_order_elsewhere s.links taken.0 s fine)) (λ _. fine)
    refused_in_order (Gateway mode zid regions south name timeout refused) r s fine = fine
    refused_in_order (Session gateway first) r s fine = fine
    refused_in_order (FaceLine gateway mode zid region bound first) r s fine = fine
    refused_in_order (LinkLine one two first back) r s fine = fine
    refused_in_order (Unlink link) r s fine = fine
    refused_in_order (Speak call) r s fine = fine
    refused_in_order (Moment gateway now) r s fine = fine
    refused_in_order (SetTreesAt gateway region table) r s fine = fine

    -- Each line leaves the fabric in order.
    pub in_order_after_line : (line : PlainLine K) (s : Fabric K) → HasFirstIds line → FabricIsInOrder cmp matching s → FabricIsInOrder cmp matching (fabric_after cmp matching line (entry_of cmp matching line s) s)
    unfolding fabric_after entry_of
    in_order_after_line line s real fine = cases (first_cause (line_causes cmp matching (line_spends_ids cmp matching line s) line s)) refl
      where
        spent : Bool
        spent = line_spends_ids cmp matching line s

        cases : (o : Option Refusal) → first_cause (line_causes cmp matching spent line s) ≡ o → FabricIsInOrder cmp matching (fabric_after cmp matching line (entry_by cmp matching o (sorted_by_face (said_by_line cmp matching line s))) s)
        cases None accepted =
            let ms = sorted_by_face (said_by_line cmp matching line s) in
            let heard = after_hearing cmp ms (altered_by_line cmp matching line s) in
            in_order_elsewhere heard.links (with_waiting ms heard).waiting heard (line_heard spent line s real accepted fine)
        cases (Some r) refused = refused_in_order line r s fine
